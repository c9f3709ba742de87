-- The cheapest start of a job on one machine of a shop, by the job's numbers.
use Rattle.std.proofs.Common.{◌≡◌, Bool, ℕ, ◌+◌, ◌-◌, ◌*◌, ◌≤◌, ◌<◌, ℤ, List, [], ◌∷◌, length, map, min, max, refl, ap, ◌∙◌, ⊎_elim, arith, IsTrue, mul-le-mul_left}
use Rattle.std.specs.List.{fold, range_with_len}
use Rattle.std.proofs.lemmas.Bool.{cases_lt}
use Rattle.tf_check.specs.Bound.{least_number}
use Rattle.tf_posed.specs.ProblemData.{ProblemData, problem_time_on, problem_release, problem_weight, problem_due}
use Rattle.tf_posed.specs.ProblemCost.{penalty}
use Rattle.tf_problem.specs.ProblemBounds.{is_sum_goal, head, tail, problem_work, price_of_rows}
use Rattle.tf_problem.specs.MachinePrices.{end_from, price_from, cheapest_from}
use Rattle.tf_bound.specs.Prices.{is_by_unit}
use Rattle.tf_bound.specs.RowSums.{late_steps}
use Rattle.tf_bound.specs.Visits.{visit_end, visit_price, cheapest_visit}
use Rattle.tf_bound.proofs.Cheapest.{penalty_is}
use Rattle.tf_bound.proofs.RowPrices.{least_is}
use Rattle.tf_bound.proofs.RowSums.{late_steps-rises}

-- ---- the least of what the starts cost

fold-same : (f g : ℕ → ℕ) (a b : ℕ) (xs : List ℕ) → a ≡ b → ((t : ℕ) → f t ≡ g t)
    → fold min a (map f xs) ≡ fold min b (map g xs)
fold-same f g a b [] e is = e
fold-same f g a b (x ∷ xs) e is =
    fold-same f g (min a (f x)) (min b (g x)) xs (omega (arith, e, is x)) is

least-same : (f g : ℕ → ℕ) (xs : List ℕ) → ((t : ℕ) → f t ≡ g t)
    → least_number f xs ≡ least_number g xs
least-same f g [] is = refl
least-same f g (x ∷ xs) is = fold-same f g (f x) (g x) (x ∷ xs) (is x) is

-- what was seen of all starts up to the last one, and was reached, is the least of all
pub visits-least : (P : ℕ → ℕ) (r n last best start : ℕ) → last ≡ max r n
    → ((s : ℕ) → r ≤ s → s < start → best ≤ P s) → last ≤ start → best ≤ P last
    → (t : ℕ) → r ≤ t → t ≤ last → best ≡ P t
    → best ≡ least_number P (range_with_len r (n - r + 1))
visits-least P r n last best start is so_far end here t low high reached =
    least_is P r (n - r) best
    (λ s from to.
    ⊎_elim
    (λ before. so_far s from (omega (arith, before, end)))
    (λ past.
    let same : last ≡ s = omega (arith, is, past, to) in
    omega (arith, here, ap P same))
    (cases_lt s last))
    t low (omega (arith, is, high)) reached

-- ---- what a late completion costs

-- the slope, as often as the job's completion asks, is q times what it adds to the objective
pub pays_is : (k : ProblemData) (q j : ℕ) → IsTrue (is_sum_goal k.problem.goal)
    → (slope : ℕ) (by_unit : Bool) (due : ℤ) (e c : ℕ) → slope ≡ q * problem_weight k j
    → by_unit ≡ is_by_unit k.problem.goal → due ≡ problem_due k j → e ≡ c
    → slope * late_steps by_unit due e ≡ q * penalty k.problem.goal k j c
pays_is k q j sums slope by_unit due e c slopes unit dues ends =
    let w : ℕ = problem_weight k j in
    let steps : late_steps by_unit due e
    ≡ late_steps (is_by_unit k.problem.goal) (problem_due k j) c =
    ap (λ b. late_steps b due e) unit
    ∙ ap (λ d. late_steps (is_by_unit k.problem.goal) d e) dues
    ∙ ap (λ t. late_steps (is_by_unit k.problem.goal) (problem_due k j) t) ends in
    let pays : q * penalty k.problem.goal k j c
    ≡ q * (w * late_steps (is_by_unit k.problem.goal) (problem_due k j) c) =
    ap (λ x. q * x) (penalty_is k.problem.goal sums k j c) in
    let same : slope * late_steps by_unit due e
    ≡ q * w * late_steps (is_by_unit k.problem.goal) (problem_due k j) c =
    ap (λ x. x * late_steps by_unit due e) slopes ∙ ap (λ x. q * w * x) steps in
    omega (arith, pays, same)

-- an earlier start pays no more
pub visit-rises : (slope : ℕ) (by_unit : Bool) (due : ℤ) (time rest earliest s t : ℕ) → s ≤ t
    → slope * late_steps by_unit due (visit_end time rest earliest s)
    ≤ slope * late_steps by_unit due (visit_end time rest earliest t)
visit-rises slope by_unit due time rest earliest s t le =
    mul-le-mul_left slope
    (late_steps-rises by_unit due (visit_end time rest earliest s) (visit_end time rest earliest t)
    (omega (arith, le)))

-- the cheapest start by a job's numbers is its cheapest
pub cheapest_is : (k : ProblemData) (a q : ℕ) (prices : List ℕ) (j : ℕ)
    → IsTrue (is_sum_goal k.problem.goal) → (first time rest earliest : ℕ) (by_unit : Bool) (slope : ℕ)
    (due : ℤ) → first ≡ head k a j → time ≡ problem_time_on k j a → rest ≡ tail k a j
    → earliest ≡ problem_release k j + problem_work k j → by_unit ≡ is_by_unit k.problem.goal
    → slope ≡ q * problem_weight k j → due ≡ problem_due k j
    → cheapest_visit prices first time rest earliest by_unit slope due ≡ cheapest_from k a q prices j
cheapest_is k a q prices j sums first time rest earliest by_unit slope due begins lasts goes ends unit slopes dues =
    least-same (visit_price prices time rest earliest by_unit slope due) (price_from k a q prices j)
    (range_with_len first (length prices - first + 1))
    (λ s.
    let end : visit_end time rest earliest s ≡ end_from k a j s = omega (arith, lasts, goes, ends) in
    omega (
      arith,
      pays_is k q j sums slope by_unit due (visit_end time rest earliest s) (end_from k a j s) slopes unit
          dues end,
      ap (λ n. price_of_rows prices s n) lasts,
    ))
    ∙ ap (λ r. least_number (price_from k a q prices j) (range_with_len r (length prices - r + 1))) begins

-- the least so far and one start more
pub best_more : (P : ℕ → ℕ) (low high start old best here : ℕ) → best ≡ min old here
    → here ≡ P start → low ≤ start → start ≤ high
    → (t : ℕ) × (low ≤ t) × (t ≤ high) × (old ≡ P t)
    → (t : ℕ) × (low ≤ t) × (t ≤ high) × (best ≡ P t)
best_more P low high start old best here least is from to reached =
    ⊎_elim
    (λ less. (start, from, to, omega (arith, least, less, is)))
    (λ kept. (reached.0, reached.1, reached.2, omega (arith, least, kept, reached.3)))
    (cases_lt here old)
