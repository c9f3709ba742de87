-- The cheapest row of a job, by its numbers.
use Rattle.std.proofs.Common.{◌≡◌, false, ℕ, ◌+◌, ◌-◌, ◌*◌, ◌^◌, ◌≤◌, ◌<◌, ◌||◌, nat_le, nat_lt, refl, pos, IsTrue, mul-le-mul_left, List, [], ◌∷◌, length, get_or, map, min, ap, ◌∙◌, arith, All}
use Rattle.std.specs.List.{fold, range_with_len}
use Rattle.std.proofs.lemmas.Bool.{false≢true}
use Rattle.std.proofs.lemmas.List.Elements.{All-head, All-tail}
use Rattle.std.proofs.lemmas.List.FromFn.{length-range_with_len, get_or-range_with_len}
use Rattle.tf_model.specs.declared.problem.Goal.{Goal}
use Rattle.tf_model.specs.declared.problem.Goal.TheVariants as goals
use Rattle.tf_model.specs.Limit.{limit}
use Rattle.tf_check.specs.Bound.{least_number}
use Rattle.tf_posed.specs.ProblemData.{ProblemData, problem_time, problem_weight, due_by}
use Rattle.tf_problem.specs.ProblemBounds.{is_completion_goal}
use Rattle.tf_problem.proofs.Least.{least_number-le}
use Rattle.tf_problem.proofs.RowPrices.{completion_sum}
use Rattle.tf_bound.specs.Faulted.{is_dear, last_start}
use Rattle.tf_bound.specs.Prices.{is_by_unit}
use Rattle.tf_bound.specs.RowSums.{late_steps}
use Rattle.tf_bound.proofs.Cheapest.{dear_is}

-- a number that is at most each of some is at most the least of them
fold-min-ge : (f : ℕ → ℕ) (x a : ℕ) (xs : List ℕ) → x ≤ a → All (λ t. x ≤ f t) xs
    → x ≤ fold min a (map f xs)
fold-min-ge f x a [] le all = le
fold-min-ge f x a (t ∷ xs) le all =
    fold-min-ge f x (min a (f t)) xs (omega (arith, le, All-head (λ s. x ≤ f s) t xs all))
    (All-tail (λ s. x ≤ f s) t xs all)

least_number-ge : (f : ℕ → ℕ) (x : ℕ) (xs : List ℕ) → 0 < length xs → All (λ t. x ≤ f t) xs
    → x ≤ least_number f xs
least_number-ge f x [] some all = absurd (omega arith)
least_number-ge f x (t ∷ xs) some all =
    fold-min-ge f x (f t) (t ∷ xs) (All-head (λ s. x ≤ f s) t xs all) all

-- what is at most each number from r to last, and one of them, is the least of them
pub least_is : (f : ℕ → ℕ) (r n x : ℕ) → ((t : ℕ) → r ≤ t → t ≤ r + n → x ≤ f t)
    → (s : ℕ) → r ≤ s → s ≤ r + n → x ≡ f s → x ≡ least_number f (range_with_len r (n + 1))
least_is f r n x below s low high is =
    let rows : List ℕ = range_with_len r (n + 1) in
    let len : length rows ≡ n + 1 = length-range_with_len r (n + 1) in
    let at : get_or rows (s - r) 0 ≡ s =
    get_or-range_with_len r (n + 1) (s - r) 0 (omega (arith, low, high)) ∙ omega (arith, low) in
    let reached : least_number f rows ≤ f s =
    omega (arith, least_number-le f rows (s - r) 0 (omega (arith, len, low, high)), ap f at) in
    let least : x ≤ least_number f rows =
    least_number-ge f x rows (omega (arith, len))
    (λ i d lt.
    let is : get_or rows i d ≡ r + i = get_or-range_with_len r (n + 1) i d (omega (arith, lt, len)) in
    omega (
      arith,
      below (r + i) (omega arith) (omega (arith, lt, len)),
      ap f is,
    )) in
    omega (arith, reached, least, is)

-- ---- the numbers of a job

completion_due : (g : Goal) → IsTrue (is_completion_goal g) → (k : ProblemData) (j : ℕ)
    → pos 0 ≡ due_by g k j
completion_due goals.SumC h k j = refl
completion_due goals.SumWC h k j = refl
completion_due _ h k j = absurd (false≢true h)

completion_unit : (g : Goal) → IsTrue (is_completion_goal g) → false ≡ is_by_unit g
completion_unit goals.SumC h = refl
completion_unit goals.SumWC h = refl
completion_unit _ h = absurd (false≢true h)

-- whether a job is dear, where it completes within the limit from its last start
pub dear_by : (k : ProblemData) (q : ℕ) (prices : List ℕ) (j : ℕ)
    → IsTrue (is_completion_goal k.problem.goal) → (time last weight : ℕ)
    → time ≡ problem_time k j → last ≡ last_start k prices j → weight ≡ problem_weight k j
    → last + time ≤ limit
    → (nat_le (2 ^ 64) (q * weight)
    || nat_lt limit (q * weight * late_steps false (pos 0) (last + time)))
    ≡ is_dear k q prices j
dear_by k q prices j completions time last weight lasts at weighs within =
    dear_is k q prices j (completion_sum k.problem.goal completions) time last weight false (pos 0)
    lasts at weighs (completion_unit k.problem.goal completions)
    (completion_due k.problem.goal completions k j) within

-- what a job costs is within twice the limit
pub cost_within : (slope last time cheapest : ℕ) → 1 ≤ time
    → slope * late_steps false (pos 0) (last + time) ≤ limit → cheapest ≤ slope * last
    → slope * (time + 1) + 2 * cheapest ≤ 2 * limit
cost_within slope last time cheapest some small below =
    let steps : late_steps false (pos 0) (last + time) ≡ last + time = omega arith in
    let one : slope * 1 ≤ slope * time = mul-le-mul_left slope some in
    omega (arith, small, below, one, ap (λ n. slope * n) steps)
