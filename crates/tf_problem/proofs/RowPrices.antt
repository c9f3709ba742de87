-- The bound of weighted completions by prices of the rows, whether or not jobs are preempted: each
-- row of a job costs at least what its cheapest one does, and the mean of its rows is by half of its
-- time before its completion.
use Rattle.std.proofs.Common.{◌≡◌, ℕ, zero, suc, ◌+◌, ◌-◌, ◌*◌, ◌≤◌, ◌<◌, List, [], ◌∷◌, length, get_or, sum, max, slice_index, slice_index_or, refl, ap, ◌∙◌, ⊎_elim, arith, sum_by, ℤ, pos, ◌-ℤ◌, ◌≤ℤ◌, IsTrue, mul-le-mul_left}
use Rattle.std.specs.List.{range_with_len}
use Rattle.std.proofs.lemmas.Int.{ints}
use Rattle.std.proofs.lemmas.Bool.{false≢true, cases_lt}
use Rattle.std.proofs.lemmas.List.{get_or_past}
use Rattle.std.proofs.lemmas.List.Sums.{sum_by-cons}
use Rattle.std.proofs.lemmas.List.FromFn.{length-range_with_len, get_or-range_with_len}
use Rattle.tf_model.specs.declared.problem.Goal.{Goal}
use Rattle.tf_model.specs.declared.problem.Goal.TheVariants as goals
use Rattle.tf_model.specs.Timetable.{Timetable, cells_of, all_units, completion}
use Rattle.tf_model.proofs.Sums.{sum_by_le_all, sum_by-plus, sum_by-times}
use Rattle.tf_model.proofs.Units.{cell_with}
use Rattle.tf_posed.specs.ProblemData.{ProblemData, IsProblemSound, IsProblemJob, problem_jobs, problem_time, problem_release, problem_weight, weight_by}
use Rattle.tf_posed.specs.FitsProblem.{FitsProblem}
use Rattle.tf_posed.specs.ProblemCost.{problem_cost, penalty, IsLowerBound}
use Rattle.tf_problem.specs.ProblemBounds.{is_alike, is_completion_goal, is_sum_goal, row_price, cheapest_row, rows_cost, rows_value}
use Rattle.tf_posed.proofs.Conditions.{All-problem_jobs}
use Rattle.tf_problem.proofs.Relaxing.{problem_release-le-row}
use Rattle.tf_problem.proofs.Windows.{alike_no_shop}
use Rattle.tf_problem.proofs.Least.{least_number-le}
use Rattle.tf_problem.proofs.Multipliers.{share-le}
use Rattle.tf_problem.proofs.Middles.{middles, middles-le-completion}
use Rattle.tf_problem.proofs.Prices.{paid, room, sum-cost, IsDistinct-problem_jobs}

-- ---- the cheapest row

-- no row from the release date on costs less
pub cheapest_row-le : (k : ProblemData) (q : ℕ) (prices : List ℕ) (j t : ℕ) → problem_release k j ≤ t
    → cheapest_row k q prices j ≤ row_price k q prices j t
cheapest_row-le k q prices j t from =
    ⊎_elim
    (λ past.
    let rises : q * problem_weight k j * last ≤ q * problem_weight k j * t =
    mul-le-mul_left (q * problem_weight k j) (omega arith) in
    let none : slice_index prices last ≡ 0 = get_or_past prices last 0 (omega arith) in
    let least = within last (omega arith) (omega arith) in
    omega (arith, rises, least, ap (λ x. problem_time k j * x) none))
    (λ before. within t from (omega arith))
    (cases_lt last t)
  where
    r : ℕ
    r = problem_release k j

    last : ℕ
    last = max r (length prices)

    rows : List ℕ
    rows = range_with_len r (length prices - r + 1)

    within : (s : ℕ) → r ≤ s → s ≤ last → cheapest_row k q prices j ≤ row_price k q prices j s
    within s low high =
        let lt : s - r < length prices - r + 1 = omega (arith, low, high) in
        let at : get_or rows (s - r) 0 ≡ s =
        get_or-range_with_len r (length prices - r + 1) (s - r) 0 lt ∙ omega (arith, low) in
        omega (
          arith,
          least_number-le (row_price k q prices j) rows (s - r) 0
              (omega (arith, lt, length-range_with_len r (length prices - r + 1))),
          ap (row_price k q prices j) at,
        )

-- ---- what a job pays

-- one row more, in which the job has b cells, before u others
pays-more : (n w p s b u v m y x : ℕ) → v ≡ b + u → (0 < b → n ≤ w * (s + 0) + p * x)
    → 2 * (u * n) + w * u ≤ w * m + 2 * (p * y)
    → 2 * (v * n) + w * v ≤ w * (b * (2 * s + 1) + m) + 2 * (p * (x * b + y))
pays-more n w p s zero u v m y x is here rest =
    omega (arith, rest, ap (λ z. z * n) is, ap (λ z. w * z) is)
pays-more n w p s (suc b) u v m y x is here rest =
    let each : suc b * n ≤ suc b * (w * (s + 0) + p * x) =
    mul-le-mul_left (suc b) (here (omega arith)) in
    omega (arith, rest, each, ap (λ z. z * n) is, ap (λ z. w * z) is)

-- where each row of a job costs at least n, all of them do
rows-pay : (j n w p s : ℕ) (prices : List ℕ) (rows : Timetable)
    → ((t : ℕ) → 0 < cells_of j (slice_index_or rows t [])
    → n ≤ w * (s + t) + p * slice_index prices t)
    → 2 * (all_units rows j * n) + w * all_units rows j
    ≤ w * middles s rows j + 2 * (p * paid prices rows j)
rows-pay j n w p s [] [] costs = omega arith
rows-pay j n w p s (x ∷ prices) [] costs = omega arith
rows-pay j n w p s [] (row ∷ rows) costs =
    let pays : 2 * (all_units (row ∷ rows) j * n) + w * all_units (row ∷ rows) j
    ≤ w * middles s (row ∷ rows) j + 2 * (p * (0 * cells_of j row + 0)) =
    pays-more n w p s (cells_of j row) (all_units rows j) (all_units (row ∷ rows) j)
    (middles (s + 1) rows j) 0 0 (sum_by-cons (cells_of j) row rows) (costs 0)
    (rows-pay j n w p (s + 1) [] rows (λ t has. omega (arith, costs (suc t) has))) in
    omega (arith, pays)
rows-pay j n w p s (x ∷ prices) (row ∷ rows) costs =
    pays-more n w p s (cells_of j row) (all_units rows j) (all_units (row ∷ rows) j)
    (middles (s + 1) rows j) (paid prices rows j) x (sum_by-cons (cells_of j) row rows) (costs 0)
    (rows-pay j n w p (s + 1) prices rows (λ t has. omega (arith, costs (suc t) has)))

-- a product by a number that is not 0 is the greater the greater the other factor is
cancel : (p a b : ℕ) → 1 ≤ p → p * a ≤ p * b → a ≤ b
cancel p a b some le =
    ⊎_elim
    (λ less. let more : p * (b + 1) ≤ p * a = mul-le-mul_left p (omega (arith, less)) in
    absurd (omega (arith, more, le, some)))
    (λ within. within)
    (cases_lt b a)

-- ---- what a job costs

completion_penalty : (g : Goal) → IsTrue (is_completion_goal g) → (k : ProblemData) (j c : ℕ)
    → penalty g k j c ≡ weight_by g k j * c
completion_penalty goals.SumC h k j c = omega arith
completion_penalty goals.SumWC h k j c = refl
completion_penalty _ h k j c = absurd (false≢true h)

pub completion_sum : (g : Goal) → IsTrue (is_completion_goal g) → IsTrue (is_sum_goal g)
completion_sum goals.SumC h = refl
completion_sum goals.SumWC h = refl
completion_sum _ h = absurd (false≢true h)

module _ (k : ProblemData) (sound : IsProblemSound k) (alike : IsTrue (is_alike k.problem.env))
    (completions : IsTrue (is_completion_goal k.problem.goal)) (rows : Timetable)
    (fits : FitsProblem k rows) where
  -- twice its cost and the prices of its rows are at least what its cheapest rows cost
  rows_cost-le : (q : ℕ) (prices : List ℕ) (j : ℕ) → IsProblemJob k j
      → rows_cost k q prices j
      ≤ 2 * q * penalty k.problem.goal k j (completion rows j) + 2 * paid prices rows j
  rows_cost-le q prices j h =
      let no_shop = alike_no_shop k alike in
      let p : ℕ = problem_time k j in
      let c : ℕ = completion rows j in
      let n : ℕ = cheapest_row k q prices j in
      let w : ℕ = q * problem_weight k j in
      let units : all_units rows j ≡ p = (fits.amount j h.0 h.1).in_all no_shop in
      let early : middles 0 rows j + all_units rows j * all_units rows j
      ≤ 2 * (all_units rows j * (0 + c)) =
      middles-le-completion rows j (fits.single_place j h.0 h.1) 0 in
      let pays : 2 * (all_units rows j * n) + w * all_units rows j
      ≤ w * middles 0 rows j + 2 * (p * paid prices rows j) =
      rows-pay j n w p 0 prices rows
      (λ t has.
      let at = cell_with j (slice_index_or rows t []) has in
      omega (
        arith,
        cheapest_row-le k q prices j t (problem_release-le-row k rows fits j h t at.0 at.1),
      )) in
      let all : 2 * n + w * (p + 1) ≤ 2 * (w * c) + 2 * paid prices rows j =
      cancel p (2 * n + w * (p + 1)) (2 * (w * c) + 2 * paid prices rows j)
      (sound.one_time no_shop j h).1
      (joined (all_units rows j) p n w c (middles 0 rows j) (paid prices rows j) units early pays) in
      let cost : q * penalty k.problem.goal k j c ≡ w * c =
      ap (λ x. q * x) (completion_penalty k.problem.goal completions k j c) ∙ omega arith in
      omega (arith, all, cost)
    where
      joined : (u p n w c m y : ℕ) → u ≡ p → m + u * u ≤ 2 * (u * (0 + c))
          → 2 * (u * n) + w * u ≤ w * m + 2 * (p * y)
          → p * (2 * n + w * (p + 1)) ≤ p * (2 * (w * c) + 2 * y)
      joined u p n w c m y is early pays =
          let square : u * u ≡ p * p = ap (λ z. z * z) is in
          let least : m + p * p ≤ 2 * (p * c) = omega (arith, early, square, ap (λ z. z * c) is) in
          let often : w * (m + p * p) ≤ w * (2 * (p * c)) = mul-le-mul_left w least in
          omega (arith, pays, often, ap (λ z. z * n) is, ap (λ z. w * z) is)

-- one machine or identical machines in parallel, with or without preemption
pub rows-bound : (k : ProblemData) → IsProblemSound k → IsTrue (is_alike k.problem.env)
    → IsTrue (is_completion_goal k.problem.goal) → (q : ℕ) → 1 ≤ q → (prices : List ℕ)
    → IsLowerBound k (rows_value k q prices)
rows-bound k sound alike completions q some prices rows fits =
    let g : Goal = k.problem.goal in
    let f : ℕ → ℕ = λ j. penalty g k j (completion rows j) in
    let pay : ℕ → ℕ = paid prices rows in
    let cost : ℕ → ℕ = rows_cost k q prices in
    let total : ℕ = sum_by f (problem_jobs k) in
    let each : sum_by cost (problem_jobs k)
    ≤ sum_by (λ j. 2 * q * f j + 2 * pay j) (problem_jobs k) =
    sum_by_le_all cost (λ j. 2 * q * f j + 2 * pay j) (problem_jobs k)
    (All-problem_jobs k (λ j. cost j ≤ 2 * q * f j + 2 * pay j)
    (rows_cost-le k sound alike completions rows fits q prices)) in
    let taken : sum_by pay (problem_jobs k) ≤ k.machines * sum prices =
    room k.machines (problem_jobs k) (IsDistinct-problem_jobs k) prices rows fits.width in
    let parts : sum_by cost (problem_jobs k) ≤ 2 * q * total + 2 * k.machines * sum prices =
    omega (
      arith,
      each,
      taken,
      sum_by-plus (λ j. 2 * q * f j) (λ j. 2 * pay j) (problem_jobs k),
      sum_by-times (2 * q) f (problem_jobs k),
      sum_by-times 2 pay (problem_jobs k),
    ) in
    chain (rows_value k q prices) (pos total) (problem_cost k rows)
    (share-le (pos (sum_by cost (problem_jobs k)) -ℤ pos (2 * k.machines * sum prices)) (2 * q) total
    (omega (arith, some))
    (less (sum_by cost (problem_jobs k)) (2 * k.machines * sum prices) (2 * q * total) parts))
    (sum-cost g (completion_sum g completions) k rows)
  where
    chain : (a b c : ℤ) → a ≤ℤ b → b ≤ℤ c → a ≤ℤ c
    chain a b c p r = omega (arith, ints)

    less : (a b c : ℕ) → a ≤ c + b → (pos a -ℤ pos b) ≤ℤ pos c
    less a b c h = omega (arith, ints)
