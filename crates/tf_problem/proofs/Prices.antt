-- The bound of sums by prices of the rows, where no job is broken off: each job at its cheapest
-- start, less what the machines can take in.
use Rattle.std.proofs.Common.{◌≡◌, Bool, ℕ, zero, suc, ◌+◌, ◌-◌, ◌*◌, ◌≤◌, ◌<◌, List, [], ◌∷◌, length, sum, max, slice_index, slice_index_or, take, cond, refl, sym, ap, ◌∙◌, ⊎_elim, arith, sum_by, All, ℤ, pos, ◌-ℤ◌, ◌≤ℤ◌, IsTrue, IsFalse, mul-le-mul_left}
use Rattle.std.proofs.lemmas.Int.{ints}
use Rattle.std.proofs.lemmas.Bool.{false≢true, eq-eqb, cases_lt}
use Rattle.std.proofs.lemmas.List.Sums.{sum_by-cons, get_or-le-sum_by}
use Rattle.std.proofs.lemmas.List.Elements.{All-head, All-tail}
use Rattle.tf_model.specs.declared.problem.Goal.{Goal}
use Rattle.tf_model.specs.declared.problem.Goal.TheVariants as goals
use Rattle.tf_model.specs.Timetable.{Timetable, cell, cells_of, completion}
use Rattle.tf_model.proofs.Sums.{sum_by_le_all, sum_by-plus, sum_by-times, sum_by-zero_terms}
use Rattle.tf_model.proofs.Units.{cell-le-cells_of, cell_at_completion, completion-le-length}
use Rattle.tf_model.proofs.Work.{IsDistinct, cells-le-length}
use Rattle.tf_model.proofs.Loads.{once}
use Rattle.tf_posed.specs.ProblemData.{ProblemData, IsProblemSound, IsProblemJob, problem_jobs, problem_time, time_over, problem_release}
use Rattle.tf_posed.specs.FitsProblem.{FitsProblem}
use Rattle.tf_posed.specs.ProblemCost.{problem_cost, problem_cost_by, penalty, IsLowerBound}
use Rattle.tf_problem.specs.ProblemBounds.{is_alike, is_sum_goal, numerator, price_of_rows, start_price, AreCheapest, last_within, horizon, prices_value, problem_work}
use Rattle.tf_posed.proofs.Conditions.{All-problem_jobs}
use Rattle.tf_problem.proofs.Windows.{alike_no_shop, cells-between, units-le-rows, one_time-le-completion}
use Rattle.tf_problem.proofs.Multipliers.{share-le}
use Rattle.tf_problem.proofs.Least.{Contains-problem_jobs}
use Rattle.tf_problem.proofs.Rising.{penalty-rises}
use Rattle.tf_problem.proofs.Horizon.{horizon-law, release-le-last}

abbrev as_one : Bool → ℕ
as_one t = cond t 1 0

-- ---- what a job pays

-- the prices of the cells that a job has
abbrev pub paid : List ℕ → Timetable → ℕ → ℕ
paid [] rows j = 0
paid (x ∷ prices) [] j = 0
paid (x ∷ prices) (row ∷ rows) j = x * cells_of j row + paid prices rows j

sum_of : (x : ℕ) (xs : List ℕ) → sum (x ∷ xs) ≡ x + sum xs
sum_of x xs = sum_by-cons (λ y. y) x xs

-- no row is paid for more often than it has cells
pub room : (m : ℕ) (jobs : List ℕ) → IsDistinct jobs → (prices : List ℕ) (rows : Timetable)
    → All (λ row. length row ≡ m) rows → sum_by (paid prices rows) jobs ≤ m * sum prices
room m jobs distinct [] rows width = omega (arith, sum_by-zero_terms jobs)
room m jobs distinct (x ∷ prices) [] width = omega (arith, sum_by-zero_terms jobs)
room m jobs distinct (x ∷ prices) (row ∷ rows) width =
    let cells : sum_by (λ j. cells_of j row) jobs ≤ m =
    omega (
      arith,
      cells-le-length jobs distinct row,
      All-head (λ r. length r ≡ m) row rows width,
    ) in
    let here : x * sum_by (λ j. cells_of j row) jobs ≤ x * m = mul-le-mul_left x cells in
    let split : sum_by (paid (x ∷ prices) (row ∷ rows)) jobs
    ≡ sum_by (λ j. x * cells_of j row + paid prices rows j) jobs = refl in
    let all : m * sum (x ∷ prices) ≡ m * x + m * sum prices =
    ap (λ t. m * t) (sum_of x prices) ∙ omega arith in
    omega (
      arith,
      here,
      split,
      all,
      sum_by-plus (λ j. x * cells_of j row) (paid prices rows) jobs,
      sum_by-times x (λ j. cells_of j row) jobs,
      room m jobs distinct prices rows (All-tail (λ r. length r ≡ m) row rows width),
    )

-- a job that stands in n rows from row s on pays for them
pub pays : (j n s : ℕ) (prices : List ℕ) (rows : Timetable)
    → ((t : ℕ) → s ≤ t → t < s + n → 1 ≤ cells_of j (slice_index_or rows t []))
    → price_of_rows prices s n ≤ paid prices rows j
pays j zero s prices rows stands = omega arith
pays j (suc n) zero [] rows stands = omega arith
pays j (suc n) (suc s) [] rows stands = omega arith
pays j (suc n) zero (x ∷ prices) [] stands = absurd (omega (arith, stands 0 (omega arith) (omega arith)))
pays j (suc n) (suc s) (x ∷ prices) [] stands =
    absurd (omega (arith, stands (suc s) (omega arith) (omega arith)))
pays j (suc n) zero (x ∷ prices) (row ∷ rows) stands =
    let here : x * 1 ≤ x * cells_of j row =
    mul-le-mul_left x (stands 0 (omega arith) (omega arith)) in
    omega (
      arith,
      here,
      sum_of x (take n prices),
      pays j n zero prices rows (λ t low high. stands (suc t) (omega arith) (omega arith)),
    )
pays j (suc n) (suc s) (x ∷ prices) (row ∷ rows) stands =
    omega (
      arith,
      pays j (suc n) s prices rows (λ t low high. stands (suc t) (omega arith) (omega arith)),
    )

-- ---- a job that is not broken off

module _ (k : ProblemData) (sound : IsProblemSound k) (alike : IsTrue (is_alike k.problem.env))
    (whole : IsFalse k.problem.prmp) (rows : Timetable) (fits : FitsProblem k rows) where
  -- it stands in all rows of its time before its completion
  pub stands-in : (j : ℕ) → IsProblemJob k j → (t : ℕ) → completion rows j - problem_time k j ≤ t
      → t < completion rows j → 1 ≤ cells_of j (slice_index_or rows t [])
  stands-in j h t low high =
      ⊎_elim
      (λ has. has)
      (λ none. absurd (by_end (completion rows j) refl none))
      (cases_lt 0 (cells_of j (slice_index_or rows t [])))
    where
      -- a row that has not the job has it neither in it nor before
      by_end : (c : ℕ) → completion rows j ≡ c → cells_of j (slice_index_or rows t []) ≤ 0 → ⊥
      by_end zero is none = absurd (omega (arith, is, high))
      by_end (suc e) is none =
          let last = cell_at_completion j rows e is in
          let a : ℕ = last.0 in
          let its = fits.unbroken whole j h.0 h.1 in
          let after : (s i : ℕ) → cell rows s i ≡ j → t + 1 ≤ s =
          λ s i at.
          ⊎_elim
          (λ later. omega (arith, later))
          (λ before.
          let same : i ≡ a = its.one_machine (alike_no_shop k alike) s e i a at last.1 in
          let here : cell rows t a ≡ j =
          its.no_gap a s t e before (omega (arith, is, high))
          (sym (ap (cell rows s) same) ∙ at) last.1 in
          absurd
          (omega (
            arith,
            none,
            cell-le-cells_of j h.0 a (slice_index_or rows t []),
            ap as_one (eq-eqb (slice_index (slice_index_or rows t []) a) j here),
          )))
          (cases_lt t s) in
          omega (
            arith,
            is,
            low,
            high,
            cells-between k sound alike rows fits j h (t + 1) (completion rows j) after (omega arith),
            units-le-rows k sound alike rows fits j h (t + 1) (completion rows j),
            one_time-le-completion k sound alike rows fits j h,
          )

  -- it costs at least what it costs at its cheapest start
  cheapest-le : length rows ≤ horizon k → (q : ℕ) (prices cheapest : List ℕ)
      → AreCheapest k q prices cheapest → (j : ℕ) → IsProblemJob k j
      → numerator cheapest j
      ≤ q * penalty k.problem.goal k j (completion rows j) + paid prices rows j
  cheapest-le within q prices cheapest are j h =
      let p : ℕ = problem_time k j in
      let c : ℕ = completion rows j in
      let ends : problem_release k j + p ≤ c = one_time-le-completion k sound alike rows fits j h in
      let s : ℕ = c - p in
      let end : s + p ≡ c = omega arith in
      let over : s + p ≤ horizon k = omega (arith, end, within, completion-le-length j rows) in
      let at : numerator cheapest j ≤ start_price k q prices j s = are j h s (omega arith) over in
      let pay : price_of_rows prices s p ≤ paid prices rows j =
      pays j p s prices rows (λ t low high. stands-in j h t low (omega arith)) in
      omega (arith, at, pay, ap (λ x. q * penalty k.problem.goal k j x) end)

-- ---- the bound

pub IsDistinct-problem_jobs : (k : ProblemData) → IsDistinct (problem_jobs k)
IsDistinct-problem_jobs k = once 1 (length k.jobs)

pub sum-cost : (g : Goal) → IsTrue (is_sum_goal g) → (k : ProblemData) (rows : Timetable)
    → pos (sum_by (λ j. penalty g k j (completion rows j)) (problem_jobs k)) ≤ℤ problem_cost_by g k rows
sum-cost goals.Cmax h k rows = absurd (false≢true h)
sum-cost goals.Lmax h k rows = absurd (false≢true h)
sum-cost goals.Hmax h k rows = absurd (false≢true h)
sum-cost goals.SumC h k rows = omega (arith, ints)
sum-cost goals.SumWC h k rows = omega (arith, ints)
sum-cost goals.SumT h k rows = omega (arith, ints)
sum-cost goals.SumWT h k rows = omega (arith, ints)
sum-cost goals.SumU h k rows = omega (arith, ints)
sum-cost goals.SumWU h k rows = omega (arith, ints)

-- one machine or identical machines in parallel, no preemption, and any sum over the jobs
pub prices-bound : (k : ProblemData) → IsProblemSound k → IsTrue (is_alike k.problem.env)
    → IsFalse k.problem.prmp → IsTrue (is_sum_goal k.problem.goal) → (q : ℕ) → 1 ≤ q
    → (prices cheapest : List ℕ) → AreCheapest k q prices cheapest
    → IsLowerBound k (prices_value k q prices cheapest)
prices-bound k sound alike whole sums q some prices cheapest are =
    horizon-law k sound (prices_value k q prices cheapest) bound
  where
    chain : (a b c : ℤ) → a ≤ℤ b → b ≤ℤ c → a ≤ℤ c
    chain a b c p r = omega (arith, ints)

    less : (a b c : ℕ) → a ≤ c + b → (pos a -ℤ pos b) ≤ℤ pos c
    less a b c h = omega (arith, ints)

    bound : (rows : Timetable) → FitsProblem k rows → length rows ≤ horizon k
        → prices_value k q prices cheapest ≤ℤ problem_cost k rows
    bound rows fits within =
        let g : Goal = k.problem.goal in
        let f : ℕ → ℕ = λ j. penalty g k j (completion rows j) in
        let total : ℕ = sum_by f (problem_jobs k) in
        let each : sum_by (numerator cheapest) (problem_jobs k)
        ≤ sum_by (λ j. q * f j + paid prices rows j) (problem_jobs k) =
        sum_by_le_all (numerator cheapest) (λ j. q * f j + paid prices rows j) (problem_jobs k)
        (All-problem_jobs k (λ j. numerator cheapest j ≤ q * f j + paid prices rows j)
        (cheapest-le k sound alike whole rows fits within q prices cheapest are)) in
        let taken : sum_by (paid prices rows) (problem_jobs k) ≤ k.machines * sum prices =
        room k.machines (problem_jobs k) (IsDistinct-problem_jobs k) prices rows fits.width in
        let parts : sum_by (numerator cheapest) (problem_jobs k) ≤ q * total + k.machines * sum prices =
        omega (
          arith,
          each,
          taken,
          sum_by-plus (λ j. q * f j) (paid prices rows) (problem_jobs k),
          sum_by-times q f (problem_jobs k),
        ) in
        chain (prices_value k q prices cheapest) (pos total) (problem_cost k rows)
        (share-le (pos (sum_by (numerator cheapest) (problem_jobs k)) -ℤ pos (k.machines * sum prices)) q
        total some
        (less (sum_by (numerator cheapest) (problem_jobs k)) (k.machines * sum prices) (q * total) parts))
        (sum-cost g sums k rows)

-- ---- which starts have to be looked at

-- rows past the prices have none
pub no_price : (prices : List ℕ) (s n : ℕ) → length prices ≤ s → price_of_rows prices s n ≡ 0
no_price [] zero zero h = refl
no_price [] zero (suc n) h = refl
no_price [] (suc s) zero h = refl
no_price [] (suc s) (suc n) h = refl
no_price (x ∷ prices) zero n h = absurd (omega arith)
no_price (x ∷ prices) (suc s) n h = no_price prices s n (omega arith)

pub cheapest-up_to_last : (k : ProblemData) (q : ℕ) (prices cheapest : List ℕ)
    → ((j : ℕ) → IsProblemJob k j → (s : ℕ) → problem_release k j ≤ s → s ≤ last_within k prices j
    → numerator cheapest j ≤ start_price k q prices j s)
    → AreCheapest k q prices cheapest
cheapest-up_to_last k q prices cheapest test j h s from over =
    let last : ℕ = max (problem_release k j) (length prices) in
    let p : ℕ = problem_time k j in
    ⊎_elim
    (λ past.
    let rises : q * penalty k.problem.goal k j (last + p) ≤ q * penalty k.problem.goal k j (s + p) =
    mul-le-mul_left q (penalty-rises k.problem.goal k j (last + p) (s + p) (omega arith)) in
    omega (
      arith,
      test j h last (omega arith) (omega arith),
      no_price prices last p (omega arith),
      rises,
    ))
    (λ within. test j h s from (omega arith))
    (cases_lt last s)

-- a job that starts when it is released is over by the horizon
pub some-start : (k : ProblemData) → IsTrue (is_alike k.problem.env) → (prices : List ℕ) (j : ℕ)
    → IsProblemJob k j
    → (problem_release k j ≤ last_within k prices j)
    × (problem_release k j + problem_time k j ≤ horizon k)
some-start k alike prices j h =
    let in' = Contains-problem_jobs k j h in
    let work : problem_work k j ≡ problem_time k j =
    ap (λ s. cond s (time_over k j 0 k.machines) (problem_time k j)) (alike_no_shop k alike) in
    let over : problem_release k j + problem_time k j ≤ horizon k =
    omega (
      arith,
      release-le-last k j h,
      get_or-le-sum_by (problem_work k) (problem_jobs k) in'.0 j in'.1,
      ap (problem_work k) in'.2,
      work,
    ) in
    (omega arith, over)
