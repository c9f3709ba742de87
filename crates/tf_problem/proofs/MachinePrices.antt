-- The bound of sums by prices of the rows on one machine of a shop: each job at its cheapest start
-- there, less what the machine can take in.
use Rattle.std.proofs.Common.{◌≡◌, Bool, true, false, ℕ, zero, suc, ◌+◌, ◌-◌, ◌*◌, ◌≤◌, ◌<◌, List, [], ◌∷◌, length, get_or, sum, max, take, drop, slice_index_or, cond, refl, sym, ap, ◌∙◌, ⊎_elim, arith, sum_by, All, ℤ, pos, ◌-ℤ◌, ◌≤ℤ◌, IsTrue, IsFalse, mul-le-mul_left, length-take, length-drop}
use Rattle.std.specs.List.{range_with_len}
use Rattle.std.proofs.lemmas.Int.{ints}
use Rattle.std.proofs.lemmas.Bool.{cases_lt, or_right}
use Rattle.std.proofs.lemmas.List.Sums.{sum_by-le}
use Rattle.std.proofs.lemmas.List.Elements.{All-take, All-drop}
use Rattle.std.proofs.lemmas.List.FromFn.{length-range_with_len, get_or-range_with_len}
use Rattle.tf_model.specs.ClassTable.{is_single_env, is_shop_env}
use Rattle.tf_model.specs.declared.problem.Goal.{Goal}
use Rattle.tf_model.specs.Timetable.{Timetable, cell, cells_of, all_units, completion}
use Rattle.tf_model.proofs.Sums.{sum_by_le_all, sum_by-plus, sum_by-times}
use Rattle.tf_model.proofs.Units.{cell_at_completion, sum_by-take-completion}
use Rattle.tf_model.proofs.Split.{take_cell}
use Rattle.tf_posed.specs.ProblemData.{ProblemData, IsProblemSound, IsProblemJob, problem_jobs, problem_time, problem_time_on, time_over, problem_release}
use Rattle.tf_posed.specs.FitsProblem.{FitsProblem}
use Rattle.tf_posed.specs.ProblemCost.{problem_cost, penalty, IsLowerBound}
use Rattle.tf_problem.specs.ProblemBounds.{is_by_machine, is_sum_goal, head, tail, problem_work, price_of_rows}
use Rattle.tf_problem.specs.MachinePrices.{end_from, price_from, cheapest_from, machine_prices_value}
use Rattle.tf_problem.proofs.ProblemLists.{cells_from}
use Rattle.tf_posed.proofs.Conditions.{All-problem_jobs}
use Rattle.tf_problem.proofs.Least.{least_number-le}
use Rattle.tf_problem.proofs.Multipliers.{share-le}
use Rattle.tf_problem.proofs.Rising.{penalty-rises}
use Rattle.tf_problem.proofs.Routes.{units-on, head-le-row, tail-after-row, route-le-completion, total-le-completion}
use Rattle.tf_problem.proofs.Lanes.{lane, lane_width, lane_cell, lane_units, lane_once, lane_has}
use Rattle.tf_problem.proofs.Prices.{paid, room, pays, no_price, sum-cost, IsDistinct-problem_jobs}

-- ---- the cheapest start

-- no start from the head on costs less
pub cheapest_from-le : (k : ProblemData) (a q : ℕ) (prices : List ℕ) (j s : ℕ) → head k a j ≤ s
    → cheapest_from k a q prices j ≤ price_from k a q prices j s
cheapest_from-le k a q prices j s from =
    ⊎_elim
    (λ past.
    let rises : q * penalty k.problem.goal k j (end_from k a j last)
    ≤ q * penalty k.problem.goal k j (end_from k a j s) =
    mul-le-mul_left q
    (penalty-rises k.problem.goal k j (end_from k a j last) (end_from k a j s) (omega (arith, past))) in
    let none : price_of_rows prices last (problem_time_on k j a) ≡ 0 =
    no_price prices last (problem_time_on k j a) (omega arith) in
    let least = within last (omega arith) (omega arith) in
    omega (arith, rises, least, none))
    (λ before. within s from (omega arith))
    (cases_lt last s)
  where
    r : ℕ
    r = head k a j

    last : ℕ
    last = max r (length prices)

    starts : List ℕ
    starts = range_with_len r (length prices - r + 1)

    within : (t : ℕ) → r ≤ t → t ≤ last → cheapest_from k a q prices j ≤ price_from k a q prices j t
    within t low high =
        let lt : t - r < length prices - r + 1 = omega (arith, low, high) in
        let at : get_or starts (t - r) 0 ≡ t =
        get_or-range_with_len r (length prices - r + 1) (t - r) 0 lt ∙ omega (arith, low) in
        omega (
          arith,
          least_number-le (price_from k a q prices j) starts (t - r) 0
              (omega (arith, lt, length-range_with_len r (length prices - r + 1))),
          ap (price_from k a q prices j) at,
        )

-- ---- a job on the machine

module _ (k : ProblemData) (sound : IsProblemSound k) (shop : IsTrue (is_shop_env k.problem.env))
    (whole : IsFalse k.problem.prmp) (rows : Timetable) (fits : FitsProblem k rows) (a : ℕ)
    (in' : a < k.machines) where
  by : IsTrue (is_by_machine k.problem.env)
  by = or_right (is_single_env k.problem.env) (is_shop_env k.problem.env) shop

  -- when it is over there
  abbrev over_at : ℕ → ℕ
  over_at j = completion (lane a rows) j

  -- where all its cells there are from a time on, they are between it and that time
  lane-between : (j : ℕ) → IsProblemJob k j → (r : ℕ)
      → ((s i : ℕ) → cell (lane a rows) s i ≡ j → r ≤ s)
      → problem_time_on k j a ≤ over_at j - r
  lane-between j h r from =
      let lone : Timetable = lane a rows in
      let c : ℕ = over_at j in
      let units : all_units lone j ≡ problem_time_on k j a =
      lane_units a rows j ∙ units-on k sound rows fits by j h a in' in
      let once : All (λ row. cells_of j row ≤ 1) (drop r (take c lone)) =
      All-drop (λ row. cells_of j row ≤ 1) r (take c lone)
      (All-take (λ row. cells_of j row ≤ 1) c lone (lane_once a j rows)) in
      omega (
        arith,
        units,
        sum_by-take-completion (cells_of j) j (λ row. omega arith) lone c (omega arith),
        cells_from (take c lone) j r (λ s i e. from s i (take_cell c lone s i j h.0 e)),
        sum_by-le (cells_of j) 1 (drop r (take c lone)) once,
        length-drop r (take c lone),
        length-take c lone,
      )

  -- it has its head before its time there
  head-before : (j : ℕ) → IsProblemJob k j → problem_time_on k j a ≤ over_at j - head k a j
  head-before j h =
      lane-between j h (head k a j)
      (λ s i e. head-le-row k sound rows fits by j h a s in' (lane_cell a rows s i j h.0 e))

  -- and stands in all rows of its time
  stands-there : (j : ℕ) → IsProblemJob k j → (t : ℕ) → over_at j - problem_time_on k j a ≤ t
      → t < over_at j → 1 ≤ cells_of j (slice_index_or (lane a rows) t [])
  stands-there j h t low high =
      ⊎_elim
      (λ has. has)
      (λ none. absurd (by_end (over_at j) refl none))
      (cases_lt 0 (cells_of j (slice_index_or (lane a rows) t [])))
    where
      -- a row that has not the job has it neither in it nor before
      by_end : (c : ℕ) → over_at j ≡ c → cells_of j (slice_index_or (lane a rows) t []) ≤ 0 → ⊥
      by_end zero is none = absurd (omega (arith, is, high))
      by_end (suc e) is none =
          let last = cell_at_completion j (lane a rows) e is in
          let ends : cell rows e a ≡ j = lane_cell a rows e last.0 j h.0 last.1 in
          let after : (s i : ℕ) → cell (lane a rows) s i ≡ j → t + 1 ≤ s =
          λ s i at.
          ⊎_elim
          (λ later. omega (arith, later))
          (λ before.
          let here : cell rows t a ≡ j =
          (fits.unbroken whole j h.0 h.1).no_gap a s t e before (omega (arith, is, high))
          (lane_cell a rows s i j h.0 at) ends in
          absurd (omega (arith, none, lane_has a rows t j h.0 here)))
          (cases_lt t s) in
          omega (arith, is, low, high, lane-between j h (t + 1) after)

  -- it completes its tail after it is over there
  tail-behind : (j : ℕ) → IsProblemJob k j → 1 ≤ over_at j → over_at j + tail k a j ≤ completion rows j
  tail-behind j h some = at (over_at j) refl
    where
      at : (c : ℕ) → over_at j ≡ c → c + tail k a j ≤ completion rows j
      at zero e = absurd (omega (arith, e, some))
      at (suc t) e =
          let last = cell_at_completion j (lane a rows) t e in
          omega (
            arith,
            tail-after-row k sound rows fits by j h a t in' (lane_cell a rows t last.0 j h.0 last.1),
          )

  -- and not before its time on all machines
  work-before : (j : ℕ) → IsProblemJob k j → problem_release k j + problem_work k j ≤ completion rows j
  work-before j h = in_shop (is_shop_env k.problem.env) shop
      (total-le-completion k sound rows fits by j h)
    where
      in_shop : (s : Bool) → IsTrue s
          → problem_release k j + time_over k j 0 k.machines ≤ completion rows j
          → problem_release k j + cond s (time_over k j 0 k.machines) (problem_time k j)
          ≤ completion rows j
      in_shop true e h = h
      in_shop false e h = cc

  -- what it costs, with the prices of its rows, is at least what it costs at its cheapest start
  cheapest-paid : (q : ℕ) (prices : List ℕ) (j : ℕ) → IsProblemJob k j
      → cheapest_from k a q prices j
      ≤ q * penalty k.problem.goal k j (completion rows j) + paid prices (lane a rows) j
  cheapest-paid q prices j h =
      ⊎_elim
      (λ some.
      let s : ℕ = over_at j - p in
      let ends : s + p ≡ over_at j = omega (arith, some, head-before j h) in
      let pay : price_of_rows prices s p ≤ paid prices (lane a rows) j =
      pays j p s prices (lane a rows) (λ t low high. stands-there j h t low (omega (arith, high, ends))) in
      started s (omega (arith, some, head-before j h))
      (omega (arith, ends, tail-behind j h (omega (arith, some, ends)))) pay)
      (λ none.
      started (head k a j) (omega arith)
      (omega (arith, none, route-le-completion k sound rows fits by j h a))
      (omega (arith, nothing p none)))
      (cases_lt 0 p)
    where
      p : ℕ
      p = problem_time_on k j a

      nothing : (n : ℕ) → n ≤ 0 → price_of_rows prices (head k a j) n ≡ 0
      nothing zero h = refl
      nothing (suc n) h = absurd (omega (arith, h))

      -- by a start that it can have had
      started : (s : ℕ) → head k a j ≤ s → s + p + tail k a j ≤ completion rows j
          → price_of_rows prices s p ≤ paid prices (lane a rows) j
          → cheapest_from k a q prices j
          ≤ q * penalty k.problem.goal k j (completion rows j) + paid prices (lane a rows) j
      started s from ends pay =
          let rises : q * penalty k.problem.goal k j (end_from k a j s)
          ≤ q * penalty k.problem.goal k j (completion rows j) =
          mul-le-mul_left q
          (penalty-rises k.problem.goal k j (end_from k a j s) (completion rows j)
          (omega (arith, ends, work-before j h))) in
          omega (arith, rises, pay, cheapest_from-le k a q prices j s from)

-- ---- the bound

-- one machine of a shop, no preemption, and any sum over the jobs
pub machine_prices-bound : (k : ProblemData) → IsProblemSound k → IsTrue (is_shop_env k.problem.env)
    → IsFalse k.problem.prmp → IsTrue (is_sum_goal k.problem.goal) → (a : ℕ) → a < k.machines
    → (q : ℕ) → 1 ≤ q → (prices : List ℕ) → IsLowerBound k (machine_prices_value k a q prices)
machine_prices-bound k sound shop whole sums a in' q some prices rows fits =
    let g : Goal = k.problem.goal in
    let f : ℕ → ℕ = λ j. penalty g k j (completion rows j) in
    let pay : ℕ → ℕ = paid prices (lane a rows) in
    let cost : ℕ → ℕ = cheapest_from k a q prices in
    let total : ℕ = sum_by f (problem_jobs k) in
    let each : sum_by cost (problem_jobs k) ≤ sum_by (λ j. q * f j + pay j) (problem_jobs k) =
    sum_by_le_all cost (λ j. q * f j + pay j) (problem_jobs k)
    (All-problem_jobs k (λ j. cost j ≤ q * f j + pay j)
    (cheapest-paid k sound shop whole rows fits a in' q prices)) in
    let taken : sum_by pay (problem_jobs k) ≤ 1 * sum prices =
    room 1 (problem_jobs k) (IsDistinct-problem_jobs k) prices (lane a rows) (lane_width a rows) in
    let parts : sum_by cost (problem_jobs k) ≤ q * total + sum prices =
    omega (
      arith,
      each,
      taken,
      sum_by-plus (λ j. q * f j) pay (problem_jobs k),
      sum_by-times q f (problem_jobs k),
    ) in
    chain (machine_prices_value k a q prices) (pos total) (problem_cost k rows)
    (share-le (pos (sum_by cost (problem_jobs k)) -ℤ pos (sum prices)) q total some
    (less (sum_by cost (problem_jobs k)) (sum prices) (q * total) parts))
    (sum-cost g sums k rows)
  where
    chain : (a b c : ℤ) → a ≤ℤ b → b ≤ℤ c → a ≤ℤ c
    chain a b c p r = omega (arith, ints)

    less : (a b c : ℕ) → a ≤ c + b → (pos a -ℤ pos b) ≤ℤ pos c
    less a b c h = omega (arith, ints)
