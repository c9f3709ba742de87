-- The bound by a crowd: where there are more than h jobs for each machine, some machine has h + 1 of
-- them, one behind the other.
use Rattle.std.proofs.Common.{◌≡◌, Bool, true, false, ℕ, zero, suc, ◌+◌, ◌-◌, ◌*◌, ◌≤◌, ◌<◌, ◌==◌, nat_lt, List, [], ◌∷◌, length, get_or, slice_index, slice_index_or, take, drop, cond, refl, sym, ap, ◌∙◌, ⊎_elim, arith, sum_by, All, Contains, ℤ, pos, ◌-ℤ◌, ◌≤ℤ◌, IsTrue, IsFalse, length-take, length-drop, mul-le-mul_right}
use Rattle.std.specs.List.{range_with_len}
use Rattle.std.proofs.lemmas.Int.{ints}
use Rattle.std.proofs.lemmas.Bool.{cases_lt, eq-eqb, lt-ltb, ltb-true}
use Rattle.std.proofs.lemmas.List.Sums.{sum_by-le, get_or-le-sum_by, sum_by-cons}
use Rattle.std.proofs.lemmas.List.Elements.{All-contains, All-head, All-tail}
use Rattle.std.proofs.lemmas.List.FromFn.{length-range_with_len, get_or-range_with_len}
use Rattle.tf_model.specs.Timetable.{Row, Timetable, cell, cells_of, units, all_units, completion}
use Rattle.tf_model.specs.Cost.{greatest}
use Rattle.tf_model.proofs.Sums.{sum_by_le_all, sum_by-swap, sum_by-times}
use Rattle.tf_model.proofs.Units.{cell_with, cell_at_completion, completion-le-row}
use Rattle.tf_model.proofs.Work.{IsDistinct, work-le-rows}
use Rattle.tf_model.proofs.Split.{take_cell}
use Rattle.tf_check.specs.Bound.{least_number}
use Rattle.tf_posed.specs.ProblemData.{ProblemData, IsProblemSound, IsProblemJob, problem_time, problem_release, problem_due}
use Rattle.tf_posed.specs.FitsProblem.{FitsProblem}
use Rattle.tf_posed.specs.ProblemCost.{problem_cost, IsLowerBound}
use Rattle.tf_problem.specs.ProblemBounds.{crowd_value, is_alike, is_max_goal}
use Rattle.tf_problem.proofs.ProblemLists.{units_before, units_from, unit_at, unit_cell, last_by, cell_width}
use Rattle.tf_problem.proofs.Relaxing.{problem_release-le-row}
use Rattle.tf_problem.proofs.Least.{least_number-le, late-le-cost}
use Rattle.tf_problem.proofs.Windows.{alike_no_shop, one_time-le-completion, greatest-ge}

abbrev as_one : Bool → ℕ
as_one t = cond t 1 0

-- ---- a job that stays on one machine

-- all its cells are units of that machine
units-of_machine : (rows : Timetable) (j a : ℕ) → 1 ≤ j → All (λ row. cells_of j row ≤ 1) rows
    → ((s i : ℕ) → cell rows s i ≡ j → i ≡ a) → all_units rows j ≤ units rows j a
units-of_machine [] j a some once stays = omega arith
units-of_machine (row ∷ rows) j a some once stays =
    omega (
      arith,
      here,
      sum_by-cons (cells_of j) row rows,
      sum_by-cons (λ r. cond (slice_index r a == j) 1 0) row rows,
      units-of_machine rows j a some (All-tail (λ r. cells_of j r ≤ 1) row rows once)
          (λ s i e. stays (suc s) i e),
    )
  where
    here : cells_of j row ≤ cond (slice_index row a == j) 1 0
    here =
        ⊎_elim
        (λ has.
        let at = cell_with j row has in
        let there : slice_index row a ≡ j =
        sym (ap (slice_index row) (stays 0 at.0 at.1)) ∙ at.1 in
        omega (
          arith,
          ap as_one (eq-eqb (slice_index row a) j there),
          All-head (λ r. cells_of j r ≤ 1) row rows once,
        ))
        (λ none. omega (arith, none))
        (cases_lt 0 (cells_of j row))

-- whether a job has units on a machine
abbrev is_on : Timetable → ℕ → ℕ → Bool
is_on rows j a = nat_lt 0 (units rows j a)

module _ (k : ProblemData) (sound : IsProblemSound k) (alike : IsTrue (is_alike k.problem.env))
    (whole : IsFalse k.problem.prmp) (rows : Timetable) (fits : FitsProblem k rows) where
  -- a job that has a unit on a machine has all its time there
  all-on : (j a : ℕ) → IsProblemJob k j → (t : ℕ) → cell rows t a ≡ j → problem_time k j ≤ units rows j a
  all-on j a h t e =
      omega (
        arith,
        (fits.amount j h.0 h.1).in_all (alike_no_shop k alike),
        units-of_machine rows j a h.0 (fits.single_place j h.0 h.1)
            (λ s i c. (fits.unbroken whole j h.0 h.1).one_machine (alike_no_shop k alike) s t i a c e),
      )

  -- each job is on some machine
  on-some : (j : ℕ) → IsProblemJob k j
      → 1 ≤ sum_by (λ a. as_one (is_on rows j a)) (range_with_len 0 k.machines)
  on-some j h = at (completion rows j) refl
    where
      at : (c : ℕ) → completion rows j ≡ c
          → 1 ≤ sum_by (λ a. as_one (is_on rows j a)) (range_with_len 0 k.machines)
      at zero e =
          absurd
          (omega (
            arith,
            e,
            one_time-le-completion k sound alike rows fits j h,
            (sound.one_time (alike_no_shop k alike) j h).1,
          ))
      at (suc t) e =
          let last = cell_at_completion j rows t e in
          let a : ℕ = last.0 in
          let lt : a < k.machines = cell_width k.machines rows fits.width t a j h.0 last.1 in
          let unit : 1 ≤ units rows j a = unit_at rows j a t h.0 last.1 in
          let is : get_or (range_with_len 0 k.machines) a 0 ≡ a =
          get_or-range_with_len 0 k.machines a 0 lt ∙ omega arith in
          omega (
            arith,
            get_or-le-sum_by (λ a. as_one (is_on rows j a)) (range_with_len 0 k.machines) a 0
                (omega (arith, length-range_with_len 0 k.machines)),
            ap (λ x. as_one (is_on rows j x)) is,
            ap as_one (lt-ltb 0 (units rows j a) unit),
          )

  -- the rows of a machine have room for the jobs on it, each with at least time t
  machine-room : (jobs : List ℕ) → IsDistinct jobs → All (IsProblemJob k) jobs
      → (r : ℕ) → All (λ j. r ≤ problem_release k j) jobs
      → (t : ℕ) → All (λ j. t ≤ problem_time k j) jobs
      → (c : ℕ) → All (λ j. completion rows j ≤ c) jobs
      → (a : ℕ) → sum_by (λ j. as_one (is_on rows j a)) jobs * t ≤ c - r
  machine-room jobs distinct known r early t long c ends a =
      let part : Timetable = drop r (take c rows) in
      let at : ℕ → Row → ℕ = λ j row. cond (slice_index row a == j) 1 0 in
      let work : sum_by (λ j. sum_by (at j) part) jobs ≤ length part * 1 =
      work-le-rows at 1 jobs part (λ n d h. distinct (slice_index (slice_index_or part n d) a)) in
      let asked : sum_by (λ j. t * as_one (is_on rows j a)) jobs
      ≤ sum_by (λ j. sum_by (at j) part) jobs =
      sum_by_le_all (λ j. t * as_one (is_on rows j a)) (λ j. sum_by (at j) part) jobs
      (λ i d h. within (get_or jobs i d) (known i d h) (early i d h) (long i d h) (ends i d h)) in
      omega (
        arith,
        work,
        asked,
        sum_by-times t (λ j. as_one (is_on rows j a)) jobs,
        length-drop r (take c rows),
        length-take c rows,
      )
    where
      within : (j : ℕ) → IsProblemJob k j → r ≤ problem_release k j → t ≤ problem_time k j
          → completion rows j ≤ c
          → t * as_one (is_on rows j a) ≤ units (drop r (take c rows)) j a
      within j h from more to = by (is_on rows j a) refl
        where
          by : (b : Bool) → is_on rows j a ≡ b → t * as_one b ≤ units (drop r (take c rows)) j a
          by false e = omega arith
          by true e =
              let at = unit_cell rows j a (ltb-true 0 (units rows j a) e) in
              omega (
                arith,
                more,
                all-on j a h at.0 at.1,
                units_before rows j a c
                    (λ s p. omega (arith, to, completion-le-row j h.0 rows s a p)),
                units_from (take c rows) j a r
                    (λ s p. omega (
                      arith,
                      from,
                      problem_release-le-row k rows fits j h s a (take_cell c rows s a j h.0 p),
                    )),
              )

  -- some job of a crowd completes only after h + 1 of them
  crowd-le-last : (jobs : List ℕ) → IsDistinct jobs → All (IsProblemJob k) jobs → 0 < length jobs
      → (h : ℕ) → h * k.machines < length jobs
      → (r : ℕ) → All (λ j. r ≤ problem_release k j) jobs
      → (t : ℕ) → All (λ j. t ≤ problem_time k j) jobs
      → (l : ℕ) × Contains jobs l × (r + (h + 1) * t ≤ completion rows l)
  crowd-le-last jobs distinct known some h many r early t long =
      let last = last_by (completion rows) jobs some in
      let l : ℕ = last.0 in
      let c : ℕ = completion rows l in
      let job : IsProblemJob k l = All-contains (IsProblemJob k) jobs l known last.1 in
      let early_l : r ≤ problem_release k l =
      All-contains (λ j. r ≤ problem_release k j) jobs l early last.1 in
      let range : List ℕ = range_with_len 0 k.machines in
      let n : ℕ → ℕ = λ a. sum_by (λ j. as_one (is_on rows j a)) jobs in
      let enough : (h + 1) * t ≤ c - r =
      ⊎_elim
      (λ short.
      let each : All (λ a. n a ≤ h) range =
      λ i d in'. few (n (get_or range i d)) h t (c - r) short
      (machine-room jobs distinct known r early t long c last.2 (get_or range i d)) in
      let all : sum_by n range ≤ length range * h = sum_by-le n h range each in
      let everyone : sum_by (λ j. 1) jobs
      ≤ sum_by (λ j. sum_by (λ a. as_one (is_on rows j a)) range) jobs =
      sum_by_le_all (λ j. 1) (λ j. sum_by (λ a. as_one (is_on rows j a)) range) jobs
      (λ i d in'. on-some (get_or jobs i d) (known i d in')) in
      absurd
      (omega (
        arith,
        many,
        all,
        everyone,
        count jobs,
        length-range_with_len 0 k.machines,
        sum_by-swap (λ j a. as_one (is_on rows j a)) jobs range,
        ap (λ x. x * h) (length-range_with_len 0 k.machines),
      )))
      (λ le. le)
      (cases_lt (c - r) ((h + 1) * t)) in (
        l,
        last.1,
        omega (arith, enough, early_l, one_time-le-completion k sound alike rows fits l job),
      )
    where
      above : (h n : ℕ) → h < n → h + 1 ≤ n
      above h n lt = omega arith

      few : (n h t c : ℕ) → c < (h + 1) * t → n * t ≤ c → n ≤ h
      few n h t c short room =
          ⊎_elim
          (λ more. let le : (h + 1) * t ≤ n * t = mul-le-mul_right t (above h n more) in
          absurd (omega (arith, le)))
          (λ le. le)
          (cases_lt h n)

      count : (jobs : List ℕ) → sum_by (λ j. 1) jobs ≡ length jobs
      count [] = refl
      count (j ∷ jobs) = omega (arith, sum_by-cons (λ j. 1) j jobs, count jobs)

-- one machine or identical machines in parallel, no preemption: the makespan or the greatest
-- lateness
pub crowd-bound : (k : ProblemData) → IsProblemSound k → IsTrue (is_alike k.problem.env)
    → IsFalse k.problem.prmp → IsTrue (is_max_goal k.problem.goal) → (jobs : List ℕ)
    → IsDistinct jobs → All (IsProblemJob k) jobs → (h : ℕ) → h * k.machines < length jobs
    → IsLowerBound k (crowd_value k h jobs)
crowd-bound k sound alike whole max jobs distinct known h many rows fits =
    let r : ℕ = least_number (problem_release k) jobs in
    let t : ℕ = least_number (problem_time k) jobs in
    let last = crowd-le-last k sound alike whole rows fits jobs distinct known (omega (arith, many)) h
    many r (least_number-le (problem_release k) jobs) t (least_number-le (problem_time k) jobs) in
    let l : ℕ = last.0 in
    let job : IsProblemJob k l = All-contains (IsProblemJob k) jobs l known last.1 in
    let later : problem_due k l ≤ℤ greatest (problem_due k) jobs =
    All-contains (λ j. problem_due k j ≤ℤ greatest (problem_due k) jobs) jobs l
    (greatest-ge (problem_due k) jobs) last.1 in
    chain (pos (r + (h + 1) * t)) (problem_due k l) (greatest (problem_due k) jobs) (problem_cost k rows) later
    (late-le-cost k rows max l job (r + (h + 1) * t) last.2)
  where
    chain : (c d m o : ℤ) → d ≤ℤ m → (c -ℤ d) ≤ℤ o → (c -ℤ m) ≤ℤ o
    chain c d m o p s = omega (arith, ints)
