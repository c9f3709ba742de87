-- The bounds by the release dates, times and due dates of some jobs where a job has one time, and of
-- one job anywhere.
use Rattle.std.proofs.Common.{◌≡◌, Bool, true, false, ℕ, ◌+◌, ◌-◌, ◌*◌, ◌≤◌, ◌<◌, List, [], ◌∷◌, ◌||◌, map, length, get_or, take, drop, cond, refl, ⊎_elim, arith, sum_by, All, Contains, ℤ, pos, ◌-ℤ◌, ◌≤ℤ◌, IsTrue, IsFalse, length-take, length-drop}
use Rattle.std.specs.Int.{div_ceil, int_max}
use Rattle.std.specs.List.{fold}
use Rattle.std.proofs.lemmas.Int.{ints, fold-int_max_bounds}
use Rattle.std.proofs.lemmas.Bool.{or_cases, or_right}
use Rattle.std.proofs.lemmas.List.Sums.{sum_by-le}
use Rattle.std.proofs.lemmas.List.Elements.{All-weaker, All-take, All-drop, All-contains, All-nil}
use Rattle.tf_model.specs.Timetable.{Timetable, cell, cells_of, all_units, completion}
use Rattle.tf_model.specs.ClassTable.{is_single_env, is_parallel_env, is_shop_env}
use Rattle.tf_model.specs.Cost.{greatest}
use Rattle.tf_model.proofs.Sums.{sum_by_le_all}
use Rattle.tf_model.proofs.Units.{sum_by-take-completion}
use Rattle.tf_model.proofs.Work.{IsDistinct, cells-le-length, work-le-rows}
use Rattle.tf_model.proofs.Loads.{div_ceil_least}
use Rattle.tf_model.proofs.Split.{take_cell}
use Rattle.tf_check.specs.Bound.{least_number}
use Rattle.tf_posed.specs.ProblemData.{ProblemData, IsProblemSound, IsProblemJob, problem_time, time_over, problem_release, problem_due}
use Rattle.tf_posed.specs.FitsProblem.{FitsProblem}
use Rattle.tf_posed.specs.ProblemCost.{problem_cost, IsLowerBound}
use Rattle.tf_problem.specs.ProblemBounds.{window_value, problem_work, one_job_value, is_alike, is_max_goal}
use Rattle.tf_problem.proofs.ProblemLists.{cells_from, last_by}
use Rattle.tf_problem.proofs.Relaxing.{problem_release-le-row}
use Rattle.tf_problem.proofs.Dropped.{single_no_shop, parallel_no_shop}
use Rattle.tf_problem.proofs.Least.{of_map, least_number-le, late-le-cost}
use Rattle.tf_problem.proofs.Routes.{total-le-completion}

≤-trans' : {a b c : ℕ} → a ≤ b → b ≤ c → a ≤ c
≤-trans' p q = omega arith

pub greatest-ge : (f : ℕ → ℤ) (jobs : List ℕ) → All (λ j. f j ≤ℤ greatest f jobs) jobs
greatest-ge f [] = All-nil (λ j. f j ≤ℤ pos 0)
greatest-ge f (j ∷ jobs) =
    let r : ℤ = fold int_max (f j) (map f (j ∷ jobs)) in
    of_map (λ z. z ≤ℤ r) f (j ∷ jobs) (fold-int_max_bounds (f j) (map f (j ∷ jobs)) r refl).1

pub alike_no_shop : (k : ProblemData) → IsTrue (is_alike k.problem.env)
    → IsFalse (is_shop_env k.problem.env)
alike_no_shop k alike =
    ⊎_elim (single_no_shop k.problem.env) (parallel_no_shop k.problem.env)
    (or_cases (is_single_env k.problem.env) (is_parallel_env k.problem.env) alike)

module _ (k : ProblemData) (sound : IsProblemSound k) (alike : IsTrue (is_alike k.problem.env))
    (rows : Timetable) (fits : FitsProblem k rows) where
  no_shop : IsFalse (is_shop_env k.problem.env)
  no_shop = alike_no_shop k alike

  -- where all of a job's cells are from a time on, they are between it and its completion
  pub cells-between : (j : ℕ) → IsProblemJob k j → (r c : ℕ)
      → ((s i : ℕ) → cell rows s i ≡ j → r ≤ s) → completion rows j ≤ c
      → problem_time k j ≤ all_units (drop r (take c rows)) j
  cells-between j h r c from ends =
      omega (
        arith,
        (fits.amount j h.0 h.1).in_all no_shop,
        sum_by-take-completion (cells_of j) j (λ row. omega arith) rows c ends,
        cells_from (take c rows) j r (λ s i e. from s i (take_cell c rows s i j h.0 e)),
      )

  -- cells of a job that is not in two at once have as many rows
  pub units-le-rows : (j : ℕ) → IsProblemJob k j → (r c : ℕ)
      → all_units (drop r (take c rows)) j ≤ c - r
  units-le-rows j h r c =
      omega (
        arith,
        sum_by-le (cells_of j) 1 (drop r (take c rows))
            (All-drop (λ row. cells_of j row ≤ 1) r (take c rows)
            (All-take (λ row. cells_of j row ≤ 1) c rows (fits.single_place j h.0 h.1))),
        length-drop r (take c rows),
        length-take c rows,
      )

  -- a job is released and then has its time before it completes
  pub one_time-le-completion : (j : ℕ) → IsProblemJob k j
      → problem_release k j + problem_time k j ≤ completion rows j
  one_time-le-completion j h =
      omega (
        arith,
        (sound.one_time no_shop j h).1,
        cells-between j h (problem_release k j) (completion rows j)
            (λ s i e. problem_release-le-row k rows fits j h s i e) (omega arith),
        units-le-rows j h (problem_release k j) (completion rows j),
      )

  -- some job of a list completes only when all are released and their time is over, shared out
  window-le-last : (jobs : List ℕ) → IsDistinct jobs → All (IsProblemJob k) jobs → 0 < length jobs
      → (r : ℕ) → All (λ j. r ≤ problem_release k j) jobs
      → (l : ℕ) × Contains jobs l
      × (r + div_ceil (sum_by (problem_time k) jobs) k.machines ≤ completion rows l)
  window-le-last jobs distinct known some r early =
      let last = last_by (completion rows) jobs some in
      let l : ℕ = last.0 in
      let c : ℕ = completion rows l in
      let part : Timetable = drop r (take c rows) in
      let room : All (λ row. sum_by (λ j. cells_of j row) jobs ≤ k.machines) rows =
      All-weaker (λ row. length row ≡ k.machines)
      (λ row. sum_by (λ j. cells_of j row) jobs ≤ k.machines)
      (λ row w. omega (arith, cells-le-length jobs distinct row)) rows fits.width in
      let work : sum_by (λ j. all_units part j) jobs ≤ length part * k.machines =
      work-le-rows cells_of k.machines jobs part
      (All-drop (λ row. sum_by (λ j. cells_of j row) jobs ≤ k.machines) r (take c rows)
      (All-take (λ row. sum_by (λ j. cells_of j row) jobs ≤ k.machines) c rows room)) in
      let asked : sum_by (problem_time k) jobs ≤ sum_by (λ j. all_units part j) jobs =
      sum_by_le_all (problem_time k) (λ j. all_units part j) jobs
      (λ i d h. cells-between (get_or jobs i d) (known i d h) r c
      (λ s n e. ≤-trans' (early i d h)
      (problem_release-le-row k rows fits (get_or jobs i d) (known i d h) s n e)) (last.2 i d h)) in
      let job : IsProblemJob k l = All-contains (IsProblemJob k) jobs l known last.1 in
      let early_l : r ≤ problem_release k l =
      All-contains (λ j. r ≤ problem_release k j) jobs l early last.1 in
      let share : div_ceil (sum_by (problem_time k) jobs) k.machines ≤ length part =
      div_ceil_least (sum_by (problem_time k) jobs) k.machines (length part) sound.some_machine
      (omega arith) in (
        l,
        last.1,
        omega (
          arith,
          share,
          one_time-le-completion l job,
          early_l,
          length-drop r (take c rows),
          length-take c rows,
        ),
      )

-- one machine or identical machines in parallel, whatever the conditions: the makespan or the
-- greatest lateness
pub window-bound : (k : ProblemData) → IsProblemSound k → IsTrue (is_alike k.problem.env)
    → IsTrue (is_max_goal k.problem.goal) → (jobs : List ℕ) → IsDistinct jobs
    → All (IsProblemJob k) jobs → 0 < length jobs → IsLowerBound k (window_value k jobs)
window-bound k sound alike max jobs distinct known some rows fits =
    let r : ℕ = least_number (problem_release k) jobs in
    let p : ℕ = div_ceil (sum_by (problem_time k) jobs) k.machines in
    let last = window-le-last k sound alike rows fits jobs distinct known some r
    (least_number-le (problem_release k) jobs) in
    let l : ℕ = last.0 in
    let job : IsProblemJob k l = All-contains (IsProblemJob k) jobs l known last.1 in
    let later : problem_due k l ≤ℤ greatest (problem_due k) jobs =
    All-contains (λ j. problem_due k j ≤ℤ greatest (problem_due k) jobs) jobs l
    (greatest-ge (problem_due k) jobs) last.1 in
    chain (pos (r + p)) (problem_due k l) (greatest (problem_due k) jobs) (problem_cost k rows) later
    (late-le-cost k rows max l job (r + p) last.2)
  where
    chain : (c d m o : ℤ) → d ≤ℤ m → (c -ℤ d) ≤ℤ o → (c -ℤ m) ≤ℤ o
    chain c d m o p s = omega (arith, ints)

-- one job, on one machine, on identical machines in parallel, or in a shop
pub one_job-bound : (k : ProblemData) → IsProblemSound k
    → IsTrue (is_alike k.problem.env || is_shop_env k.problem.env)
    → IsTrue (is_max_goal k.problem.goal) → (j : ℕ) → IsProblemJob k j
    → IsLowerBound k (one_job_value k j)
one_job-bound k sound env max j job rows fits =
    late-le-cost k rows max j job (problem_release k j + problem_work k j)
    (⊎_elim
    (λ alike. at (is_shop_env k.problem.env) (alike_no_shop k alike)
    (one_time-le-completion k sound alike rows fits j job))
    (λ shop. in_shop (is_shop_env k.problem.env) shop
    (total-le-completion k sound rows fits
    (or_right (is_single_env k.problem.env) (is_shop_env k.problem.env) shop) j job))
    (or_cases (is_alike k.problem.env) (is_shop_env k.problem.env) env))
  where
    at : (s : Bool) → s ≡ false → problem_release k j + problem_time k j ≤ completion rows j
        → problem_release k j + cond s (time_over k j 0 k.machines) (problem_time k j) ≤ completion rows j
    at false e h = h
    at true e h = cc

    in_shop : (s : Bool) → s ≡ true
        → problem_release k j + time_over k j 0 k.machines ≤ completion rows j
        → problem_release k j + cond s (time_over k j 0 k.machines) (problem_time k j) ≤ completion rows j
    in_shop true e h = h
    in_shop false e h = cc
