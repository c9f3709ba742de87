-- What a bound of the task of a class says of a task that it relaxes, and when one does.
use Rattle.std.proofs.Common.{◌≡◌, Bool, true, false, ℕ, zero, suc, ◌+◌, ◌-◌, ◌≤◌, ◌<◌, length, get_or, map, cond, refl, sym, ap, ◌∙◌, subst, ⊎_elim, arith, All, ℤ, ◌+ℤ◌, ◌≤ℤ◌, IsFalse, Ok}
use Rattle.std.specs.Int.{int_max}
use Rattle.std.specs.List.{fold, range_with_len}
use Rattle.std.proofs.lemmas.Int.{ints, fold-int_max_bounds, fold-int_max_reached}
use Rattle.std.proofs.lemmas.Bool.{false≢true}
use Rattle.std.proofs.lemmas.List.FromFn.{get_or-map-range_with_len, length-map-range_with_len}
use Rattle.std.proofs.lemmas.List.Elements.{All-nil}
use Rattle.tf_model.specs.declared.class.Class.{Class}
use Rattle.tf_model.specs.Timetable.{Timetable, cell, completion}
use Rattle.tf_model.specs.SchedulingTask.{SchedulingTask, JobData, all_jobs, IsJob, job_data, no_job}
use Rattle.tf_model.specs.ClassTable.{is_shop, is_shop_env}
use Rattle.tf_model.specs.Feasible.{IsKept, FitsBroken, IsUnbroken}
use Rattle.tf_model.specs.Sound.{IsSound}
use Rattle.tf_model.specs.Cost.{Objective, cost, cost_by, price_by, greatest, greatest_price, objective_of, IsBest}
use Rattle.tf_model.proofs.Classes.{no_flow}
use Rattle.tf_model.proofs.Costs.{greatest_price_reached}
use Rattle.tf_check.specs.Claim.{Claim}
use Rattle.tf_check.specs.Bound.{bound_by}
use Rattle.tf_check.specs.Laws.{bound_law}
use Rattle.tf_posed.specs.ProblemData.{ProblemData, problem_jobs, IsProblemJob, problem_job, problem_time, problem_release}
use Rattle.tf_posed.specs.FitsProblem.{FitsProblem}
use Rattle.tf_posed.specs.ProblemCost.{problem_cost, IsLowerBound}
use Rattle.tf_problem.specs.Relaxed.{IsRelaxation, task_by}

-- ---- the two laws of relaxation

with_more : (b c m o : ℤ) → b ≤ℤ c → (c +ℤ m) ≤ℤ o → (b +ℤ m) ≤ℤ o
with_more b c m o p q = omega (arith, ints)

-- a lower bound that a certificate gives of the relaxed task is one of the task
pub bound-of_relaxation : (k : ProblemData) (relaxed : SchedulingTask) (more : ℤ)
    → IsRelaxation k relaxed more → IsSound relaxed → (claim : Claim) (b : ℤ)
    → bound_by claim relaxed ≡ Ok b → IsLowerBound k (b +ℤ more)
bound-of_relaxation k relaxed more relaxes sound claim b is rows fits =
    let at = relaxes rows fits in
    with_more b (cost relaxed at.0) more (problem_cost k rows)
    (bound_law claim relaxed at.0 b sound is at.1) at.2

-- the cost of a best timetable of the relaxed task does
pub best-of_relaxation : (k : ProblemData) (relaxed : SchedulingTask) (more : ℤ)
    → IsRelaxation k relaxed more → (best : Timetable) (v : ℤ) → IsBest relaxed best v
    → IsLowerBound k (v +ℤ more)
best-of_relaxation k relaxed more relaxes best v is rows fits =
    let at = relaxes rows fits in
    with_more v (cost relaxed at.0) more (problem_cost k rows) (is.least at.0 at.1) at.2

-- ---- jobs

greatest-fold : (f : ℕ → ℤ) (n : ℕ) → 1 ≤ n
    → greatest f (range_with_len 1 n) ≡ fold int_max (f 1) (map f (range_with_len 1 n))
greatest-fold f zero h = absurd (omega (arith, h))
greatest-fold f (suc n) h = refl

-- what f gives at a job is at most the greatest
pub at-le-greatest : (k : ProblemData) (f : ℕ → ℤ) (j : ℕ) → IsProblemJob k j
    → f j ≤ℤ greatest f (problem_jobs k)
at-le-greatest k f j h =
    let n : ℕ = length k.jobs in
    let all = (fold-int_max_bounds (f 1) (map f (problem_jobs k)) (greatest f (problem_jobs k))
    (greatest-fold f n (omega (arith, h.0, h.1)))).1 in
    let at : get_or (map f (problem_jobs k)) (j - 1) (f 1) ≡ f j =
    get_or-map-range_with_len f 1 n (j - 1) j (f 1) (omega (arith, h.0, h.1))
    (omega (arith, h.0)) in
    subst (λ z. z ≤ℤ greatest f (problem_jobs k)) at
    (all (j - 1) (f 1) (omega (arith, h.0, h.1, length-map-range_with_len f 1 n)))

-- some job has the greatest
pub greatest_reached : (f : ℕ → ℤ) (n : ℕ) → 1 ≤ n
    → (j : ℕ) × ((1 ≤ j) × (j ≤ n)) × (greatest f (range_with_len 1 n) ≡ f j)
greatest_reached f zero h = absurd (omega (arith, h))
greatest_reached f (suc n) h =
    ⊎_elim
    (λ first. (1, (omega arith, omega arith), first))
    (λ at.
    let i : ℕ = at.0 in
    let in' : i < suc n = omega (arith, at.1, length-map-range_with_len f 1 (suc n)) in (
      1 + i,
      (omega arith, omega arith),
      sym at.2
          ∙ get_or-map-range_with_len f 1 (suc n) i (1 + i) (greatest f (range_with_len 1 (suc n))) in'
          refl,
    ))
    (fold-int_max_reached (f 1) (map f (range_with_len 1 (suc n)))
    (greatest f (range_with_len 1 (suc n))) refl)

-- no row before its release date has a job, if the problem has release dates
pub problem_release-le-row : (k : ProblemData) (rows : Timetable) → FitsProblem k rows → (j : ℕ)
    → IsProblemJob k j → (t i : ℕ) → cell rows t i ≡ j → problem_release k j ≤ t
problem_release-le-row k rows fits j h t i e = by k.problem.release refl
  where
    by : (b : Bool) → k.problem.release ≡ b → cond b (problem_job k j).release 0 ≤ t
    by true is = fits.released is j h.0 h.1 t i e
    by false is = omega arith

-- ---- the task of a class

module _ (k : ProblemData) (class : Class) (machines : ℕ) (f : ℕ → JobData) where
  pub length-task_by : length (task_by k class machines f).jobs ≡ length k.jobs
  length-task_by = length-map-range_with_len f 1 (length k.jobs)

  pub jobs-task_by : all_jobs (task_by k class machines f) ≡ problem_jobs k
  jobs-task_by = ap (range_with_len 1) length-task_by

  pub job-task_by : (j : ℕ) → IsProblemJob k j → job_data (task_by k class machines f) j ≡ f j
  job-task_by j h =
      get_or-map-range_with_len f 1 (length k.jobs) (j - 1) j no_job (omega (arith, h.0, h.1))
      (omega (arith, h.0))

  pub problem-job : (j : ℕ) → IsJob (task_by k class machines f) j → IsProblemJob k j
  problem-job j h = (h.0, omega (arith, h.1, length-task_by))

  -- conditions dropped: the same rows fit a task of a class outside shops, whose jobs have the same
  -- times and no later release dates
  pub fits-dropped : (rows : Timetable) → FitsProblem k rows → IsFalse (is_shop_env k.problem.env)
      → IsFalse (is_shop class) → k.machines ≡ machines
      → ((j : ℕ) → IsProblemJob k j → (f j).first + (f j).second ≡ problem_time k j)
      → ((j : ℕ) → IsProblemJob k j → (f j).release ≤ problem_release k j)
      → FitsBroken (task_by k class machines f) rows
  fits-dropped rows fits one_time plain same times releases =
      let task : SchedulingTask = task_by k class machines f in
      record {
        width = subst (λ m. All (λ row. length row ≡ m) rows) same fits.width;
        jobs_only =
            subst (λ n. All (λ row. All (λ j. j ≤ n) row) rows) (sym length-task_by) fits.jobs_only;
        single_place = λ j low high. fits.single_place j low (problem-job j (low, high)).1;
        amount = λ j low high. let h : IsProblemJob k j = problem-job j (low, high) in
            record {
              in_all = λ _. (fits.amount j h.0 h.1).in_all one_time
                  ∙ sym (times j h) ∙ sym (ap (λ d. d.first + d.second) (job-task_by j h));
              on_each = λ shop. absurd (false≢true (sym plain ∙ shop));
            };
        released = λ j low high t i e. let h : IsProblemJob k j = problem-job j (low, high) in
            omega (
              arith,
              ap (λ d. d.release) (job-task_by j h),
              releases j h,
              problem_release-le-row k rows fits j h t i e,
            );
        in_order = All-nil (IsKept rows);
        in_flow = λ flow. absurd (false≢true (sym (no_flow class plain) ∙ flow));
      }

  -- unbroken jobs are unbroken in the task of the class
  pub whole-dropped : (rows : Timetable) → FitsProblem k rows → IsFalse (is_shop_env k.problem.env)
      → IsFalse k.problem.prmp → IsUnbroken (task_by k class machines f) rows
  whole-dropped rows fits one_time unbroken j low high =
      let whole = fits.unbroken unbroken j low (problem-job j (low, high)).1 in
      record { no_gap = whole.no_gap; one_machine = λ _. whole.one_machine one_time }

  -- where the greatest price counts, and each job's price is at most g of it
  pub greatest-dropped : (rows : Timetable) (o : Objective) → 1 ≤ length k.jobs
      → objective_of class ≡ o
      → cost_by o (task_by k class machines f) rows
      ≡ greatest_price (task_by k class machines f) rows
      → (g : ℕ → ℤ)
      → ((j : ℕ) → IsProblemJob k j → price_by o (task_by k class machines f) j (completion rows j) ≤ℤ g j)
      → cost (task_by k class machines f) rows ≤ℤ greatest g (problem_jobs k)
  greatest-dropped rows o some is at g le =
      let task : SchedulingTask = task_by k class machines f in
      let last = greatest_price_reached task rows (omega (arith, some, length-task_by)) in
      let j : ℕ = last.0 in
      let h : IsProblemJob k j = problem-job j last.1 in
      let paid : cost task rows ≡ price_by o task j (completion rows j) =
      ap (λ x. cost_by x task rows) is ∙ at ∙ last.2
      ∙ ap (λ x. price_by x task j (completion rows j)) is in
      subst (λ z. z ≤ℤ greatest g (problem_jobs k)) (sym paid)
      (chain (price_by o task j (completion rows j)) (g j) (greatest g (problem_jobs k)) (le j h)
      (at-le-greatest k g j h))
    where
      chain : (a b c : ℤ) → a ≤ℤ b → b ≤ℤ c → a ≤ℤ c
      chain a b c p q = omega (arith, ints)
