-- Problems outside shops: a class with fewer conditions, whose bounds therefore hold.
use Rattle.std.proofs.Common.{◌≡◌, ℕ, ◌*◌, ◌≤◌, refl, sym, ap, subst, arith, sum_by, ℤ, pos, ◌+ℤ◌, ◌-ℤ◌, ◌≤ℤ◌, IsTrue, IsFalse}
use Rattle.std.proofs.lemmas.Int.{ints}
use Rattle.std.proofs.lemmas.Bool.{false≢true}
use Rattle.tf_model.specs.declared.class.Class.{Class}
use Rattle.tf_model.specs.declared.class.Class.TheVariants.{ReleaseLmax, ParallelPrmp, ParallelSum, PrmpWeightedSum}
use Rattle.tf_model.specs.declared.problem.Env.{Env}
use Rattle.tf_model.specs.declared.problem.Env.TheVariants.{Single, Parallel}
use Rattle.tf_model.specs.declared.problem.Goal.TheVariants as goals
use Rattle.tf_model.specs.Timetable.{Timetable, completion}
use Rattle.tf_model.specs.SchedulingTask.{SchedulingTask, JobData, job_data}
use Rattle.tf_model.specs.ClassTable.{is_shop_env, is_single_env, is_parallel_env}
use Rattle.tf_model.specs.Feasible.{FitsBroken}
use Rattle.tf_model.specs.Cost.{Makespan, Lateness, cost, greatest, total_price}
use Rattle.tf_model.proofs.Sums.{sum_by_le_all}
use Rattle.tf_posed.specs.ProblemData.{ProblemData, IsProblemSound, problem_jobs, problem_job, problem_time, problem_release}
use Rattle.tf_posed.specs.ProblemCost.{problem_cost, problem_cost_by, lateness, penalty}
use Rattle.tf_problem.specs.Relaxed.{IsRelaxation, task_by, only_time, window_task, load_task, rank_task, weighed_task}
use Rattle.tf_posed.proofs.Conditions.{All-problem_jobs}
use Rattle.tf_problem.proofs.Relaxing.{jobs-task_by, job-task_by, fits-dropped, whole-dropped, greatest-dropped}

pub single_no_shop : (e : Env) → IsTrue (is_single_env e) → IsFalse (is_shop_env e)
single_no_shop Single h = refl
single_no_shop _ h = absurd (false≢true h)

pub parallel_no_shop : (e : Env) → IsTrue (is_parallel_env e) → IsFalse (is_shop_env e)
parallel_no_shop Parallel h = refl
parallel_no_shop _ h = absurd (false≢true h)

-- nothing more
pub no_more : (c o : ℤ) → c ≤ℤ o → (c +ℤ pos 0) ≤ℤ o
no_more c o h = omega (arith, ints)

-- ---- lateness

-- `1|..|Lmax`, whatever the conditions, asks at least what `1|rj,prmp|Lmax` does
pub window_task-relaxes : (k : ProblemData) → IsProblemSound k → IsTrue (is_single_env k.problem.env)
    → k.problem.goal ≡ goals.Lmax → IsRelaxation k (window_task k) (pos 0)
window_task-relaxes k sound single is rows fits =
    let f : ℕ → JobData = λ j. record (only_time (problem_time k j)) {
      release = problem_release k j;
      due = (problem_job k j).due;
    } in
    let late : ℕ → ℤ = λ j. lateness k j (completion rows j) in
    let broken : FitsBroken (window_task k) rows =
    fits-dropped k ReleaseLmax 1 f rows fits (single_no_shop k.problem.env single) refl
    (sound.single single) (λ j h. omega arith) (λ j h. omega arith) in
    let dear : cost (window_task k) rows ≤ℤ greatest late (problem_jobs k) =
    greatest-dropped k ReleaseLmax 1 f rows Lateness sound.some_job refl refl late
    (λ j h. same (pos (completion rows j)) _ _ (ap (λ d. d.due) (job-task_by k ReleaseLmax 1 f j h)))
    in (
      rows,
      record { broken = broken; unbroken = λ no. absurd (false≢true (sym no)) },
      no_more (cost (window_task k) rows) (problem_cost k rows)
          (subst (λ z. cost (window_task k) rows ≤ℤ z) (sym (ap (λ g. problem_cost_by g k rows) is)) dear),
    )
  where
    same : (c d e : ℤ) → d ≡ e → (c -ℤ d) ≤ℤ (c -ℤ e)
    same c d e h = omega (arith, ints)

-- ---- the makespan

-- `P|..|Cmax` asks at least what `P|prmp|Cmax` does
pub load_task-relaxes : (k : ProblemData) → IsProblemSound k → IsTrue (is_parallel_env k.problem.env)
    → k.problem.goal ≡ goals.Cmax → IsRelaxation k (load_task k) (pos 0)
load_task-relaxes k sound parallel is rows fits =
    let f : ℕ → JobData = λ j. only_time (problem_time k j) in
    let ends : ℕ → ℤ = λ j. pos (completion rows j) in
    let broken : FitsBroken (load_task k) rows =
    fits-dropped k ParallelPrmp k.machines f rows fits (parallel_no_shop k.problem.env parallel) refl
    refl (λ j h. omega arith) (λ j h. omega arith) in
    let dear : cost (load_task k) rows ≤ℤ greatest ends (problem_jobs k) =
    greatest-dropped k ParallelPrmp k.machines f rows Makespan sound.some_job refl refl ends
    (λ j h. omega (arith, ints))
    in (
      rows,
      record { broken = broken; unbroken = λ no. absurd (false≢true (sym no)) },
      no_more (cost (load_task k) rows) (problem_cost k rows)
          (subst (λ z. cost (load_task k) rows ≤ℤ z) (sym (ap (λ g. problem_cost_by g k rows) is)) dear),
    )

-- ---- sums of completions

-- the weighted sum over the jobs of a task with the weights that f gives
pub total-task_by : (k : ProblemData) (class : Class) (machines : ℕ) (f : ℕ → JobData)
    (rows : Timetable)
    → total_price (task_by k class machines f) rows
    ≤ sum_by (λ j. (f j).weight * completion rows j) (problem_jobs k)
total-task_by k class machines f rows =
    let task : SchedulingTask = task_by k class machines f in
    let g : ℕ → ℕ = λ j. (job_data task j).weight * completion rows j in
    let le : sum_by g (problem_jobs k) ≤ sum_by (λ j. (f j).weight * completion rows j) (problem_jobs k) =
    sum_by_le_all g (λ j. (f j).weight * completion rows j) (problem_jobs k)
    (All-problem_jobs k (λ j. g j ≤ (f j).weight * completion rows j)
    (λ j h. same (ap (λ d. d.weight * completion rows j) (job-task_by k class machines f j h)))) in
    subst (λ jobs. sum_by g jobs ≤ sum_by (λ j. (f j).weight * completion rows j) (problem_jobs k))
    (sym (jobs-task_by k class machines f)) le
  where
    same : {a b : ℕ} → a ≡ b → a ≤ b
    same e = omega arith

-- `1|..|sumwC` asks at least what `1|prmp|sumwC` does
pub weighed_task-relaxes : (k : ProblemData) → IsProblemSound k → IsTrue (is_single_env k.problem.env)
    → k.problem.goal ≡ goals.SumWC
    → IsRelaxation k (weighed_task k 0 (λ j. (problem_job k j).weight)) (pos 0)
weighed_task-relaxes k sound single is rows fits =
    let w : ℕ → ℕ = λ j. (problem_job k j).weight in
    let f : ℕ → JobData = λ j. record (only_time (problem_time k j)) { weight = w j } in
    let broken : FitsBroken (weighed_task k 0 w) rows =
    fits-dropped k PrmpWeightedSum 1 f rows fits (single_no_shop k.problem.env single) refl
    (sound.single single) (λ j h. omega arith) (λ j h. omega arith) in
    let total : total_price (weighed_task k 0 w) rows
    ≤ sum_by (λ j. penalty goals.SumWC k j (completion rows j)) (problem_jobs k) =
    total-task_by k PrmpWeightedSum 1 f rows in (
      rows,
      record { broken = broken; unbroken = λ no. absurd (false≢true (sym no)) },
      no_more (cost (weighed_task k 0 w) rows) (problem_cost k rows)
          (subst (λ z. cost (weighed_task k 0 w) rows ≤ℤ z) (sym (ap (λ g. problem_cost_by g k rows) is))
          (omega (arith, ints, total))),
    )

-- `1|..|sumC`: all weights are 1
pub unit_task-relaxes : (k : ProblemData) → IsProblemSound k → IsTrue (is_single_env k.problem.env)
    → k.problem.goal ≡ goals.SumC → IsRelaxation k (weighed_task k 0 (λ _. 1)) (pos 0)
unit_task-relaxes k sound single is rows fits =
    let f : ℕ → JobData = λ j. only_time (problem_time k j) in
    let broken : FitsBroken (weighed_task k 0 (λ _. 1)) rows =
    fits-dropped k PrmpWeightedSum 1 f rows fits (single_no_shop k.problem.env single) refl
    (sound.single single) (λ j h. omega arith) (λ j h. omega arith) in
    let total : total_price (weighed_task k 0 (λ _. 1)) rows
    ≤ sum_by (λ j. 1 * completion rows j) (problem_jobs k) =
    total-task_by k PrmpWeightedSum 1 f rows in
    let once : sum_by (λ j. 1 * completion rows j) (problem_jobs k)
    ≤ sum_by (λ j. penalty goals.SumC k j (completion rows j)) (problem_jobs k) =
    sum_by_le_all (λ j. 1 * completion rows j) (completion rows) (problem_jobs k)
    (λ i d h. omega arith) in (
      rows,
      record { broken = broken; unbroken = λ no. absurd (false≢true (sym no)) },
      no_more (cost (weighed_task k 0 (λ _. 1)) rows) (problem_cost k rows)
          (subst (λ z. cost (weighed_task k 0 (λ _. 1)) rows ≤ℤ z)
          (sym (ap (λ g. problem_cost_by g k rows) is))
          (omega (arith, ints, total, once))),
    )

-- `P|..|sumC` without preemption asks at least what `P||sumC` does
pub rank_task-relaxes : (k : ProblemData) → IsProblemSound k → IsTrue (is_parallel_env k.problem.env)
    → IsFalse k.problem.prmp → k.problem.goal ≡ goals.SumC → IsRelaxation k (rank_task k) (pos 0)
rank_task-relaxes k sound parallel unbroken is rows fits =
    let f : ℕ → JobData = λ j. only_time (problem_time k j) in
    let no_shop : IsFalse (is_shop_env k.problem.env) =
    parallel_no_shop k.problem.env parallel in
    let broken : FitsBroken (rank_task k) rows =
    fits-dropped k ParallelSum k.machines f rows fits no_shop refl refl (λ j h. omega arith)
    (λ j h. omega arith) in
    let total : total_price (rank_task k) rows ≤ sum_by (λ j. 1 * completion rows j) (problem_jobs k) =
    total-task_by k ParallelSum k.machines f rows in
    let once : sum_by (λ j. 1 * completion rows j) (problem_jobs k)
    ≤ sum_by (λ j. penalty goals.SumC k j (completion rows j)) (problem_jobs k) =
    sum_by_le_all (λ j. 1 * completion rows j) (completion rows) (problem_jobs k)
    (λ i d h. omega arith) in (
      rows,
      record {
        broken = broken;
        unbroken = λ _. whole-dropped k ParallelSum k.machines f rows fits no_shop unbroken;
      },
      no_more (cost (rank_task k) rows) (problem_cost k rows)
          (subst (λ z. cost (rank_task k) rows ≤ℤ z) (sym (ap (λ g. problem_cost_by g k rows) is))
          (omega (arith, ints, total, once))),
    )
