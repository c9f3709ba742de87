-- A task within the limits is sound.
use Rattle.std.proofs.Common.{◌≡◌, Bool, true, false, not, ◌&&◌, ◌||◌, IsTrue, ℕ, ◌+◌, ◌-◌, ◌≤◌, List, [], ◌∷◌, length, sum, sum_by, slice_index, map, max, cond, refl, sym, ap, ◌∙◌, arith}
use Rattle.std.specs.List.{fold, range_with_len}
use Rattle.std.proofs.lemmas.Bool.{and_parts, or_left}
use Rattle.std.proofs.lemmas.List.Sums.{sum_by-cons, get_or-le-sum_by, fold-append}
use Rattle.std.proofs.lemmas.List.FromFn.{map-range_with_len_more}
use Rattle.tf_model.specs.Limit.{limit}
use Rattle.tf_model.specs.ClassTable.{is_shop_env}
use Rattle.tf_model.proofs.Costs.{sum_by-from}
use Rattle.tf_model.proofs.Ranges.{sum_by-range_le}
use Rattle.tf_model.proofs.Sums.{sum_by-same, sum_by-same_all}
use Rattle.tf_posed.specs.ProblemData.{ProblemData, IsProblemSound, IsProblemJob, needs_time, problem_job, problem_time, time_over, no_problem_job}
use Rattle.tf_posed.specs.ProblemData.{problem_jobs, problem_release, is_covered_env, is_covered_goal}
use Rattle.tf_problem.specs.ProblemBounds.{is_alike, numerator, problem_work}
use Rattle.tf_problem.proofs.Pushed.{known_env}
use Rattle.tf_posed.proofs.Conditions.{All-problem_jobs}
use Rattle.tf_bound.specs.Sized.{IsSized, IsSizedJob, all_work, work}

-- what is known of a job that is there
pub sized_job : (k : ProblemData) → IsSized k → (j : ℕ) → IsProblemJob k j
    → IsSizedJob k.problem k.machines (problem_job k j)
sized_job k sized j job = sized.jobs (j - 1) no_problem_job (omega (arith, job.0, job.1))

one_sum : (xs : List ℕ) → length xs ≡ 1 → sum xs ≡ slice_index xs 0
one_sum [] e = absurd (omega (arith, e))
one_sum (x ∷ []) e = sum_by-cons (λ y. y) x [] ∙ nothing x
  where
    nothing : (n : ℕ) → n + 0 ≡ n
    nothing n = omega arith
one_sum (x ∷ y ∷ xs) e = absurd (omega (arith, e))

-- the times on all machines are all times
pub all_times : (k : ProblemData) (j : ℕ) → length (problem_job k j).times ≡ k.machines
    → time_over k j 0 k.machines ≡ work (problem_job k j)
all_times k j e =
    let times : List ℕ = (problem_job k j).times in
    ap (λ m. time_over k j 0 m) (sym e)
    ∙ sum_by-same (slice_index times) (λ i. slice_index times (i - 0))
    (range_with_len 0 (length times)) (λ i. ap (slice_index times) (whole i))
    ∙ sum_by-from (λ x. x) 0 0 times
  where
    whole : (i : ℕ) → i ≡ i - 0
    whole i = omega arith

pub sound : (k : ProblemData) → IsSized k → IsProblemSound k
sound k sized = record {
  covered = sized.covered;
  some_job = sized.some_job;
  some_machine = sized.some_machine;
  single = sized.single;
  one_time = λ shop j job.
      let its = sized_job k sized j job in
      let one = its.one_time shop in
      (one, omega (arith, its.some_time (outside shop), one_sum (problem_job k j).times one));
  shop_times = λ shop j job.
      let its = sized_job k sized j job in
      let as_many = its.shop_times shop in
      (as_many, λ needed. omega (arith, its.some_time needed, all_times k j as_many));
  routes = λ job_shop j job.
      let its = (sized_job k sized j job).routed job_shop in
      record {
        of_machines = its.of_machines;
        no_twice = its.no_twice;
        has_all = its.has_all;
      };
  arcs_in = sized.arcs_in;
}
  where
    -- outside shops each job takes time
    outside : is_shop_env k.problem.env ≡ false → IsTrue (needs_time k.problem)
    outside plain = or_left (not (is_shop_env k.problem.env)) (k.problem.release || k.problem.prec)
        (ap not plain)

-- the environment is one that the definitions cover
pub env_is : (k : ProblemData) → IsSized k
    → IsTrue (is_alike k.problem.env || is_shop_env k.problem.env)
env_is k sized = known_env k.problem.env
    (and_parts (is_covered_env k.problem.env) (is_covered_goal k.problem.goal)
    (and_parts (is_covered_env k.problem.env && is_covered_goal k.problem.goal)
    (not (k.problem.block || k.problem.rcrc)) sized.covered).0).0

-- the numerators of all jobs are all numerators
pub all_numerators : (k : ProblemData) (v : List ℕ) → length v ≡ length k.jobs
    → sum_by (numerator v) (problem_jobs k) ≡ sum v
all_numerators k v e =
    ap (λ n. sum_by (numerator v) (range_with_len 1 n)) (sym e) ∙ sum_by-from (λ x. x) 0 1 v

-- the time of a job, in a shop on all machines, is that of all its times
pub work_is : (k : ProblemData) → IsSized k → (j : ℕ) → IsProblemJob k j
    → problem_work k j ≡ work (problem_job k j)
work_is k sized j job = by (is_shop_env k.problem.env) refl
  where
    by : (b : Bool) → is_shop_env k.problem.env ≡ b → problem_work k j ≡ work (problem_job k j)
    by true e =
        ap (λ t. cond t (time_over k j 0 k.machines) (problem_time k j)) e
        ∙ all_times k j ((sized_job k sized j job).shop_times e)
    by false e =
        ap (λ t. cond t (time_over k j 0 k.machines) (problem_time k j)) e
        ∙ sym (one_sum (problem_job k j).times ((sized_job k sized j job).one_time e))

-- all the work after any release date is within the limit
pub released_within : (k : ProblemData) → IsSized k → (j : ℕ) → IsProblemJob k j
    → problem_release k j + all_work k ≤ limit
released_within k sized j job =
    let own : (problem_job k j).release + all_work k ≤ limit =
    sized.horizon (j - 1) no_problem_job (omega (arith, job.0, job.1)) in
    omega (arith, own, by k.problem.release)
  where
    by : (named : Bool) → cond named (problem_job k j).release 0 ≤ (problem_job k j).release
    by true = omega arith
    by false = omega arith

-- a job that starts at its release date completes within the limit
pub ends_within : (k : ProblemData) → IsSized k → (j : ℕ) → IsProblemJob k j
    → problem_release k j + problem_work k j ≤ limit
ends_within k sized j job =
    let its : work (problem_job k j) ≤ all_work k =
    get_or-le-sum_by work k.jobs (j - 1) no_problem_job (omega (arith, job.0, job.1)) in
    omega (arith, released_within k sized j job, its, work_is k sized j job)

-- the work of all jobs is that of all their times
pub all_work_is : (k : ProblemData) → IsSized k
    → sum_by (problem_work k) (problem_jobs k) ≡ all_work k
all_work_is k sized =
    sum_by-same_all (problem_work k) (λ j. work (problem_job k j)) (problem_jobs k)
    (All-problem_jobs k (λ j. problem_work k j ≡ work (problem_job k j)) (work_is k sized))
    ∙ sum_by-from work no_problem_job 1 k.jobs

-- and that of the first jobs is no more
pub work_within : (k : ProblemData) → IsSized k → (n : ℕ) → n ≤ length k.jobs
    → sum_by (problem_work k) (range_with_len 1 n) ≤ all_work k
work_within k sized n le =
    omega (
      arith,
      sum_by-range_le (problem_work k) 1 n (length k.jobs - n),
      ap (λ m. sum_by (problem_work k) (range_with_len 1 m)) whole,
      all_work_is k sized,
    )
  where
    whole : n + (length k.jobs - n) ≡ length k.jobs
    whole = omega (arith, le)

-- the greatest release date of one job more
pub released_more : (r : ℕ → ℕ) (n j : ℕ) → j ≡ n + 1
    → fold max 0 (map r (range_with_len 1 (n + 1)))
    ≡ max (fold max 0 (map r (range_with_len 1 n))) (r j)
released_more r n j is =
    ap (fold max 0) (map-range_with_len_more r 1 n j next)
    ∙ fold-append max 0 (map r (range_with_len 1 n)) (r j ∷ [])
  where
    next : 1 + n ≡ j
    next = omega (arith, is)
