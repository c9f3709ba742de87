-- The jobs of a machine with numerators for weights, and their due dates.
use Rattle.std.proofs.Common.{◌≡◌, ℕ, ◌+◌, ◌-◌, ℤ, pos, ◌+ℤ◌, ◌*ℤ◌, slice_index, List, [], ◌∷◌, ◌++◌, sym, ap, ◌∙◌, arith}
use Rattle.std.specs.List.{range_with_len}
use Rattle.std.proofs.lemmas.Int.{ints}
use Rattle.std.proofs.lemmas.List.{map-id}
use Rattle.std.proofs.lemmas.List.FromFn.{map-range_with_len_more}
use Rattle.tf_model.specs.declared.class.Class.TheVariants.{PrmpWeightedSum}
use Rattle.tf_model.specs.SchedulingTask.{JobData, all_jobs, job_data}
use Rattle.tf_check.specs.declared.weighted_job.WeightedJob.{WeightedJob}
use Rattle.tf_check.specs.Ratio.{IsOfTask}
use Rattle.tf_posed.specs.ProblemData.{ProblemData, IsProblemJob, problem_due, problem_jobs, problem_time_on}
use Rattle.tf_problem.specs.ProblemBounds.{int_sum}
use Rattle.tf_problem.specs.Relaxed.{weighed_task, only_time}
use Rattle.tf_bound.specs.Faulted.{owed_due, owed_to}
use Rattle.tf_problem.proofs.Relaxing.{job-task_by, jobs-task_by}

pub told : (k : ProblemData) (a : ℕ) (w : ℕ → ℕ) (x : WeightedJob) → IsProblemJob k x.job
    → x.weight ≡ w x.job → x.time ≡ problem_time_on k x.job a → IsOfTask (weighed_task k a w) x
told k a w x job weight time =
    let f : ℕ → JobData = λ j. record (only_time (problem_time_on k j a)) { weight = w j } in
    let its : job_data (weighed_task k a w) x.job ≡ f x.job =
    job-task_by k PrmpWeightedSum 1 f x.job job in
    record {
      weight = weight ∙ sym (ap (λ (d : JobData). d.weight) its);
      time = omega (arith, time, ap (λ (d : JobData). d.first + d.second) its);
    }

pub jobs_are : (k : ProblemData) (a : ℕ) (w : ℕ → ℕ) → all_jobs (weighed_task k a w) ≡ problem_jobs k
jobs_are k a w =
    jobs-task_by k PrmpWeightedSum 1
    (λ j. record (only_time (problem_time_on k j a)) { weight = w j })

-- one number more
pub range_more : (n j : ℕ) → j ≡ n + 1
    → range_with_len 1 (n + 1) ≡ range_with_len 1 n ++ j ∷ []
range_more n j is =
    let next : 1 + n ≡ j = omega arith in
    sym (map-id (range_with_len 1 (n + 1))) ∙ map-range_with_len_more (λ i. i) 1 n j next
    ∙ ap (λ js. js ++ j ∷ []) (map-id (range_with_len 1 n))

int_sum-push : (f : ℕ → ℤ) (xs : List ℕ) (x : ℕ)
    → int_sum f (xs ++ x ∷ []) ≡ int_sum f xs +ℤ f x
int_sum-push f [] x = plain (f x)
  where
    plain : (z : ℤ) → z +ℤ pos 0 ≡ pos 0 +ℤ z
    plain z = omega (arith, ints)
int_sum-push f (y ∷ xs) x =
    ap (λ z. f y +ℤ z) (int_sum-push f xs x) ∙ regroup (f y) (int_sum f xs) (f x)
  where
    regroup : (a b d : ℤ) → a +ℤ (b +ℤ d) ≡ (a +ℤ b) +ℤ d
    regroup a b d = omega (arith, ints)

pub int_sum_more : (f : ℕ → ℤ) (n j : ℕ) → j ≡ n + 1
    → int_sum f (range_with_len 1 (n + 1)) ≡ int_sum f (range_with_len 1 n) +ℤ f j
int_sum_more f n j is =
    ap (int_sum f) (range_more n j is) ∙ int_sum-push f (range_with_len 1 n) j

-- the due date of the next job, and the sum with it
pub owed_step : (k : ProblemData) (v : List ℕ) (n x : ℕ) (sum its : ℤ) → x ≡ n + 1
    → sum ≡ owed_to k v n → its ≡ problem_due k x
    → (pos (slice_index v n) *ℤ its ≡ owed_due k v x)
    × (sum +ℤ (pos (slice_index v n) *ℤ its) ≡ owed_to k v x)
owed_step k v n x sum its is so_far same =
    let place : n ≡ x - 1 = omega (arith, is) in
    let product : pos (slice_index v n) *ℤ its ≡ owed_due k v x =
    ap (λ z. pos (slice_index v n) *ℤ z) same
    ∙ ap (λ i. pos (slice_index v i) *ℤ problem_due k x) place in
    let more : owed_to k v x ≡ owed_to k v n +ℤ owed_due k v x =
    ap (owed_to k v) is ∙ int_sum_more (owed_due k v) n x is in (
      product,
      ap (λ z. z +ℤ (pos (slice_index v n) *ℤ its)) so_far
          ∙ ap (λ z. owed_to k v n +ℤ z) product ∙ sym more,
    )
