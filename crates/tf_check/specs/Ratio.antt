-- Jobs with their weights and times, by the ratio of weight to time (Smith 1956).
use Rattle.std.specs.Prelude.{◌≡◌, ℕ, ◌+◌, ◌*◌, ◌≤◌, List, [], ◌∷◌, map}
use Rattle.std.specs.List.{All, AllPairs}
use Rattle.std.specs.List.Sorted.{IsPermutation}
use Rattle.tf_model.specs.SchedulingTask.{SchedulingTask, all_jobs, job_data, time_of}
use Rattle.tf_check.specs.declared.weighted_job.WeightedJob.{WeightedJob}

-- the weight and the time are those of the job
pub record IsOfTask (k : SchedulingTask) (x : WeightedJob) : Type 0 where
  pub weight : x.weight ≡ (job_data k x.job).weight
  pub time : x.time ≡ time_of k x.job

abbrev pub jobs_of : List WeightedJob → List ℕ
jobs_of xs = map (λ x. x.job) xs

-- all jobs of the task, in some order
pub record AreOfTask (k : SchedulingTask) (xs : List WeightedJob) : Type 0 where
  pub all : IsPermutation (all_jobs k) (jobs_of xs)
  pub told : All (IsOfTask k) xs

-- y has no greater weight for its time than x
abbrev pub IsNoLater : WeightedJob → WeightedJob → Type 0
IsNoLater x y = y.weight * x.time ≤ x.weight * y.time

-- if they have the same, x has the smaller number
abbrev pub IsSmallerInTie : WeightedJob → WeightedJob → Type 0
IsSmallerInTie x y = y.weight * x.time ≡ x.weight * y.time → x.job ≤ y.job

-- all jobs of the task, none with a greater weight for its time than one before it, and by number
-- where they have the same
pub record AreByRatio (k : SchedulingTask) (xs : List WeightedJob) : Type 0 where
  pub jobs : AreOfTask k xs
  pub falling : AllPairs IsNoLater xs
  pub ties : AllPairs IsSmallerInTie xs

-- the weighted sum of the completions of jobs that run one after another from time t on
abbrev pub completions_from : ℕ → List WeightedJob → ℕ
completions_from t [] = 0
completions_from t (x ∷ xs) = x.weight * (t + x.time) + completions_from (t + x.time) xs

-- the jobs of a task in their order by ratio
pub record AreJobsByRatio (k : SchedulingTask) (js : List ℕ) : Type 0 where
  pub jobs : List WeightedJob
  pub by_ratio : AreByRatio k jobs
  pub are : js ≡ jobs_of jobs

-- the same sum, of the jobs of a task
abbrev pub completions_in : SchedulingTask → ℕ → List ℕ → ℕ
completions_in k t [] = 0
completions_in k t (j ∷ js) =
    (job_data k j).weight * (t + time_of k j) + completions_in k (t + time_of k j) js
