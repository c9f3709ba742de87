-- What jobs come to that a class may bound.
use Rattle.std.specs.Prelude.{◌≡◌, List, length, map}
use Rattle.std.specs.List.{sum_by}
use Rattle.tf_model.specs.SchedulingTask.{JobData}
use Rattle.tf_model.specs.Prepare.{greatest_of, work_of}
use Rattle.tf_model.specs.declared.job_totals.JobTotals.{JobTotals}

-- these are the totals of the jobs
pub record HasSummed (totals : JobTotals) (jobs : List JobData) : Type 0 where
  pub count : totals.jobs ≡ length jobs
  pub work : totals.work ≡ work_of jobs
  pub weight : totals.weight ≡ sum_by (λ job. job.weight) jobs
  pub last_release : totals.last_release ≡ greatest_of (map (λ job. job.release) jobs)
