-- Jobs that run by the ratio of weight to time (Smith 1956).
use Rattle.std.specs.Prelude.{◌≡◌, List}
use Rattle.tf_model.specs.SchedulingTask.{SchedulingTask}
use Rattle.tf_schedule.specs.declared.piece.Piece.{Piece}
use Rattle.tf_schedule.specs.SemiActive.{laid}
use Rattle.tf_schedule.specs.Sequence.{in_sequence}
use Rattle.tf_check.specs.declared.weighted_job.WeightedJob.{WeightedJob}
use Rattle.tf_check.specs.Ratio.{AreByRatio, jobs_of}

-- the pieces are all jobs by ratio, one after another from time 0 on
pub record RunsByRatio (k : SchedulingTask) (pieces : List Piece) : Type 0 where
  pub jobs : List WeightedJob
  pub by_ratio : AreByRatio k jobs
  pub are : pieces ≡ laid (in_sequence k (jobs_of jobs))
