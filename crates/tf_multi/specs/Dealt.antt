-- Jobs dealt round the machines.
use Rattle.std.specs.Prelude.{◌≡◌, List, reverse}
use Rattle.tf_model.specs.SchedulingTask.{SchedulingTask, time_of}
use Rattle.tf_schedule.specs.declared.piece.Piece.{Piece}
use Rattle.tf_schedule.specs.SemiActive.{laid}
use Rattle.tf_check.specs.declared.weighted_job.WeightedJob.{WeightedJob}
use Rattle.tf_check.specs.Claim.{Claim, ByRanks}
use Rattle.tf_check.specs.Ratio.{AreByRatio, jobs_of}
use Rattle.tf_multi.specs.Dealing.{dealt}

-- the certificate is the ranks of all jobs by ratio, from the last to the first
pub record IsReverseRanks (k : SchedulingTask) (claim : Claim) : Type 0 where
  pub jobs : List WeightedJob
  pub by_ratio : AreByRatio k jobs
  pub is : claim ≡ ByRanks (reverse (jobs_of jobs))

-- the pieces are those of all jobs by ratio, dealt to the machines in turn, machine by machine
pub record AreDealt (k : SchedulingTask) (pieces : List Piece) : Type 0 where
  pub jobs : List WeightedJob
  pub by_ratio : AreByRatio k jobs
  pub are : pieces ≡ laid (dealt (time_of k) k.machines k.machines (jobs_of jobs))
