-- What happens to a job, by its pieces.
use Rattle.std.specs.Prelude.{ℕ, ℤ, ◌==◌, List, if◌then◌else◌}
use Rattle.tf_model.specs.SchedulingTask.{SchedulingTask}
use Rattle.tf_model.specs.Cost.{price}
use Rattle.tf_schedule.specs.declared.piece.Piece.{Piece}
use Rattle.tf_schedule.specs.Amounts.{least_by, start_of, last_stop}
use Rattle.tf_schedule.specs.Lanes.{LanesData, start_in, stop_in}
use Rattle.tf_evaluate.specs.declared.evaluation.JobOutcome.{JobOutcome}

-- the least start, 0 of a job without pieces, which has no stop
abbrev pub first_start : ℕ → ℕ → ℕ
first_start start stop = if stop == 0 then 0 else start

-- the first start of its pieces, their last stop, and what the job counts if it completes then
abbrev pub outcome_by : (ℕ → ℕ → ℤ) → List Piece → ℕ → JobOutcome
outcome_by counted ps j = record {
  job = j;
  start = first_start (least_by start_of ps j) (last_stop ps j);
  completion = last_stop ps j;
  price = counted j (last_stop ps j);
}

-- the same by the table of when the jobs work
abbrev pub outcome_on : (ℕ → ℕ → ℤ) → LanesData → ℕ → JobOutcome
outcome_on counted l j = record {
  job = j;
  start = first_start (start_in l j) (stop_in l j);
  completion = stop_in l j;
  price = counted j (stop_in l j);
}

-- what the class counts
abbrev pub outcome_of : SchedulingTask → List Piece → ℕ → JobOutcome
outcome_of k = outcome_by (price k)

abbrev pub outcome_in : SchedulingTask → LanesData → ℕ → JobOutcome
outcome_in k = outcome_on (price k)
