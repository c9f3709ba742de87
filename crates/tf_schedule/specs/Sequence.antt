-- Jobs one after another on one machine.
use Rattle.std.specs.Prelude.{ℕ, List, map}
use Rattle.tf_model.specs.SchedulingTask.{SchedulingTask, time_of}
use Rattle.tf_schedule.specs.declared.semi_active.Operation.{Operation}

-- all of job j on machine 1
abbrev pub operation_of : SchedulingTask → ℕ → Operation
operation_of k j = record { job = j; machine = 1; time = time_of k j }

abbrev pub in_sequence : SchedulingTask → List ℕ → List Operation
in_sequence k jobs = map (operation_of k) jobs
