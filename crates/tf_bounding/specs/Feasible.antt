-- Why no timetable fits the task of a problem.
use Rattle.std.specs.Prelude.{◌≡◌, ℕ, List}
use Rattle.tf_posed.specs.ProblemData.{ProblemData}
use Rattle.tf_engine.specs.Faults.{Refused, ByCycle}
use Rattle.tf_plan.specs.Order.{IsProblemCycle}

-- the task is refused by these jobs, each of which precedes the next by an arc, and the last the
-- first, so that no timetable fits
abbrev pub IsCyclicTask : ProblemData → Refused → Type 0
IsCyclicTask k refused = (jobs : List ℕ) × (refused ≡ ByCycle jobs) × IsProblemCycle k jobs
