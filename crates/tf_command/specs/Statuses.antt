-- The status that the program ends with.
use Rattle.std.specs.Prelude.{ℕ}
use Rattle.tf_engine.specs.declared.fault.RunFault.{RunFault}
use Rattle.tf_engine.specs.Faults.{Stop, Refuses, Fails, Wants, stop_of}
use Rattle.tf_engine.specs.declared.run_check.Checked.{Checked}
use Rattle.tf_engine.specs.declared.run_check.Checked.TheVariants.{Accepted, OtherTask, Rejected}
use Rattle.tf_orders.specs.declared.run_orders.OrdersRated.{OrdersRated}
use Rattle.tf_orders.specs.declared.run_orders.OrdersRated.TheVariants.{Single, Lines}
use Rattle.tf_planning.specs.declared.writing.Planned.{Planned}
use Rattle.tf_planning.specs.declared.writing.Planned.TheVariants.{Optimal, Open}
use Rattle.tf_random.specs.declared.run_random.RandomFault.{RandomFault}
use Rattle.tf_random.specs.declared.run_random.RandomFault.TheVariants.{Notation, NotInATable, OutOfMemory}
use Rattle.tf_evaluate.specs.declared.evaluation.Standing.{Standing}
use Rattle.tf_evaluate.specs.declared.evaluation.Standing.TheVariants.{Best, Beaten, Unproved, Unfit}

abbrev pub status_by : Stop → ℕ
status_by (Refuses refused) = 2
status_by Wants = 3
status_by Fails = 4

-- after a run that gave no answer: refused, want of memory, or a device fault
abbrev pub status_of : {A : Type 0} → RunFault A → ℕ
status_of fault = status_by (stop_of fault)

-- after a text that was written: an answer, a bound, a trace or a drawing
abbrev pub status_of_text : Unit {0} → ℕ
status_of_text written = 0

-- after a check: accepted, or rejected
abbrev pub status_of_check : Checked → ℕ
status_of_check Accepted = 0
status_of_check OtherTask = 1
status_of_check (Rejected reason) = 1

-- after an evaluation: best, does not fit, or fits and is beaten
abbrev pub status_of_standing : Standing → ℕ
status_of_standing Best = 0
status_of_standing Unproved = 6
status_of_standing (Unfit why) = 1
status_of_standing Beaten = 6

-- after orders: how good the schedule of one order is, and 0 where a line was written of each
abbrev pub status_of_rated : OrdersRated → ℕ
status_of_rated (Single standing) = status_of_standing standing
status_of_rated Lines = 0

-- after a plan: proved to be optimal, or not
abbrev pub status_of_planned : Planned → ℕ
status_of_planned Optimal = 0
status_of_planned Open = 6

-- where there is no random table: it is refused, or there was no memory
abbrev pub status_of_no_table : RandomFault → ℕ
status_of_no_table (Notation fault) = 2
status_of_no_table NotInATable = 2
status_of_no_table OutOfMemory = 3
