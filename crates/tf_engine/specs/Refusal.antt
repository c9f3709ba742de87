-- The task that a request and a text mean, or the one refusal: notation, class, the text's first
-- fault, and then the
-- first reason why the instance is no task of the problem.
use Rattle.std.specs.Prelude.{ℕ, List, Option, None, Some, Result, Ok, Err}
use Rattle.tf_model.specs.declared.class.Class.{Class}
use Rattle.tf_model.specs.declared.problem.Problem.{Problem}
use Rattle.tf_model.specs.declared.prepare.Refusal.TheVariants.{NoSolver}
use Rattle.tf_model.specs.Outcome.{◌>>=◌}
use Rattle.tf_model.specs.InstanceData.{InstanceData}
use Rattle.tf_model.specs.SchedulingTask.{SchedulingTask}
use Rattle.tf_model.specs.ClassTable.{class_of}
use Rattle.tf_model.specs.Prepare.{prepared}
use Rattle.tf_notation.specs.Reading.{notation}
use Rattle.tf_read.specs.declared.fault.ReadFault.{ReadFault}
use Rattle.tf_read.specs.JobTable.{job_table}
use Rattle.tf_read.specs.WeightedTardiness.{weighted_tardiness}
use Rattle.tf_read.specs.FlowShop.{flow_shop}
use Rattle.tf_engine.specs.FormData.{FormData, InTable, InWt, InFlow}
use Rattle.tf_engine.specs.RequestData.{RequestData}
use Rattle.tf_engine.specs.Faults.{Refused, ByNotation, ByText, ByTask}

-- the fault of a part as a refusal of the request
abbrev pub refused_by : {A E : Type 0} → (E → Refused) → Result A E → Result A Refused
refused_by reason (Ok x) = Ok x
refused_by reason (Err e) = Err (reason e)

abbrev pub with_class : Problem → Option Class → Result Problem Refused
with_class problem None = Err (ByTask NoSolver)
with_class problem (Some class) = Ok problem

-- the problem, which has a class
abbrev pub problem_for : List ℕ → Result Problem Refused
problem_for text =
    refused_by ByNotation (notation text) >>= λ problem. with_class problem (class_of problem)

-- the instance that a text of this form holds
abbrev pub instance_in : FormData → List ℕ → Result InstanceData ReadFault
instance_in InTable text = job_table text
instance_in (InWt jobs index) text = weighted_tardiness jobs index text
instance_in (InFlow name pair) text = flow_shop name pair text

-- the task of a problem and a text
abbrev pub task_in : RequestData → Problem → List ℕ → Result SchedulingTask Refused
task_in request problem text = do
  instance ← refused_by ByText (instance_in request.form text)
  refused_by ByTask (prepared instance problem request.machines)

abbrev pub task_for : RequestData → List ℕ → Result SchedulingTask Refused
task_for request text = problem_for request.problem >>= λ problem. task_in request problem text
