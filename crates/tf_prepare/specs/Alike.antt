-- Of a problem of a class the same instance makes the same task, by the class and by the problem.
use Rattle.std.specs.Prelude.{◌≡◌, ℕ, Option, Ok, IsFalse}
use Rattle.tf_model.specs.declared.problem.Problem.{Problem}
use Rattle.tf_model.specs.ClassTable.{IsOfClass, is_costed}
use Rattle.tf_model.specs.InstanceData.{InstanceData}
use Rattle.tf_model.specs.SchedulingTask.{SchedulingTask}
use Rattle.tf_model.specs.Sound.{IsSound}
use Rattle.tf_model.specs.Prepare.{prepared}
use Rattle.tf_posed.specs.Agreement.{posed}
use Rattle.tf_bound.specs.Sized.{IsSized}
use Rattle.tf_prepare.specs.TimedData.{self_timed}
use Rattle.tf_prepare.specs.Preparing.{prepared_in}

-- The problem is of the task's class, and its own task is the same, with the problem as it is
-- written. Without cost functions that is within the limits too, so nothing is refused for totals.
pub record IsAlike (i : InstanceData) (p : Problem) (argument : Option ℕ) (task : SchedulingTask)
    : Type 0 where
  pub of_class : IsOfClass p task.class
  pub same : prepared_in (self_timed i) p argument ≡ Ok (record (posed task) { problem = p })
  pub sized : IsSound task → IsFalse (is_costed task.class)
      → IsSized (record (posed task) { problem = p })

-- whatever instance, problem and number of machines make a task of a class
abbrev pub AlikeLaw : Type 0
AlikeLaw = (i : InstanceData) (p : Problem) (argument : Option ℕ) (task : SchedulingTask)
    → prepared i p argument ≡ Ok task → IsAlike i p argument task
