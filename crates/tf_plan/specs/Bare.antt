-- A task of a class that has the jobs and the arcs of the task of a problem.
use Rattle.std.specs.Prelude.{◌≡◌, length}
use Rattle.tf_model.specs.SchedulingTask.{SchedulingTask}
use Rattle.tf_model.specs.Sound.{IsSound}
use Rattle.tf_model.specs.declared.class.Class.TheVariants.{PrecLmax}
use Rattle.tf_posed.specs.ProblemData.{ProblemData}

-- the task of the class has as many jobs, and the same arcs
pub record HasSameArcs (k : ProblemData) (t : SchedulingTask) : Type 0 where
  pub jobs : length t.jobs ≡ length k.jobs
  pub arcs : t.arcs ≡ k.arcs
  pub class : t.class ≡ PrecLmax
  pub sound : IsSound t
