use Rattle.tf_check.proofs.RatioOrder.{AreFirst}
use Rattle.tf_problem.specs.ProblemBounds.{numerator}
use Rattle.tf_problem.specs.Relaxed.{weighed_task}
use Rattle.tf_bound.specs.Faulted.{timed_machine}
use Rattle.tf_bound.proofs.multipliers.weighed_jobs.Given as goal

abbrev pub invariant-loop-k : goal.invariant-loop-k
invariant-loop-k g l =
    AreFirst (weighed_task l.task (timed_machine l.task l.machine) (numerator l.u)) l.k l.jobs.items
