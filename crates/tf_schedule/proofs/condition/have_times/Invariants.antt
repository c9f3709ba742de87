use Rattle.tf_posed.specs.ProblemData.{problem_job}
use Rattle.tf_schedule.specs.Condition.{HaveTimes}
use Rattle.tf_schedule.proofs.condition.have_times.Given as goal

abbrev pub invariant-loop-i : goal.invariant-loop-i
invariant-loop-i g l =
    HaveTimes l.operations l.first l.i (problem_job (g.T.Asks.posed l.task) l.job).times
