use Rattle.tf_schedule.specs.Condition.{AreGapless}
use Rattle.tf_schedule.proofs.condition.are_gapless.Given as goal

abbrev pub invariant-loop-i : goal.invariant-loop-i
invariant-loop-i g l = AreGapless l.operations l.first l.i
