use Rattle.tf_plan.specs.Serial.{IsPartly}
use Rattle.tf_plan.proofs.serial.push_job.Given as goal

abbrev pub invariant-loop-i : goal.invariant-loop-i
invariant-loop-i g l = IsPartly l.task l.order l.place l.i l.pieces.items l.end
