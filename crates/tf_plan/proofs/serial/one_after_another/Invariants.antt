use Rattle.tf_plan.specs.Serial.{IsSerial}
use Rattle.tf_plan.proofs.serial.one_after_another.Given as goal

abbrev pub invariant-loop-place : goal.invariant-loop-place
invariant-loop-place g l = IsSerial l.task l.order l.place l.pieces.items l.now
