use Rattle.std.proofs.Common.{◌≡◌, ℕ, List, length, arith, subst, sym}
use Rattle.tf_schedule.specs.declared.piece.Piece.{Piece}
use Rattle.tf_plan.specs.Serial.{IsSerial}
use Rattle.tf_plan.proofs.Fitting.{as_laid, serial_none}
use Rattle.tf_plan.proofs.serial.one_after_another.Goals as goal

pub loop-place-init : goal.loop-place-init
loop-place-init g c =
    subst (λ (ps : List Piece). IsSerial c.args.task.now c.args.order.now 0 ps 0)
    (sym c.in_ok-pieces.ensures.items)
    (serial_none c.args.task.now c.args.order.now c.len.ensures.sized c.requires)

pub returns : goal.returns
returns g c =
    let all : c.loop-place.place ≡ length c.args.order.now =
    omega (arith, c.loop-place-test.false, c.loop-place.auto.place-end) in
    as_laid c.args.task.now c.len.ensures.sized c.args.order.now c.requires
    c.loop-place.pieces.items c.loop-place.now
    (subst (λ (n : ℕ). IsSerial c.args.task.now c.args.order.now n c.loop-place.pieces.items
    c.loop-place.now) all c.loop-place.invariant)
