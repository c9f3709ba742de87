use Rattle.std.proofs.Common.{rules, ◌≡◌, ◌+◌, max, pos, take, sym, ap, ◌∙◌, ◌<ℤ◌, ◌≤ℤ◌, arith}
use mir.Val.{SFits, to_z, of_z}
use mir.Syntax.{w64}
use Rattle.std.proofs.lemmas.Int.{ints, to_z-of_z}
use Rattle.tf_schedule.specs.declared.piece.Piece.{Piece}
use Rattle.tf_schedule.specs.Piece.{as_time}
use Rattle.tf_schedule.specs.Drawing.{greatest_stop}
use Rattle.tf_schedule.proofs.Times.{later_stop, earlier_stop}
use Rattle.tf_schedule.proofs.Drawing.{greatest_stop_more}
use Rattle.tf_schedule.proofs.schedule.end_of.Goals as goal
use Rattle.tf_schedule.proofs.schedule.end_of.Goals.{then-end-piece, else-end-piece}

pub loop-piece-preserved : goal.loop-piece-preserved
loop-piece-preserved c =
    let p = c.piece-item.result in
    let more : greatest_stop (take (c.loop-piece.piece-index + 1) c.args.pieces.now)
    ≡ max (greatest_stop (take c.loop-piece.piece-index c.args.pieces.now)) (as_time p.stop) =
    greatest_stop_more c.args.pieces.now c.loop-piece.piece-index p c.loop-piece-test.true
    ∙ ap (λ (q : Piece). max (greatest_stop (take c.loop-piece.piece-index c.args.pieces.now))
    (as_time q.stop)) (sym c.piece-item.is) in
    let before : c.loop-piece.end
    ≡ pos (greatest_stop (take c.loop-piece.piece-index c.args.pieces.now)) =
    sym c.loop-piece.end-is ∙ c.loop-piece.invariant in
    let fits : SFits w64 p.stop = search rules in
    let stored : to_z w64 (of_z w64 p.stop) ≡ p.stop = to_z-of_z w64 p.stop fits in
    c.if-end-piece.end-is
    ∙ elim c.if-end-piece.branch as
    (λ _. c.if-end-piece.end
    ≡ pos (greatest_stop (take (c.loop-piece.piece-index + 1) c.args.pieces.now))) [
      | then-end-piece w ↦
          let test = rw (c.loop-piece.end-is, stored) at w.if-end-piece.true in
          let less : c.loop-piece.end <ℤ p.stop = omega (arith, ints, test) in
          sym c.if-end-piece.end-is ∙ w.end-is ∙ stored
          ∙ later_stop _ c.loop-piece.end p.stop before less ∙ ap pos (sym more)
      | else-end-piece w ↦
          let test = rw (c.loop-piece.end-is, stored) at w.if-end-piece.false in
          let le : p.stop ≤ℤ c.loop-piece.end = omega (arith, ints, test) in
          sym c.if-end-piece.end-is ∙ w.end-is ∙ c.loop-piece.end-is
          ∙ earlier_stop _ c.loop-piece.end p.stop before le ∙ ap pos (sym more)
    ]
