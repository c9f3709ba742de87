use Rattle.std.proofs.Common.{arith}
use Rattle.tf_text.proofs.UsualPiece.{usual_moves, usual_shorter}
use Rattle.tf_text.proofs.answer.pieces.push_usual.Goals as goal

pub overflow_add-number : goal.overflow_add-number
overflow_add-number g c =
    omega (
      arith,
      c.requires,
      c.loop-piece.invariant.later,
      usual_shorter _ _ _ c.in-Some.ensures,
    )

pub loop-piece-preserved : goal.loop-piece-preserved
loop-piece-preserved g c = record {
  later = omega (arith, c.loop-piece.invariant.later, usual_shorter _ _ _ c.in-Some.ensures);
  fewer = omega (arith, c.loop-piece.invariant.fewer, usual_shorter _ _ _ c.in-Some.ensures);
  moves = usual_moves _ _ _ _ _ _ _ _ _ c.loop-piece.invariant.moves c.in-Some.ensures
      c.in_ok-push.ensures.items;
}
