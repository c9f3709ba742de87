use Rattle.std.proofs.Common.{arith, subst, IsTrue}
use Rattle.std.specs.List.{All}
use Rattle.std.proofs.lemmas.List.{take_all}
use Rattle.std.proofs.lemmas.List.Elements.{All-more}
use Rattle.std.proofs.lemmas.Int.{ints}
use Rattle.tf_schedule.specs.Piece.{IsInRange, IsNotEmpty}
use Rattle.tf_schedule.specs.Schedule.{IsPiece}
use Rattle.tf_schedule.proofs.Faults.{first_unsound}
use Rattle.tf_schedule.proofs.schedule.judge_each.Goals as goal

-- the piece is in range and empty, and all before it are sound
pub returns-then-piece : goal.returns-then-piece
returns-then-piece c =
    let t : IsTrue c.is_in_range.result = c.if-not-is_in_range.false in
    first_unsound (λ p. IsInRange p × ¬ (IsNotEmpty p)) _ _ _ c.loop-k-test.true c.index-pieces-k.is
    c.loop-k.invariant (c.is_in_range.ensures.0 t, λ h. omega (arith, ints))

pub loop-k-preserved : goal.loop-k-preserved
loop-k-preserved c =
    let t : IsTrue c.is_in_range.result = c.if-not-is_in_range.false in
    All-more IsPiece c.args.pieces.now c.loop-k.k c.index-pieces-k.result c.loop-k-test.true
    c.loop-k.invariant
    (subst IsPiece c.index-pieces-k.is (c.is_in_range.ensures.0 t, omega (arith, ints)))

pub returns : goal.returns
returns c = subst (All IsPiece) (take_all c.loop-k.k c.args.pieces.now c.loop-k-test.false)
    c.loop-k.invariant
