use Rattle.std.proofs.Common.{subst}
use Rattle.std.specs.List.{All}
use Rattle.std.proofs.lemmas.List.{take_all}
use Rattle.std.proofs.lemmas.List.Elements.{All-more}
use Rattle.tf_schedule.specs.ProblemMisfit.{IsKnownTo}
use Rattle.tf_schedule.proofs.judge.first_stranger.Goals as goal

pub loop-piece-preserved : goal.loop-piece-preserved
loop-piece-preserved g c =
    All-more (IsKnownTo (g.T.Asks.posed c.args.task.now)) c.args.pieces.now c.loop-piece.piece-index
    c.piece-item.result c.loop-piece-test.true c.loop-piece.invariant
    (subst (IsKnownTo (g.T.Asks.posed c.args.task.now)) c.piece-item.is (c.is_known.ensures.0 c.if-not-is_known.false))

pub returns : goal.returns
returns g c =
    subst (All (IsKnownTo (g.T.Asks.posed c.args.task.now)))
    (take_all c.loop-piece.piece-index c.args.pieces.now c.loop-piece-test.false)
    c.loop-piece.invariant
