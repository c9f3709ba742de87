use Rattle.std.proofs.Common.{◌+◌, ◌<◌, length, sym, ap, ◌∙◌, arith}
use Rattle.tf_schedule.specs.Stops.{with_stop}
use Rattle.tf_schedule.proofs.Costing.{known_more}
use Rattle.tf_schedule.proofs.cost.last_stops.Goals as goal

pub loop-piece-preserved : goal.loop-piece-preserved
loop-piece-preserved g c i lt =
    let inside : i < length c.loop-piece.stops = omega (arith, lt, c.note_stop.auto.stops) in
    c.note_stop.ensures i inside
    ∙ ap (with_stop c.args.task.now c.piece-item.result (c.args.first + i + 1))
    (c.loop-piece.invariant i inside)
    ∙ sym (known_more c.args.task.now c.args.pieces.now c.loop-piece.piece-index c.piece-item.result
    (c.args.first + i + 1) c.loop-piece-test.true c.piece-item.is)
