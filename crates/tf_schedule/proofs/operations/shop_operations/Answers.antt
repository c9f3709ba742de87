use Rattle.std.proofs.Common.{◌≡◌, ◌+◌, ◌*◌, ◌≤◌, List, map, take, sym, ap, ◌∙◌, subst, arith}
use Rattle.std.proofs.lemmas.List.{length-map, take_all}
use Rattle.tf_schedule.specs.declared.piece.Piece.{Piece}
use Rattle.tf_schedule.specs.Lanes.{HasLanes, added}
use Rattle.tf_schedule.specs.Operation.{operation_piece}
use Rattle.tf_schedule.proofs.Tables.{operations_more, has_operations}
use Rattle.tf_schedule.proofs.operations.shop_operations.Goals as goal

pub loop-piece-preserved : goal.loop-piece-preserved
loop-piece-preserved g c =
    let m = c.args.machines in
    let ps = c.args.pieces.now in
    let i = c.loop-piece.piece-index in
    let p = c.piece-item.result in
    let lanes = c.loop-piece.lanes in
    let laid : c.operation_piece.result ≡ operation_piece m p = c.operation_piece.ensures in
    let is : c.add.new.self ≡ added lanes (operation_piece m p) =
    c.add.ensures.added ∙ ap (added lanes) laid in
    let low : 1 ≤ c.operation_piece.result.job = omega (arith, c.add.ensures.from_one) in
    subst (HasLanes (c.args.jobs * m) (take (i + 1) (map (operation_piece m) ps))) (sym is)
    (operations_more (c.args.jobs * m) m ps i p c.loop-piece-test.true c.piece-item.is
    (subst (λ (q : Piece). 1 ≤ q.job) laid low) lanes c.loop-piece.invariant)

pub returns : goal.returns
returns g c =
    let ps = c.args.pieces.now in
    let named : List Piece = map (operation_piece c.args.machines) ps in
    has_operations c.args.jobs c.args.machines ps c.loop-piece.lanes c.requires.within
    (subst (λ (qs : List Piece). HasLanes (c.args.jobs * c.args.machines) qs c.loop-piece.lanes)
    (take_all c.loop-piece.piece-index named
    (omega (arith, c.loop-piece-test.false, length-map ps (operation_piece c.args.machines))))
    c.loop-piece.invariant)
