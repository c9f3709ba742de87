use mir.Val.{to_z}
use mir.Syntax.{w128}
use Rattle.std.proofs.Common.{◌≡◌, ◌<◌, pos, min, length, sym, ap, ◌∙◌, arith}
use Rattle.std.proofs.lemmas.Int.{ints, to_z_pos}
use Rattle.tf_schedule.specs.Amounts.{last_stop}
use Rattle.tf_schedule.specs.Cost.{known_pieces}
use Rattle.tf_schedule.specs.Stops.{total_to}
use Rattle.tf_schedule.proofs.Costing.{total_fits, total_is, stops_within}
use Rattle.tf_schedule.proofs.cost.total_cost.Goals as goal

pub overflow_cast-result : goal.overflow_cast-result
overflow_cast-result g c =
    let whole : min (length c.args.task.now.jobs) c.loop-first.first ≡ length c.args.task.now.jobs =
    omega (arith, c.loop-first-test.false, c.len-jobs.ensures.value) in
    let total : c.loop-first.total
    ≡ total_to c.args.task.now (known_pieces c.args.task.now c.args.pieces.now)
    (length c.args.task.now.jobs) = c.loop-first.invariant.sum
    ∙ ap (total_to c.args.task.now (known_pieces c.args.task.now c.args.pieces.now)) whole in
    let fits = total_fits c.args.task.now (last_stop (known_pieces c.args.task.now c.args.pieces.now))
    c.requires.task c.requires.class
    (stops_within c.args.task.now c.args.pieces.now c.requires.schedule.sound)
    (length c.args.task.now.jobs) (omega arith) in
    omega (arith, ints, total, fits)

pub returns : goal.returns
returns g c =
    let whole : min (length c.args.task.now.jobs) c.loop-first.first ≡ length c.args.task.now.jobs =
    omega (arith, c.loop-first-test.false, c.len-jobs.ensures.value) in
    let total : c.loop-first.total
    ≡ total_to c.args.task.now (known_pieces c.args.task.now c.args.pieces.now)
    (length c.args.task.now.jobs) = c.loop-first.invariant.sum
    ∙ ap (total_to c.args.task.now (known_pieces c.args.task.now c.args.pieces.now)) whole in
    let fits = total_fits c.args.task.now (last_stop (known_pieces c.args.task.now c.args.pieces.now))
    c.requires.task c.requires.class
    (stops_within c.args.task.now c.args.pieces.now c.requires.schedule.sound)
    (length c.args.task.now.jobs) (omega arith) in
    let small : c.loop-first.total < 170141183460469231731687303715884105728 =
    omega (arith, total, fits) in
    let stored : to_z w128 c.loop-first.total ≡ pos c.loop-first.total =
    to_z_pos w128 c.loop-first.total small in
    stored ∙ ap pos (total ∙ sym (total_is c.args.task.now c.args.pieces.now c.requires.schedule))
