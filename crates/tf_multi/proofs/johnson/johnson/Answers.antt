use Rattle.std.proofs.Common.{ap, ◌∙◌}
use Rattle.tf_multi.specs.Johnson.{line_end}
use Rattle.tf_multi.specs.TwoMachines.{time_at}
use Rattle.tf_multi.proofs.Certified.{line_schedule, line_accepted}
use Rattle.tf_multi.proofs.Numbers.{cast_value}
use Rattle.tf_multi.proofs.Ranking.{may_in_order}
use Rattle.tf_multi.proofs.johnson.johnson.Goals as goal

pub returns-clause-schedule : goal.returns-clause-schedule
returns-clause-schedule g c =
    rw (c.new.ensures, c.in_ok-turn.ensures.laid, c.deref-2.ensures.value)
    (line_schedule _ c.in_ok-pieces.ensures.sound c.requires _ c.in_ok-order.ensures.all)

pub returns-clause-accepted : goal.returns-clause-accepted
returns-clause-accepted g c =
    let v = c.in_ok-turn.turn.second in
    rw (
      c.new.ensures,
      cast_value v c.in_ok-turn.ensures.small,
      c.in_ok-turn.ensures.laid,
      c.deref-2.ensures.value,
    )
    (line_accepted _ c.in_ok-pieces.ensures.sound c.requires _ c.in_ok-order.ensures.all
    (may_in_order _ _ c.in_ok-order.ensures) v
    (c.in_ok-turn.ensures.value
    ∙ ap (line_end (time_at c.args.task.now) 0 0) c.deref-2.ensures.value) _
    c.in_ok-split.ensures.bound)

pub returns-clause-rule : goal.returns-clause-rule
returns-clause-rule g c =
    rw c.new.ensures
    (record {
      order = c.in_ok-order.order.items;
      is_order = c.in_ok-order.ensures;
      are = rw c.deref-2.ensures.value at c.in_ok-turn.ensures.laid;
      certificate = rw c.deref-3.ensures.value at c.in_ok-split.ensures.split;
    })
