use Rattle.std.proofs.Common.{◌-◌, heap_items, ap, ◌∙◌, sym, arith}
use Rattle.tf_problem.specs.Shortest.{completions}
use Rattle.tf_bound.proofs.Remaining.{more-none, rest-part}
use Rattle.tf_bound.proofs.shortest.work_until.Goals as goal

pub returns-then-time-room-clause-rest : goal.returns-then-time-room-clause-rest
returns-then-time-room-clause-rest g c =
    rest-part (c.args.until - c.loop-time.now) c.in-Some.time (heap_items c.loop-time.times)
    (heap_items c.take_shortest.new.times) c.in-Some.ensures.least (omega (arith, c.if-time-room.true))
    (heap_items c.add.new.times) c.in_ok-add.ensures.added
    ∙ sym c.loop-time.invariant.rest

pub returns-then-time-room-clause-total : goal.returns-then-time-room-clause-total
returns-then-time-room-clause-total g c =
    omega (
      arith,
      c.loop-time.invariant.total,
      c.loop-time.invariant.small,
      more-none (c.args.until - c.loop-time.now) c.in-Some.time (heap_items c.loop-time.times)
          (heap_items c.take_shortest.new.times) c.in-Some.ensures.least c.loop-time.now
          (omega (arith, c.if-time-room.true)),
    )

pub returns-clause-total : goal.returns-clause-total
returns-clause-total g c =
    omega (
      arith,
      c.loop-time.invariant.total,
      c.loop-time.invariant.small,
      ap (completions c.loop-time.now (c.args.until - c.loop-time.now)) c.in_default.ensures.none,
    )
