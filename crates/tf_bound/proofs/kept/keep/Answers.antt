use Rattle.std.proofs.Common.{heap_items, arith}
use Rattle.std.proofs.lemmas.List.Sorted.{le_from_greatest, sum_by_pushed}
use Rattle.tf_bound.proofs.InOrder.{kept-all, kept-less, rest-sum}
use Rattle.tf_bound.proofs.kept.keep.Goals as goal

pub returns-then-more-room-clause-total : goal.returns-then-more-room-clause-total
returns-then-more-room-clause-total g c =
    omega (
      arith,
      c.requires.total,
      c.from.ensures,
      sum_by_pushed (λ y. y) c.args.time (heap_items c.args.kept.now) (heap_items c.push.new.self)
          c.in_ok-push.ensures.permutation,
    )

pub returns-then-more-room-clause-kept : goal.returns-then-more-room-clause-kept
returns-then-more-room-clause-kept g c =
    kept-all c.args.time c.args.total c.args.room (heap_items c.args.kept.now)
    (heap_items c.push.new.self) c.in_ok-push.ensures.permutation c.requires.total
    (omega (arith, c.from.ensures, c.if-more-room.true))

pub overflow_sub-result : goal.overflow_sub-result
overflow_sub-result g c =
    omega (
      arith,
      c.from.ensures,
      c.from-in-Some.ensures,
      rest-sum c.args.time c.args.total c.args.room (heap_items c.args.kept.now)
          (heap_items c.push.new.self) c.in_ok-push.ensures.permutation c.requires.total c.in-Some.longest
          (heap_items c.pop.new.self) c.in-Some.ensures.permutation,
    )

pub returns-in-Some-clause-total : goal.returns-in-Some-clause-total
returns-in-Some-clause-total g c =
    omega (
      arith,
      c.from.ensures,
      c.from-in-Some.ensures,
      rest-sum c.args.time c.args.total c.args.room (heap_items c.args.kept.now)
          (heap_items c.push.new.self) c.in_ok-push.ensures.permutation c.requires.total c.in-Some.longest
          (heap_items c.pop.new.self) c.in-Some.ensures.permutation,
    )

pub returns-in-Some-clause-kept : goal.returns-in-Some-clause-kept
returns-in-Some-clause-kept g c =
    kept-less c.args.time c.args.total c.args.room (heap_items c.args.kept.now)
    (heap_items c.push.new.self) c.in_ok-push.ensures.permutation c.requires.total c.in-Some.longest
    (heap_items c.pop.new.self) c.in-Some.ensures.permutation
    (le_from_greatest c.in-Some.longest (heap_items c.pop.new.self)
    (c.in-Some.ensures.below_top (c.in_ok-push.ensures.heap_order c.requires.heap)))
    (omega (arith, c.from.ensures, c.if-more-room.false))
