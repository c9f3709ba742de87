use Rattle.std.proofs.Common.{ℕ, List, subst}
use Rattle.tf_bound.specs.Along.{KeepsRaised}
use Rattle.tf_bound.proofs.RaisedDates.{keeps_none, keeps_more, sorted_among, walked}
use Rattle.tf_bound.proofs.along.walk_arcs.Goals as goal

pub loop-next-init : goal.loop-next-init
loop-next-init g c =
    keeps_none c.args.work.now c.sort_unstable.new.self.items c.args.dates.now c.requires.within

pub leave-requires-clause-within : goal.leave-requires-clause-within
leave-requires-clause-within g c = c.loop-next.invariant.within

pub leave-requires-clause-arcs : goal.leave-requires-clause-arcs
leave-requires-clause-arcs g c =
    sorted_among c.args.arcs.now c.in_ok-sorted.sorted.items c.sort_unstable.new.self.items
    c.in_ok-sorted.ensures.items c.sort_unstable.ensures.permutation _ _ c.loop-next.invariant.len _
    c.deref-in-loop-next-2.ensures.value c.requires.among

pub loop-next-preserved : goal.loop-next-preserved
loop-next-preserved g c =
    let work : List ℕ = c.args.work.now in
    keeps_more work c.sort_unstable.new.self.items c.args.dates.now c.loop-next.dates
    c.leave.new.dates c.loop-next.invariant
    (subst (λ (arcs : List (ℕ × ℕ)). KeepsRaised work arcs c.loop-next.dates c.leave.new.dates)
    c.deref-in-loop-next-2.ensures.value c.in_ok-leave.ensures.kept)

pub returns-clause-raised : goal.returns-clause-raised
returns-clause-raised g c = (
  walked c.args.arcs.now c.in_ok-sorted.sorted.items c.sort_unstable.new.self.items
      c.in_ok-sorted.ensures.items c.sort_unstable.ensures.permutation c.args.dates.now
      c.args.work.now c.loop-next.dates c.loop-next.invariant,
  c.loop-next.invariant.within,
)
