use Rattle.std.proofs.Common.{◌+◌, length, ap, ◌∙◌}
use Rattle.std.specs.List.{swap}
use Rattle.std.proofs.lemmas.List.Edits.{length-swap}
use Rattle.tf_random.specs.Table.{route_after}
use Rattle.tf_random.proofs.Parts.{route_more}
use Rattle.tf_random.proofs.times.route.Goals as goal

pub loop-place-init : goal.loop-place-init
unfolding route_after
loop-place-init c = record {
  drawn = c.in_ok-machines.ensures.machines;
  all = c.in_ok-machines.ensures.len;
}

pub loop-place-preserved : goal.loop-place-preserved
loop-place-preserved c = record {
  drawn = route_more c.args.plan.now c.args.k c.loop-place.place c.swapped-ahead.result
      c.loop-place.machines.items c.swap.new.self.items c.loop-place.invariant.drawn
      c.swapped-ahead.ensures.value c.swap.ensures.items;
  all = ap length c.swap.ensures.items
      ∙ length-swap c.loop-place.machines.items c.loop-place.place
      (c.loop-place.place + c.swapped-ahead.result)
      ∙ c.loop-place.invariant.all;
}
