use Rattle.std.proofs.Common.{heap_items}
use Rattle.tf_bound.proofs.Remaining.{added-to}
use Rattle.tf_bound.proofs.shortest.add.Goals as goal

pub returns-clause-added : goal.returns-clause-added
returns-clause-added g c =
    added-to _ (heap_items c.args.times.now) (heap_items c.push.new.self) c.in_ok-push.ensures.permutation
