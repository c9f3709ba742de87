use Rattle.std.specs.BinaryHeap.{heap_items}
use Rattle.tf_single.proofs.GreatestFirst.{pushed_first, pushed_later}
use Rattle.tf_single.proofs.greatest_first.GreatestFirst.push.Goals as goal

pub returns-in_ok-push-clause-entries : goal.returns-in_ok-push-clause-entries
returns-in_ok-push-clause-entries g c =
    pushed_later c.args.self.now.first.items (heap_items c.args.self.now.later)
    (heap_items c.push.new.self) c.args.entry c.in_ok-push.ensures.permutation

pub returns-in_ok-push-2-clause-entries : goal.returns-in_ok-push-2-clause-entries
returns-in_ok-push-2-clause-entries g c =
    rw c.in_ok-push-2.ensures.items
    (pushed_first c.args.self.now.first.items (heap_items c.args.self.now.later) c.args.entry)
