use Rattle.std.proofs.Common.{codes}
use Rattle.tf_orders.proofs.Rated.{row_written}
use Rattle.tf_orders.proofs.writing.push_unknown.Goals as goal

pub returns : goal.returns
returns g c =
    row_written c.args.text.now.items c.extend_from_slice.new.self.items
    c.push_values.new.text.items c.push.new.self.items (codes "-") (codes "-") _
    c.in_ok-extend_from_slice.ensures.items c.in_ok-push_values.ensures c.in_ok-push.ensures.items
