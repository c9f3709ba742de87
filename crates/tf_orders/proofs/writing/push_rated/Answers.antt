use Rattle.tf_text.proofs.Written.{then}
use Rattle.tf_orders.proofs.Rated.{row_written}
use Rattle.tf_orders.proofs.writing.push_rated.Goals as goal

pub returns : goal.returns
returns g c =
    row_written c.args.text.now.items c.push_number.new.text.items c.push_values.new.text.items
    c.push.new.self.items c.args.value.now _ _
    (then c.args.text.now.items c.extend_from_slice.new.self.items c.push_number.new.text.items
    c.args.value.now _ c.in_ok-extend_from_slice.ensures.items c.in_ok-push_number.ensures)
    c.in_ok-push_values.ensures c.in_ok-push.ensures.items
