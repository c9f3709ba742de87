use Rattle.std.proofs.Common.{◌∷◌, codes, map}
use Rattle.std.specs.Fmt.{decimal}
use Rattle.tf_bounding.proofs.Written.{one_more, line_written, only_line}
use Rattle.tf_bounding.proofs.writing.push_machine_prices.Goals as goal

pub returns : goal.returns
returns g c =
    let rows = map decimal c.args.rows.now in
    let over = decimal c.args.q ∷ rows in
    only_line _ _ (codes "prices_on" ∷ decimal c.args.machine ∷ over)
    (line_written _ _ _ _ _ (decimal c.args.machine ∷ over)
    c.in_ok-extend_from_slice.ensures.items
    (one_more _ _ _ _ over c.in_ok-push_number.ensures
    (one_more _ _ _ _ rows c.in_ok-push_number-2.ensures c.in_ok-push_numbers.ensures))
    c.in_ok-push.ensures.items)
