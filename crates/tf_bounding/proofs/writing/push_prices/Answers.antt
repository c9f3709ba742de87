use Rattle.std.proofs.Common.{◌∷◌, codes, map}
use Rattle.std.specs.Fmt.{decimal}
use Rattle.tf_bounding.proofs.Written.{one_more, line_written, only_line}
use Rattle.tf_bounding.proofs.writing.push_prices.Goals as goal

pub returns : goal.returns
returns g c =
    only_line _ _ (codes "prices" ∷ decimal c.args.q ∷ map decimal c.args.rows.now)
    (line_written _ _ _ _ _
    (decimal c.args.q ∷ map decimal c.args.rows.now)
    c.in_ok-extend_from_slice.ensures.items
    (one_more _ _ _ _ (map decimal c.args.rows.now) c.in_ok-push_number.ensures
    c.in_ok-push_numbers.ensures) c.in_ok-push.ensures.items)
