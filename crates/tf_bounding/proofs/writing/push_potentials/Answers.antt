use Rattle.std.proofs.Common.{◌∷◌, codes, map}
use Rattle.std.specs.Fmt.{signed_decimal}
use Rattle.tf_bounding.proofs.Written.{line_written, only_line}
use Rattle.tf_bounding.proofs.writing.push_potentials.Goals as goal

pub returns : goal.returns
returns g c =
    only_line _ _ (codes "potentials" ∷ map signed_decimal c.args.numbers.now)
    (line_written _ _ _ _ _ _ c.in_ok-extend_from_slice.ensures.items c.in_ok-push_values.ensures
    c.in_ok-push.ensures.items)
