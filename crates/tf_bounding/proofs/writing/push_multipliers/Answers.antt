use Rattle.std.proofs.Common.{[], ◌∷◌, codes, map}
use Rattle.std.specs.Fmt.{decimal}
use Rattle.tf_bounding.specs.BoundText.{arc_lines}
use Rattle.tf_bounding.proofs.Written.{one_more, line_written, lines_then, only_line}
use Rattle.tf_bounding.proofs.writing.push_multipliers.Goals as goal

pub returns : goal.returns
returns g c =
    lines_then _ _ _
    ((codes "multipliers" ∷ decimal c.args.machine ∷ decimal c.args.q ∷ map decimal c.args.numerators.now) ∷ [])
    (arc_lines c.args.arcs.now)
    (only_line _ _ (codes "multipliers" ∷ decimal c.args.machine ∷ decimal c.args.q ∷ map decimal c.args.numerators.now)
    (line_written _ _ _ _ _
    (decimal c.args.machine ∷ decimal c.args.q ∷ map decimal c.args.numerators.now)
    c.in_ok-extend_from_slice.ensures.items
    (one_more _ _ _ _ (decimal c.args.q ∷ map decimal c.args.numerators.now)
    c.in_ok-push_number.ensures
    (one_more _ _ _ _ (map decimal c.args.numerators.now) c.in_ok-push_number-2.ensures
    c.in_ok-push_numbers.ensures)) c.in_ok-push.ensures.items))
    c.in_ok-push_arcs.ensures
