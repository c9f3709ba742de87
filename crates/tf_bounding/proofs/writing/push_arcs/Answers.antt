use Rattle.std.proofs.Common.{◌∷◌, map, codes, sym, ◌∙◌}
use Rattle.std.proofs.lemmas.Bool.{eqb-true}
use Rattle.std.specs.Fmt.{decimal}
use Rattle.tf_bounding.proofs.Written.{line_written, no_arcs, some_arcs}
use Rattle.tf_bounding.proofs.writing.push_arcs.Goals as goal

pub returns-then-is_empty : goal.returns-then-is_empty
returns-then-is_empty g c =
    no_arcs _ c.args.arcs.now (eqb-true _ _ (sym c.is_empty.ensures ∙ c.if-is_empty.true))

pub returns : goal.returns
returns g c =
    some_arcs _ _ c.args.arcs.now (sym c.is_empty.ensures ∙ c.if-is_empty.false)
    (line_written _ _ _ _ (codes "arcs") (map decimal c.args.arcs.now)
    c.in_ok-extend_from_slice.ensures.items c.in_ok-push_numbers.ensures c.in_ok-push.ensures.items)
