use Rattle.std.proofs.Common.{ap, sym, ◌∙◌, arith}
use Rattle.std.specs.List.{count_by}
use Rattle.std.proofs.lemmas.Bool.{eqb-true}
use Rattle.tf_export.specs.Tally.{is_counted}
use Rattle.tf_words.proofs.Lines.{line_none}
use Rattle.tf_export.proofs.tally.count_of.Goals as goal

pub returns : goal.returns
returns c =
    let none = line_none c.loop-rest.rest.now
    (eqb-true _ _ (sym c.is_empty.ensures ∙ c.loop-rest-test.false)) in
    omega (arith, c.loop-rest.invariant.counted, ap (count_by (is_counted c.args.mark)) none)
