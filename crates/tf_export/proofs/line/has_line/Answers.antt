use Rattle.std.proofs.Common.{ap, sym, ◌∙◌}
use Rattle.std.proofs.lemmas.Bool.{eqb-true}
use Rattle.tf_export.specs.Lines.{has_line}
use Rattle.tf_words.proofs.Lines.{line_none}
use Rattle.tf_export.proofs.line.has_line.Goals as goal

pub returns : goal.returns
returns c =
    sym (ap (has_line c.args.word.now)
    (line_none c.loop-rest.rest.now (eqb-true _ _ (sym c.is_empty.ensures ∙ c.loop-rest-test.false))))
    ∙ c.loop-rest.invariant
