use Rattle.std.proofs.Common.{ap, sym, sum_by, ◌∙◌, arith}
use Rattle.std.proofs.lemmas.Bool.{eqb-true}
use Rattle.tf_export.specs.Tally.{gap_or_zero}
use Rattle.tf_words.proofs.Lines.{line_none}
use Rattle.tf_export.proofs.tally.sum_of_gaps.Goals as goal

pub returns : goal.returns
returns c =
    let none = line_none c.loop-rest.rest.now
    (eqb-true _ _ (sym c.is_empty.ensures ∙ c.loop-rest-test.false)) in
    omega (arith, c.loop-rest.invariant.summed, ap (sum_by gap_or_zero) none)
