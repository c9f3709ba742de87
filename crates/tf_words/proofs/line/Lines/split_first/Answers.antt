use Rattle.std.proofs.Common.{map, ap, sym, ◌∙◌}
use Rattle.std.proofs.lemmas.Bool.{eqb-true}
use Rattle.tf_words.specs.Words.{by_words}
use Rattle.tf_words.proofs.Lines.{line_none, none_kept}
use Rattle.tf_words.proofs.line.Lines.split_first.Goals as goal

pub returns-clause-lines : goal.returns-clause-lines
returns-clause-lines c = c.loop-rest.invariant.same
    ∙ none_kept _ _ (line_none _ (eqb-true _ _ (sym c.is_empty.ensures ∙ c.loop-rest-test.false)))

pub returns-clause-words : goal.returns-clause-words
returns-clause-words c =
    ap (map by_words)
    (c.loop-rest.invariant.same
    ∙ none_kept _ _ (line_none _ (eqb-true _ _ (sym c.is_empty.ensures ∙ c.loop-rest-test.false))))
