use Rattle.std.proofs.Common.{sym, ◌∙◌}
use Rattle.std.proofs.lemmas.Bool.{eqb-false}
use Rattle.tf_words.proofs.Comma.{part_then, part_last, behind}
use Rattle.tf_words.proofs.part.next_part.Goals as goal

pub returns-in-None-clause-parts : goal.returns-in-None-clause-parts
returns-in-None-clause-parts c =
    behind c.args.text.now _ (λ e. eqb-false _ _ (sym c.is_empty.ensures ∙ c.if-is_empty.false) e)
    c.split_at.ensures.back ∙ part_last _ (sym c.in-None.ensures)

pub returns-in-Some-clause-parts : goal.returns-in-Some-clause-parts
returns-in-Some-clause-parts c =
    behind c.args.text.now _ (λ e. eqb-false _ _ (sym c.is_empty.ensures ∙ c.if-is_empty.false) e)
    c.split_at.ensures.back
    ∙ part_then _ _ _ c.in-Some.at (sym c.in-Some.ensures) c.split_at-in-Some.ensures.front
    c.split_at-in-Some.ensures.back
