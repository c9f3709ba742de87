use Rattle.std.proofs.Common.{sym, ◌∙◌}
use Rattle.std.proofs.lemmas.Bool.{eq-eqb}
use Rattle.tf_words.proofs.Lines.{keeps_line, skips_line, blank_last, blank_then}
use Rattle.tf_words.proofs.line.if_kept.Goals as goal

pub returns-in-None-clause-lines : goal.returns-in-None-clause-lines
returns-in-None-clause-lines c =
    λ n. blank_last _ n c.requires (sym c.front_at.ensures ∙ c.in-None.is)

pub returns-then-text-at-eq10-clause-lines : goal.returns-then-text-at-eq10-clause-lines
returns-then-text-at-eq10-clause-lines c =
    λ n. blank_then _ _ n c.in-Some.at (sym c.front_at.ensures ∙ c.in-Some.is)
    (eq-eqb _ _ c.if-text-at-eq10.true) c.split_at.ensures.back

pub returns-then-is_kept-clause-lines : goal.returns-then-is_kept-clause-lines
returns-then-is_kept-clause-lines c =
    λ n. keeps_line _ _ _ n c.next_line.ensures.lines (sym c.is_kept.ensures ∙ c.if-is_kept.true)

pub returns-else-is_kept-clause-lines : goal.returns-else-is_kept-clause-lines
returns-else-is_kept-clause-lines c =
    λ n. skips_line _ _ _ n c.next_line.ensures.lines (sym c.is_kept.ensures ∙ c.if-is_kept.false)
