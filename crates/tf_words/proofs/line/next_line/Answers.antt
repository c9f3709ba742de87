use Rattle.std.proofs.Common.{sym, ◌∙◌, arith}
use Rattle.tf_words.specs.Words.{lines}
use Rattle.tf_words.proofs.Lines.{line_then, line_last}
use Rattle.tf_words.proofs.line.next_line.Goals as goal

pub returns-in-None-clause-lines : goal.returns-in-None-clause-lines
unfolding lines
returns-in-None-clause-lines c =
    line_last _ (λ e. omega (arith, e, c.requires)) (sym c.line_feed_at.ensures ∙ c.in-None.is)

pub returns-in-Some-clause-lines : goal.returns-in-Some-clause-lines
returns-in-Some-clause-lines c =
    line_then _ _ _ _ _ (sym c.line_feed_at.ensures ∙ c.in-Some.is) c.split_at.ensures.front
    c.split_at.ensures.back c.split_at-in-Some.ensures.back
