use Rattle.std.proofs.Common.{sym, ◌∙◌}
use Rattle.tf_words.proofs.Lines.{kept_by_front, blank}
use Rattle.tf_words.proofs.line.is_kept.Goals as goal

pub returns-in-None : goal.returns-in-None
returns-in-None c = sym (blank c.args.line.now (sym c.word_at.ensures ∙ c.in-None.is))

pub returns-in-Some : goal.returns-in-Some
returns-in-Some c =
    sym (kept_by_front c.args.line.now c.in-Some.at (sym c.word_at.ensures ∙ c.in-Some.is))
