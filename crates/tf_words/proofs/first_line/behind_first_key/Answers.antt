use Rattle.std.proofs.Common.{sym, ◌∙◌}
use Rattle.tf_words.proofs.FirstLine.{key_front, word_first}
use Rattle.tf_words.proofs.first_line.behind_first_key.Goals as goal

pub returns-then-is_over : goal.returns-then-is_over
returns-then-is_over c =
    word_first _ _ _
    (key_front _ _ _ _ _ c.split_at.ensures.front c.split_at.ensures.back
    (sym c.is.ensures ∙ c.if-is.true)) c.requires.some c.requires.word
    (c.is_over.ensures c.if-is_over.true)
