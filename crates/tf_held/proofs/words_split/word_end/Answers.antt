use Rattle.std.proofs.Common.{position, sym, ap, ◌∙◌}
use Rattle.tf_words.specs.Words.{is_white}
use Rattle.tf_held.proofs.Cuts.{ends_before, ends_last, no_word}
use Rattle.tf_held.proofs.words_split.word_end.Goals as goal

pub returns-in-None : goal.returns-in-None
returns-in-None c = no_word c.args.text.now (sym c.word_at.ensures ∙ c.in-None.is)

pub returns-in-Some-white_at : goal.returns-in-Some-white_at
returns-in-Some-white_at c =
    ends_before c.args.text.now c.in-Some.start (sym c.word_at.ensures ∙ c.in-Some.is)
    c.in-Some-white_at.len
    (ap (position is_white) (sym c.split_at.ensures.back) ∙ sym c.white_at.ensures ∙ c.in-Some-white_at.is)

pub returns-in-None-white_at : goal.returns-in-None-white_at
returns-in-None-white_at c =
    ends_last c.args.text.now c.in-Some.start (sym c.word_at.ensures ∙ c.in-Some.is)
    (ap (position is_white) (sym c.split_at.ensures.back) ∙ sym c.white_at.ensures ∙ c.in-None-white_at.is)
