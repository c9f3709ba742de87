use Rattle.std.proofs.Common.{sym, ◌∙◌}
use Rattle.tf_words.specs.Words.{is_white, words}
use Rattle.tf_words.proofs.Parts.{gap_only, first_then, first_last}
use Rattle.tf_words.proofs.word.first_word.Goals as goal

pub returns-in-None-clause-words : goal.returns-in-None-clause-words
unfolding words
returns-in-None-clause-words c =
    gap_only is_white c.args.text.now (sym c.word_at.ensures ∙ c.in-None.is)

pub returns-in-None-white_at-clause-words : goal.returns-in-None-white_at-clause-words
unfolding words
returns-in-None-white_at-clause-words c =
    first_last is_white _ _ _ (sym c.word_at.ensures ∙ c.in-Some.is) c.split_at.ensures.back
    (sym c.white_at.ensures ∙ c.in-None-white_at.is)

pub returns-in-Some-white_at-clause-words : goal.returns-in-Some-white_at-clause-words
unfolding words
returns-in-Some-white_at-clause-words c =
    (first_then is_white _ _ _ _ _ _ (sym c.word_at.ensures ∙ c.in-Some.is) c.split_at.ensures.back
    (sym c.white_at.ensures ∙ c.in-Some-white_at.is) c.split_at-in-Some-white_at.ensures.front
    c.split_at-in-Some-white_at.ensures.back).0

pub returns-in-Some-white_at-clause-shorter : goal.returns-in-Some-white_at-clause-shorter
returns-in-Some-white_at-clause-shorter c =
    (first_then is_white _ _ _ _ _ _ (sym c.word_at.ensures ∙ c.in-Some.is) c.split_at.ensures.back
    (sym c.white_at.ensures ∙ c.in-Some-white_at.is) c.split_at-in-Some-white_at.ensures.front
    c.split_at-in-Some-white_at.ensures.back).1

pub returns-in-Some-white_at-clause-some : goal.returns-in-Some-white_at-clause-some
returns-in-Some-white_at-clause-some c =
    (first_then is_white _ _ _ _ _ _ (sym c.word_at.ensures ∙ c.in-Some.is) c.split_at.ensures.back
    (sym c.white_at.ensures ∙ c.in-Some-white_at.is) c.split_at-in-Some-white_at.ensures.front
    c.split_at-in-Some-white_at.ensures.back).2
