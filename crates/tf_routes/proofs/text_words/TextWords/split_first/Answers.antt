use Rattle.std.proofs.Common.{◌++◌, ap, sym, ◌∙◌}
use Rattle.tf_words.specs.Words.{words_from}
use Rattle.tf_routes.specs.TextLeft.{lines_of, placed}
use Rattle.tf_routes.proofs.Words.{line_over, text_over}
use Rattle.tf_routes.proofs.text_words.TextWords.split_first.Goals as goal

pub returns-in_default-split_first : goal.returns-in_default-split_first
returns-in_default-split_first c =
    sym c.loop-bytes.invariant
    ∙ text_over _ _ _ _ c.in_default.ensures.words c.in_default-split_first.ensures.lines

pub loop-bytes-preserved : goal.loop-bytes-preserved
loop-bytes-preserved c =
    ap (λ n. placed c.loop-bytes.below.number c.in-Some-split_first.next.now
    ++ words_from n (lines_of c.in-Some-split_first.more)) c.in-Some-split_first.ensures.number
    ∙ sym (line_over c.loop-bytes.number _ _ _ _ _ c.in_default.ensures.words
    c.in-Some-split_first.ensures.lines)
    ∙ c.loop-bytes.invariant
