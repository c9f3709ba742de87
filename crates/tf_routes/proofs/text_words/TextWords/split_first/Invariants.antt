use Rattle.std.proofs.Common.{◌≡◌, ◌++◌, length}
use Rattle.tf_words.specs.Words.{words_from}
use Rattle.tf_routes.specs.TextLeft.{lines_of, placed, words_of}
use Rattle.tf_routes.proofs.text_words.TextWords.split_first.Given as goal

abbrev pub invariant-loop-bytes : goal.invariant-loop-bytes
invariant-loop-bytes l =
    placed l.number l.line ++ words_from l.below.number (lines_of l.below) ≡ words_of l.self

abbrev pub decreases-loop-bytes : goal.decreases-loop-bytes
decreases-loop-bytes l = length l.below.text.now
