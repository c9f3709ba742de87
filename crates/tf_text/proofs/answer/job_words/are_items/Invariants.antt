use Rattle.std.proofs.Common.{◌≡◌, length}
use Rattle.std.specs.List.{list_all}
use Rattle.tf_words.specs.Words.{words}
use Rattle.tf_text.specs.AnswerReading.{is_item}
use Rattle.tf_text.proofs.answer.job_words.are_items.Given as goal

-- the words so far are items
abbrev pub invariant-loop-word : goal.invariant-loop-word
invariant-loop-word l =
    list_all (is_item l.layout) (words l.rest) ≡ list_all (is_item l.layout) (words l.text)

abbrev pub decreases-loop-word : goal.decreases-loop-word
decreases-loop-word l = length l.rest
