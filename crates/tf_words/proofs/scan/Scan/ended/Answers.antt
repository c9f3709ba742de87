use Rattle.tf_words.proofs.Scanned.{nothing_more, last_word}
use Rattle.tf_words.proofs.scan.Scan.ended.Goals as goal

pub returns-in-Empty-clause-word : goal.returns-in-Empty-clause-word
returns-in-Empty-clause-word c =
    λ first fed seen at. nothing_more first fed seen _ _ c.in-Empty.is at

pub returns-in_default-clause-word : goal.returns-in_default-clause-word
returns-in_default-clause-word c =
    λ first fed seen at. rw c.number_shown.ensures.value
    (last_word first fed seen _ _ c.in_default.not-Empty at)
