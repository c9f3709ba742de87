use Rattle.std.proofs.Common.{sym}
use Rattle.tf_words.proofs.Scanned.{gap_byte_read, ends_word}
use Rattle.tf_words.proofs.scan.Scan.push.Goals as goal

pub returns-in-Empty-clause-fed : goal.returns-in-Empty-clause-fed
returns-in-Empty-clause-fed c =
    λ first fed seen at. rw c.line_after-self.ensures
    (gap_byte_read first fed seen _ _ _ (sym c.if-not-is_white.ensures) c.in-Empty.is at)

pub returns-in_default-clause-fed : goal.returns-in_default-clause-fed
returns-in_default-clause-fed c =
    λ first fed seen at. rw (c.number_shown.ensures.value, c.line_after-self.ensures)
    (ends_word first fed seen _ _ _ (sym c.if-not-is_white.ensures) c.in_default.not-Empty at)
