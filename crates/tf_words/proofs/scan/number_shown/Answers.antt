use Rattle.std.proofs.Common.{sym}
use Rattle.tf_words.specs.Number.{signed}
use Rattle.tf_words.proofs.Limited.{range_of}
use Rattle.tf_words.proofs.scan.number_shown.Goals as goal

pub returns-in-Digits-clause-range : goal.returns-in-Digits-clause-range
returns-in-Digits-clause-range c =
    range_of (signed c.in-Digits.negative c.in-Digits.size) c.number_sized.result (sym c.number_sized.ensures)
