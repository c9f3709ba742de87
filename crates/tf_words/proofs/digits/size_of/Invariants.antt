use Rattle.std.proofs.Common.{◌≡◌, take}
use Rattle.std.specs.Str.Parse.{digits_value}
use Rattle.tf_words.specs.Digits.{cut}
use Rattle.tf_words.proofs.digits.size_of.Given as goal

abbrev pub invariant-loop-byte : goal.invariant-loop-byte
invariant-loop-byte l = l.size ≡ cut (digits_value 10 (take l.byte-index l.digits))
