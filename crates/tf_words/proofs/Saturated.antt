-- A number that is beyond every range of 64 bits may be cut off there.
use Rattle.std.proofs.Common.{◌≡◌, ℕ, ℤ, Bool, true, false, w64, arith}
use Rattle.std.proofs.lemmas.Int.{ints}
use mir.Val.{SFits}
use Rattle.tf_words.specs.Digits.{signed, cut}
use Rattle.tf_words.specs.Ranged.{judged}

pub saturated : (negative : Bool) (v : ℕ) (least most : ℤ) → SFits w64 least → SFits w64 most
    → judged least most (signed negative (cut v)) ≡ judged least most (signed negative v)
saturated true v least most low high = grind (arith, ints)
saturated false v least most low high = grind (arith, ints)
