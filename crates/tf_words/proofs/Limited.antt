-- Numbers within the limit.
use Rattle.std.proofs.Common.{◌≡◌, ℕ, ◌<◌, ◌≤◌, ℤ, pos, neg_ℤ, ◌≤ℤ◌, List, Option, Some, None, arith}
use Rattle.std.proofs.lemmas.Int.{ints}
use Rattle.tf_words.specs.Digits.{numeral}
use Rattle.tf_words.specs.Ranged.{judged, placed}
use Rattle.tf_words.specs.Number.{number, limit, within_limit}
use Rattle.tf_words.specs.Scan.{IsInRange}
use Rattle.tf_words.specs.declared.number.Number.{Number}
use Rattle.tf_words.specs.declared.number.Number.TheVariants.{NotANumber, TooLarge, Value}

pub in_limit : (v : ℕ) → v ≤ limit
    → within_limit (judged (neg_ℤ (pos limit)) (pos limit) (pos v)) ≡ Value (pos v)
in_limit v le = grind (arith, ints)

pub above_limit : (v : ℕ) → limit < v
    → within_limit (judged (neg_ℤ (pos limit)) (pos limit) (pos v)) ≡ TooLarge
above_limit v lt = grind (arith, ints)

-- a number that is given lies in the range
judged_within : (least most y z : ℤ) → within_limit (judged least most y) ≡ Value z
    → (least ≤ℤ z) × (z ≤ℤ most)
judged_within least most y z h = grind (arith, ints)

placed_within : (o : Option ℤ) (z : ℤ)
    → within_limit (placed (neg_ℤ (pos limit)) (pos limit) o) ≡ Value z
    → (neg_ℤ (pos limit) ≤ℤ z) × (z ≤ℤ pos limit)
placed_within None z h = cc
placed_within (Some y) z h = judged_within (neg_ℤ (pos limit)) (pos limit) y z h

pub number_within : (word : List ℕ) (z : ℤ) → number word ≡ Value z
    → (neg_ℤ (pos limit) ≤ℤ z) × (z ≤ℤ pos limit)
unfolding number
number_within word z h = placed_within (numeral word) z h

-- whatever a number is as seen from the limits, it is in range
pub range_of : (y : ℤ) (n : Number) → within_limit (judged (neg_ℤ (pos limit)) (pos limit) y) ≡ n
    → IsInRange n
range_of y NotANumber h = tt
range_of y TooLarge h = tt
range_of y (Value z) h = judged_within (neg_ℤ (pos limit)) (pos limit) y z h
