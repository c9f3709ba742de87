-- Reading with the first fault that is met.
use Rattle.std.specs.Prelude.{ℕ, ◌+◌, List, [], ◌∷◌, Option, None, Some, Result, Ok, Err, ℤ, pos, negsuc, slice_index_or}
use Rattle.tf_model.specs.Outcome
use Rattle.tf_model.specs.Outcome.{◌>>=◌}
use Rattle.tf_words.specs.declared.number.Number.{Number}
use Rattle.tf_words.specs.declared.number.Number.TheVariants.{NotANumber, TooLarge, Value}
use Rattle.tf_read.specs.declared.fault.ReadFault.{ReadFault}
use Rattle.tf_read.specs.declared.fault.ReadFault.TheVariants.{BadNumber, NumberTooLarge, Negative, OutOfMemory}

-- each error but want of memory is a fault of the text
abbrev pub fault_in : ReadFault → Option ReadFault
fault_in OutOfMemory = None
fault_in e = Some e

abbrev pub Fails : {Y : Type 0} → ReadFault → Result Y ReadFault → Type 0
Fails e = Outcome.IsFault (fault_in e)

abbrev pub Gives : {X Y : Type 0} → (X → Y) → Result X ReadFault → Result Y ReadFault → Type 0
Gives = Outcome.Gives fault_in

-- what is read of each, of which the first is the k-th, or the first fault
unfoldable pub each_from : {X Y : Type 0} → (ℕ → X → Result Y ReadFault) → ℕ → List X
    → Result (List Y) ReadFault
each_from read k [] = Ok []
each_from read k (x ∷ xs) = do
  first ← read k x
  others ← each_from read (k + 1) xs
  Ok (first ∷ others)

-- a number that may not be negative, in this line
abbrev pub natural : ℕ → Number → Result ℤ ReadFault
natural line NotANumber = Err (BadNumber line)
natural line TooLarge = Err (NumberTooLarge line)
natural line (Value (negsuc n)) = Err (Negative line)
natural line (Value (pos n)) = Ok (pos n)

-- a number that may be negative
abbrev pub integer : ℕ → Number → Result ℤ ReadFault
integer line NotANumber = Err (BadNumber line)
integer line TooLarge = Err (NumberTooLarge line)
integer line (Value z) = Ok z

-- of the numbers that were read the one at a place, from 0
abbrev pub number_at : List ℤ → ℕ → ℤ
number_at numbers i = slice_index_or numbers i (pos 0)
