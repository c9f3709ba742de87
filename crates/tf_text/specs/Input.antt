-- Whole texts from a reader.
use Rattle.std.specs.Prelude.{◌≡◌, ℕ, ◌+◌, ◌<◌, ◌≤◌, ◌⊎◌, Bool, true, false, List, length, Option, Result, IfSome, OnOk}
use Rattle.std.specs.Io.KnownBytes.{Consumes, IsAtEnd}
use Rattle.tf_model.specs.Limit.{most_bytes}
use Rattle.tf_text.specs.declared.input.InputFault.{InputFault}
use Rattle.tf_text.specs.declared.input.InputFault.TheVariants.{Device, TooLong, OutOfMemory}

-- the text is all the bytes that the reader gives up to its end, where they are known
abbrev pub IsTextOf : Option (List ℕ) → List ℕ → Type 0
IsTextOf known text = IfSome known (λ all. text ≡ all)

-- the fault is that the device failed
abbrev pub is_device : InputFault → Bool
is_device Device = true
is_device TooLong = false
is_device OutOfMemory = false

-- The reader gave these bytes, and they were taken. Where it did not fail they are all up to its
-- end, or too many.
pub record Drains {S E : Type 0} (Takes : S → List ℕ → S → Type 0) (old new : Option (List ℕ))
    (before after : S) (result : Result (Unit {0}) E) : Type 0 where
  pub bytes : List ℕ
  pub at_most : length bytes ≤ most_bytes + 1
  pub given : Consumes old new bytes
  pub taken : Takes before bytes after
  pub ended : OnOk result (IsAtEnd new ⊎ (most_bytes < length bytes))
