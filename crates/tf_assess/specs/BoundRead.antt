-- What a part of a run gives that reads the text of a bound.
use Rattle.std.specs.Prelude.{◌≡◌, ℕ, true, List, Result, Ok, Err, MatchResult}
use Rattle.tf_text.specs.Counted.{DeviceUse}
use Rattle.tf_text.specs.Input.{IsTextOf}
use Rattle.tf_bound_text.specs.BoundSheetData.{BoundSheetData}
use Rattle.tf_bound_text.specs.BoundReading.{bound_in}
use Rattle.tf_bound_text.specs.declared.fault.BoundTextFault.{BoundTextFault}
use Rattle.tf_bound_text.specs.declared.fault.BoundTextFault.TheVariants as texts
use Rattle.tf_assess.specs.declared.bound_read.BoundReadFault.{BoundReadFault}
use Rattle.tf_assess.specs.declared.bound_read.BoundReadFault.TheVariants.{Text, Device, OutOfMemory}

-- want of memory stands by itself
abbrev pub of_text : BoundTextFault → BoundReadFault
of_text texts.OutOfMemory = OutOfMemory
of_text fault = Text fault

-- why there is no sheet: the fault of the text, the reader failed, or memory was wanting
abbrev pub IsUnread : DeviceUse → List ℕ → BoundReadFault → Type 0
IsUnread reader text (Text fault) = bound_in text ≡ Err fault
IsUnread reader text Device = reader.failed ≡ true
IsUnread reader text OutOfMemory = Unit {0}

-- It gives the sheet that the text says, which is all bytes of the reader up to its end where they
-- are known, or the one fault.
pub record ReadsBound (reader : DeviceUse) (result : Result BoundSheetData BoundReadFault) : Type 0
  where
    pub text : List ℕ
    pub is_all : IsTextOf reader.before text
    pub given : MatchResult result (λ sheet. bound_in text ≡ Ok sheet) (IsUnread reader text)
