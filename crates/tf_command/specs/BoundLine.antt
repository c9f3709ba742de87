-- The line that the program writes on standard error where the text of a bound is not read.
use Rattle.std.specs.Prelude.{ℕ, List, [], ◌∷◌, ◌++◌, codes}
use Rattle.std.specs.Fmt.{decimal}
use Rattle.tf_text.specs.AnswerText.{line_text}
use Rattle.tf_bound_text.specs.declared.fault.BoundTextFault.{BoundTextFault}
use Rattle.tf_bound_text.specs.declared.fault.BoundTextFault.TheVariants as texts
use Rattle.tf_assess.specs.declared.bound_read.BoundReadFault.{BoundReadFault}
use Rattle.tf_assess.specs.declared.bound_read.BoundReadFault.TheVariants.{Text, Device, OutOfMemory}

-- each fault by its name and its arguments
abbrev pub bound_fault_words : BoundTextFault → List (List ℕ)
bound_fault_words texts.TooLong = codes "TooLong" ∷ []
bound_fault_words (texts.BadLine line) = codes "BadLine" ∷ decimal line ∷ []
bound_fault_words (texts.OutOfRange line) = codes "OutOfRange" ∷ decimal line ∷ []
bound_fault_words texts.BadNotation = codes "BadNotation" ∷ []
bound_fault_words texts.EndsEarly = codes "EndsEarly" ∷ []
bound_fault_words texts.OutOfMemory = codes "OutOfMemory" ∷ []

abbrev pub bound_fault_line : BoundReadFault → List ℕ
bound_fault_line (Text fault) =
    codes "threefield: refused: bound " ++ line_text (bound_fault_words fault)
bound_fault_line OutOfMemory = codes "threefield: want of memory\n"
bound_fault_line Device = codes "threefield: device fault\n"

-- refused, want of memory, or a device fault
abbrev pub status_of_bound : BoundReadFault → ℕ
status_of_bound (Text fault) = 2
status_of_bound OutOfMemory = 3
status_of_bound Device = 4
