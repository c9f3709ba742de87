-- What is written of the lower bound that a cost is held against.
use Rattle.std.specs.Prelude.{◌+◌, List, ℕ, [], ◌∷◌, ◌++◌, codes, Option, None, Some}
use Rattle.std.specs.Fmt.{decimal, signed_decimal}
use Rattle.tf_bound.specs.declared.fault.BoundFault.{BoundFault}
use Rattle.tf_bound.specs.declared.fault.BoundFault.TheVariants as faults
use Rattle.tf_search.specs.declared.strongest.Found.{Found}
use Rattle.tf_evaluate.specs.EvaluationText.{ReferenceLines, number_lines, gap_lines}
use Rattle.tf_bounding.specs.BoundText.{certificate_lines}
use Rattle.tf_assess.specs.declared.offered.Offered.{Offered}
use Rattle.tf_assess.specs.declared.offered.Offered.TheVariants.{Bounds, OtherTask, WrongValue, Faulty}
use Rattle.tf_assess.specs.declared.offered.Weighed.{Weighed}
use Rattle.tf_assess.specs.Assessing.{best_in}

-- why a certificate bounds nothing, by its name and its arguments; machines count from 1
abbrev pub certificate_fault_words : BoundFault → List (List ℕ)
certificate_fault_words faults.OtherKind = codes "OtherKind" ∷ []
certificate_fault_words faults.NoDenominator = codes "NoDenominator" ∷ []
certificate_fault_words (faults.BadMachine machine) =
    codes "BadMachine" ∷ decimal (machine + 1) ∷ []
certificate_fault_words (faults.BadJob job) = codes "BadJob" ∷ decimal job ∷ []
certificate_fault_words (faults.Repeated job) = codes "Repeated" ∷ decimal job ∷ []
certificate_fault_words faults.TooFew = codes "TooFew" ∷ []
certificate_fault_words faults.Numerators = codes "Numerators" ∷ []
certificate_fault_words (faults.Condition job) = codes "Condition" ∷ decimal job ∷ []
certificate_fault_words faults.MachineOrder = codes "MachineOrder" ∷ []
certificate_fault_words faults.BadDelta = codes "BadDelta" ∷ []
certificate_fault_words faults.HasRoom = codes "HasRoom" ∷ []
certificate_fault_words faults.TooLarge = codes "TooLarge" ∷ []
certificate_fault_words faults.OutOfMemory = codes "OutOfMemory" ∷ []

-- what an offered bound comes to: its value, or why it is none
abbrev pub offered_words : Offered → List (List ℕ)
offered_words (Bounds value) = signed_decimal value ∷ []
offered_words OtherTask = codes "OtherTask" ∷ []
offered_words (WrongValue value) = codes "WrongValue" ∷ signed_decimal value ∷ []
offered_words (Faulty fault) = certificate_fault_words fault

abbrev pub offered_lines : Option Offered → List (List (List ℕ))
offered_lines None = []
offered_lines (Some offered) = (codes "offered" ∷ offered_words offered) ∷ []

-- the bound and its certificate
abbrev pub bound_lines : {A : Type 0} → Found A → List (List (List ℕ))
bound_lines found =
    (codes "bound" ∷ signed_decimal found.value ∷ []) ∷ certificate_lines found.certificate

-- the least cost where a cost shows it, by how much that is above the bound, what was offered, and the
-- bound
abbrev pub weighed_lines : {A : Type 0} → ReferenceLines (Weighed A)
weighed_lines w value =
    number_lines (codes "best") (best_in value w.bound.value)
    ++ (gap_lines value w.bound.value ++ (offered_lines w.offered ++ bound_lines w.bound))
