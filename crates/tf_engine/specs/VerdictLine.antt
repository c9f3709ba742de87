-- The line of a verdict.
use Rattle.std.specs.Prelude.{ℕ, List, [], ◌∷◌, ◌++◌, codes}
use Rattle.std.specs.List.{join_with_byte}
use Rattle.std.specs.Fmt.{decimal, signed_decimal}
use Rattle.tf_schedule.specs.declared.schedule.PieceFault.{PieceFault}
use Rattle.tf_schedule.specs.declared.schedule.PieceFault.TheVariants.{OutOfRange, EmptyPiece, MachineTwice}
use Rattle.tf_schedule.specs.declared.fit.Misfit.{Misfit}
use Rattle.tf_schedule.specs.declared.fit.Misfit.TheVariants as misfits
use Rattle.tf_check.specs.declared.fault.BoundFault.{BoundFault}
use Rattle.tf_check.specs.declared.fault.BoundFault.TheVariants as bounds
use Rattle.tf_check.specs.declared.verdict.Reason.{Reason}
use Rattle.tf_check.specs.declared.verdict.Reason.TheVariants as reasons
use Rattle.tf_engine.specs.declared.run_check.Checked.{Checked}
use Rattle.tf_engine.specs.declared.run_check.Checked.TheVariants.{Accepted, OtherTask, Rejected}

-- each fault by its name and its arguments
abbrev pub piece_fault_words : PieceFault → List (List ℕ)
piece_fault_words (OutOfRange piece) = codes "OutOfRange" ∷ decimal piece ∷ []
piece_fault_words (EmptyPiece piece) = codes "EmptyPiece" ∷ decimal piece ∷ []
piece_fault_words (MachineTwice machine time) =
    codes "MachineTwice" ∷ decimal machine ∷ signed_decimal time ∷ []

abbrev pub misfit_words : Misfit → List (List ℕ)
misfit_words (misfits.Stranger job machine) = codes "Stranger" ∷ decimal job ∷ decimal machine ∷ []
misfit_words (misfits.JobTwice job time) = codes "JobTwice" ∷ decimal job ∷ signed_decimal time ∷ []
misfit_words (misfits.WrongAmount job) = codes "WrongAmount" ∷ decimal job ∷ []
misfit_words (misfits.Broken job) = codes "Broken" ∷ decimal job ∷ []
misfit_words (misfits.TooEarly job) = codes "TooEarly" ∷ decimal job ∷ []
misfit_words (misfits.OutOfOrder before after) =
    codes "OutOfOrder" ∷ decimal before ∷ decimal after ∷ []
misfit_words misfits.OutOfMemory = codes "OutOfMemory" ∷ []

abbrev pub bound_fault_words : BoundFault → List (List ℕ)
bound_fault_words bounds.OtherKind = codes "OtherKind" ∷ []
bound_fault_words (bounds.BadMachine machine) = codes "BadMachine" ∷ decimal machine ∷ []
bound_fault_words (bounds.BadJob job) = codes "BadJob" ∷ decimal job ∷ []
bound_fault_words (bounds.Repeated job) = codes "Repeated" ∷ decimal job ∷ []
bound_fault_words bounds.EmptySet = codes "EmptySet" ∷ []
bound_fault_words (bounds.Condition job) = codes "Condition" ∷ decimal job ∷ []
bound_fault_words bounds.BadDelta = codes "BadDelta" ∷ []
bound_fault_words bounds.OutOfMemory = codes "OutOfMemory" ∷ []

abbrev pub reason_words : Reason → List (List ℕ)
reason_words (reasons.Pieces fault) = piece_fault_words fault
reason_words (reasons.Misfit misfit) = misfit_words misfit
reason_words reasons.WrongValue = codes "WrongValue" ∷ []
reason_words (reasons.Bound fault) = bound_fault_words fault
reason_words reasons.BoundBelowValue = codes "BoundBelowValue" ∷ []

-- `accepted`, or `rejected: ` and the reason
abbrev pub verdict_line : Checked → List ℕ
verdict_line Accepted = codes "accepted\n"
verdict_line OtherTask = codes "rejected: OtherTask\n"
verdict_line (Rejected reason) =
    codes "rejected: " ++ join_with_byte 32 (reason_words reason) ++ codes "\n"
