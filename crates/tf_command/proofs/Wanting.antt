-- A run that there was no memory for.
use Rattle.std.proofs.Common.{◌≡◌, ℕ, List, Bool, Option, Result, Err, codes}
use Rattle.std.proofs.KnownBytes.{Keeps-refl}
use Rattle.tf_text.specs.Counted.{unused}
use Rattle.tf_text.specs.Input.{IsTextOf}
use Rattle.tf_text.specs.declared.counted.Counted.{Counted}
use Rattle.tf_engine.specs.Runs.{IsOutcome, Run}
use Rattle.tf_engine.specs.declared.fault.RunFault.{RunFault}
use Rattle.tf_engine.specs.declared.fault.RunFault.TheVariants.{OutOfMemory}
use Rattle.tf_engine.proofs.Unread.{text_for}
use Rattle.tf_command.specs.Ending.{Ends, SaysLine}
use Rattle.tf_command.specs.Wrote.{Wrote}
use Rattle.tf_command.proofs.Saying.{says_alone}

-- it did nothing with its texts, whatever they are
pub idle : {A T X : Type 0} (run : Run T X) (held : Option (List ℕ)) (failed : Bool)
    → (t : T) × run.Over t → IsOutcome {A = A} run (unused held failed) (Err OutOfMemory)
idle run held failed (texts, are_all) =
    record { texts = texts; are_all = are_all; outcome = Keeps-refl held }

-- texts of two readers
pub texts_for : (known other : Option (List ℕ))
    → (t : List ℕ × List ℕ) × (IsTextOf known t.0 × IsTextOf other t.1)
texts_for known other =
    let (text, is) = text_for known in
    let (second, is_second) = text_for other in
    ((text, second), (is, is_second))

-- which is said
pub wants : {X A E : Type 0} {IsAsked : Result X (RunFault A) → Type 0} {exit_status : X → ℕ}
    {contents : E → Option (List ℕ)} {explain : Bool} {old new : Counted E} {status : ℕ}
    → IsAsked (Err OutOfMemory) → status ≡ 3
    → Wrote contents old new (codes "threefield: want of memory\n")
    → Ends IsAsked exit_status (SaysLine contents explain old new) status
wants asked ends line =
    record { run = Err OutOfMemory; outcome = asked; ends = ends; said = says_alone line }
