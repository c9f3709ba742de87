-- Runs that gave no answer.
use Rattle.std.proofs.Common.{◌≡◌, ℕ, zero, suc, ◌+◌, ◌<◌, List, [], ◌∷◌, Option, None, Some, Ok, Err, IfSome, IsErrAnd, Result, length, refl, sym, ap, subst, inl, Bool, arith}
use Rattle.std.proofs.lemmas.Bool.{lt-ltb}
use Rattle.std.proofs.KnownBytes.{Keeps-refl}
use Rattle.tf_model.specs.Limit.{most_bytes}
use Rattle.tf_model.specs.Outcome.{◌>>=◌}
use Rattle.tf_read.specs.declared.fault.ReadFault.TheVariants.{TooLong}
use Rattle.tf_read.specs.JobTable.{job_table}
use Rattle.tf_read.proofs.Wt as wt
use Rattle.tf_read.proofs.FlowReading as flow
use Rattle.tf_text.specs.Counted.{unused}
use Rattle.tf_text.specs.Input.{IsTextOf}
use Rattle.tf_engine.specs.FormData.{FormData, InTable, InWt, InFlow}
use Rattle.tf_engine.specs.RequestData.{RequestData}
use Rattle.tf_engine.specs.Faults.{Refused, Stop, Refuses, Fails, Wants}
use Rattle.tf_engine.specs.Refusal.{problem_for, instance_in, task_in, task_for}
use Rattle.tf_engine.specs.Parts.{StopsReading}
use Rattle.tf_engine.specs.Runs.{Leaves}
pub use Rattle.tf_engine.proofs.AcceptedAgain.{meant_by}

-- a list of any length
list_of : (n : ℕ) → (text : List ℕ) × (length text ≡ n)
list_of zero = ([], refl)
list_of (suc n) = let (rest, e) = list_of n in (0 ∷ rest, omega (arith, e))

-- a text that is all that is known
pub text_for : (known : Option (List ℕ)) → (text : List ℕ) × IsTextOf known text
text_for None = ([], tt)
text_for (Some all) = (all, refl)

-- the same, longer than n
pub long_text_for : (known : Option (List ℕ)) (n : ℕ) → IfSome known (λ all. n < length all)
    → (text : List ℕ) × IsTextOf known text × (n < length text)
long_text_for None n h = let (text, e) = list_of (n + 1) in (text, tt, omega (arith, e))
long_text_for (Some all) n h = (all, refl, h)

-- a problem that is refused is refused whatever the text
pub refused_task : (request : RequestData) (text : List ℕ) (refused : Refused)
    → problem_for request.problem ≡ Err refused → task_for request text ≡ Err refused
refused_task request text refused h = ap (λ r. r >>= λ problem. task_in request problem text) h

-- a text that is too long is refused as such in every form
pub too_long : (form : FormData) (text : List ℕ) → most_bytes < length text
    → instance_in form text ≡ Err TooLong
unfolding job_table
too_long InTable text h = rw (lt-ltb most_bytes (length text) h) refl
too_long (InWt jobs index) text h = wt.too_long jobs index text h
too_long (InFlow name pair) text h = flow.too_long name pair text h

-- what holds of a fault holds of what `?` makes of it
pub err_is : {X E : Type 0} (P : Result X E → Type 0) (f : E) (r : Result X E)
    → IsErrAnd r (λ e. e ≡ f) → P (Err f) → P r
err_is P f (Ok x) h p = absurd h
err_is P f (Err e) h p = subst (λ e. P (Err e)) (sym h) p

-- a part that reads alone stops the run as it stopped
pub reading_stops : (Says : List ℕ → Type 0) (P Q : Refused → Type 0) (F R : Type 0)
    (held : Option (List ℕ)) (writer : Bool)
    → ((refused : Refused) → P refused → Q refused) → (F → R)
    → (s : Stop) → StopsReading P F s → Leaves Says Q R (unused held writer) s
reading_stops Says P Q F R held writer more failed (Refuses refused) h =
    (more refused h, Keeps-refl held)
reading_stops Says P Q F R held writer more failed Fails h = inl (failed h, Keeps-refl held)
reading_stops Says P Q F R held writer more failed Wants h = Keeps-refl held
