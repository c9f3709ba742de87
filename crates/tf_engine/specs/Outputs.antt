-- How a run ends: by writing what was made of its texts, or by what stopped it before.
use Rattle.std.specs.Prelude.{ℕ, ◌≡◌, ◌⊎◌, true, false, List, Option, Result, Ok, Err, MatchResult, IfOk, IfErr}
use Rattle.std.specs.Io.KnownBytes.{Appends}
use Rattle.tf_text.specs.declared.counted.Counted.{Counted}
use Rattle.tf_text.specs.Counted.{AppendsPrefix, has_failed, inner_of}
use Rattle.tf_engine.specs.declared.fault.RunFault.{RunFault}
use Rattle.tf_engine.specs.declared.fault.RunFault.TheVariants.{Device, OutOfMemory}
use Rattle.tf_engine.specs.declared.output.Output.{Output}
use Rattle.tf_engine.specs.Faults.{Stop, stop_of, end_of}
use Rattle.tf_engine.specs.Parts.{StopsReading}
use Rattle.tf_engine.specs.Runs.{Run}

-- A part of a run that reads its texts and writes nothing: what it gives for them, or why the run
-- stops.
pub record Makes {A T X M : Type 0} (run : Run T X) (Gives : T → M → Type 0)
    (Readers : Option Stop → Type 0) (result : Result M (RunFault A)) : Type 0 where
  pub texts : T
  pub are_all : run.Over texts
  pub given : MatchResult result (Gives texts)
      (λ e. StopsReading (run.IsRefused texts) (run.ReaderFailed texts) (stop_of e))
  pub readers : Readers (end_of result)

-- the same, where it gives what the run writes and returns
abbrev pub MakesOutput : {A T X : Type 0} → Run T X → (Option Stop → Type 0)
    → Result (Output X A) (RunFault A) → Type 0
MakesOutput run = Makes run (λ texts output. run.Says texts output.returned output.text.items)

-- all of the text was written
pub record IsWritten {A V X : Type 0} (contents : V → Option (List ℕ)) (old new : Counted V)
    (text : List ℕ) (returned : X) (result : Result X (RunFault A)) : Type 0 where
  pub is : result ≡ Ok returned
  pub appended : Appends (contents (inner_of old)) (contents (inner_of new)) text
  pub unfailed : has_failed new ≡ false

-- a prefix of it was, and the writer failed
pub record IsCutOff {A V X : Type 0} (contents : V → Option (List ℕ)) (old new : Counted V)
    (text : List ℕ) (result : Result X (RunFault A)) : Type 0 where
  pub is : result ≡ Err Device
  pub prefix : AppendsPrefix (contents (inner_of old)) (contents (inner_of new)) text
  pub failed : has_failed new ≡ true

-- a text is written, or the writer fails, or nothing is written for want of memory
abbrev pub Writes : {A V X : Type 0} → (V → Option (List ℕ)) → Counted V → Counted V → List ℕ → X
    → Result X (RunFault A) → Type 0
Writes contents old new text returned result =
    IsWritten contents old new text returned result
    ⊎ IsCutOff contents old new text result
    ⊎ ((result ≡ Err OutOfMemory) × (new ≡ old))

-- what was made is written, and nothing where nothing was made
pub record Ends {A V X M : Type 0} (returned : M → X) (text : M → List ℕ)
    (contents : V → Option (List ℕ)) (old new : Counted V) (made : Result M (RunFault A))
    (result : Result X (RunFault A)) : Type 0 where
  pub written : IfOk made (λ m. Writes contents old new (text m) (returned m) result)
  pub unmade : IfErr made (λ e. (result ≡ Err e) × (new ≡ old))

-- the same of an output
abbrev pub EndsOutput : {A V X : Type 0} → (V → Option (List ℕ)) → Counted V → Counted V
    → Result (Output X A) (RunFault A) → Result X (RunFault A) → Type 0
EndsOutput = Ends (λ output. output.returned) (λ output. output.text.items)
