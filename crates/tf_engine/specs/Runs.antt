-- What a run leaves behind.
use Rattle.std.specs.Prelude.{ℕ, ◌≡◌, ◌⊎◌, true, List, Result, MatchResult}
use Rattle.std.specs.Io.KnownBytes.{Appends, Keeps}
use Rattle.tf_text.specs.Counted.{AppendsPrefix, DeviceUse}
use Rattle.tf_engine.specs.declared.fault.RunFault.{RunFault}
use Rattle.tf_engine.specs.Faults.{Refused, Stop, Refuses, Fails, Wants, stop_of}

-- A refusal is one that may be given. Nothing was written after a refusal, where memory was wanting
-- or where a reader failed; where the writer failed a prefix of what may be written was.
abbrev pub Leaves : (List ℕ → Type 0) → (Refused → Type 0) → Type 0 → DeviceUse → Stop → Type 0
Leaves Says IsRefused reader_failed writer (Refuses refused) =
    IsRefused refused × Keeps writer.before writer.after
Leaves Says IsRefused reader_failed writer Fails =
    (reader_failed × Keeps writer.before writer.after)
    ⊎ ((writer.failed ≡ true)
    × ((out : List ℕ) × Says out × AppendsPrefix writer.before writer.after out))
Leaves Says IsRefused reader_failed writer Wants = Keeps writer.before writer.after

-- What a run is: which texts its readers hold, what it returns and writes for them, why they are
-- refused, and when a reader failed.
pub record Run (T X : Type 0) : Type 1 where
  pub Over : T → Type 0
  pub Says : T → X → List ℕ → Type 0
  pub IsRefused : T → Refused → Type 0
  pub ReaderFailed : T → Type 0

-- A run writes all that it has to, or gives the one refusal. Where memory was wanting it does
-- neither. The outcome is that of texts which are all bytes of the readers up to their ends, where
-- these are known.
pub record IsOutcome {A T X : Type 0} (run : Run T X) (writer : DeviceUse)
    (result : Result X (RunFault A)) : Type 0 where
  pub texts : T
  pub are_all : run.Over texts
  pub outcome : MatchResult result
      (λ x. (out : List ℕ) × run.Says texts x out × Appends writer.before writer.after out)
      (λ e. Leaves (λ out. (x : X) × run.Says texts x out) (run.IsRefused texts)
      (run.ReaderFailed texts) writer (stop_of e))
