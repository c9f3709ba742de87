-- What a run promises of its readers and its writer, in one record. `end` is how the run ended.
use Rattle.std.specs.Prelude.{ℕ, ◌≡◌, ◌+◌, ◌≤◌, ◌⊎◌, true, false, List, Option, None, Some, IfSome, Result, IsOk, IfErr}
use Rattle.std.specs.Io.KnownBytes.{IsAtEnd}
use Rattle.tf_model.specs.Limit.{most_bytes}
use Rattle.tf_text.specs.declared.counted.Counted.{Counted}
use Rattle.tf_text.specs.Counted.{inner_of, pulled_of, has_failed, ConsumesAtMost}
use Rattle.tf_model.specs.declared.problem.Problem.{Problem}
use Rattle.tf_engine.specs.Faults.{Refused, Stop, Refuses, Wants, is_failure, is_refusal, is_past_answer, is_past_text, is_on_answer, is_on_instance, ends_by, answers_or}

-- A reader of an answer text that comes first. Nothing that is answered later hides that it failed,
-- and a refusal that needs the whole text comes at its end.
pub record LeavesReader {T : Type 0} (remaining : T → Option (List ℕ)) (old new : Counted T)
    (end : Option Stop) : Type 0 where
  pub unfailed : ends_by is_failure end ≡ false → has_failed new ≡ false
  pub ended : answers_or is_past_answer end ≡ true → IsAtEnd (remaining (inner_of new))
  pub pulled : ConsumesAtMost (most_bytes + 1) (remaining (inner_of old))
      (remaining (inner_of new))
  pub counted : pulled_of new ≤ pulled_of old + (most_bytes + 1)

-- A reader of an instance text, where `asked` is what the problem line gives. Nothing is read before
-- that is accepted, and nothing that is answered later hides that the reader failed.
pub record LeavesInstance {T : Type 0} (asked : Result Problem Refused)
    (remaining : T → Option (List ℕ)) (old new : Counted T) (end : Option Stop) : Type 0 where
  pub unread : IfErr asked (λ refused. (end ≡ Some (Refuses refused)) × (new ≡ old))
  pub unfailed : IsOk asked → answers_or is_refusal end ≡ true → has_failed new ≡ false
  -- memory was wanting before the reader was called, or the reader did not fail
  pub wanting : end ≡ Some Wants → (new ≡ old) ⊎ (has_failed new ≡ false)
  pub ended : IsOk asked → answers_or is_past_text end ≡ true → IsAtEnd (remaining (inner_of new))
  pub pulled : ConsumesAtMost (most_bytes + 1) (remaining (inner_of old))
      (remaining (inner_of new))
  pub counted : pulled_of new ≤ pulled_of old + (most_bytes + 1)

-- A reader of an answer text that comes behind an instance: it is left as it was, where the run ends
-- before, or it is read.
abbrev pub LeavesAnswer : {T : Type 0} → (T → Option (List ℕ)) → Counted T → Counted T → Option Stop
    → Type 0
LeavesAnswer remaining old new end =
    ((new ≡ old) × (answers_or is_on_answer end ≡ false))
    ⊎ ((ends_by is_on_instance end ≡ false) × LeavesReader remaining old new end)

-- the readers of an instance and of an answer
pub record LeavesBoth {T U : Type 0} (asked : Result Problem Refused)
    (remaining : T → Option (List ℕ)) (old new : Counted T) (giving : U → Option (List ℕ))
    (before after : Counted U) (end : Option Stop) : Type 0 where
  pub instance : LeavesInstance asked remaining old new end
  pub answer : LeavesAnswer giving before after end

-- All that a run promises of its devices: what `Readers` says of its readers, and that its writer is
-- written to last, once every reader is read: never where one failed, nor where the run is refused or
-- memory is wanting.
pub record LeavesAll {V : Type 0} (Readers : Option Stop → Type 0) (ReaderFailed : Type 0)
    (held written : Counted V) (end : Option Stop) : Type 0 where
  pub readers : Readers end
  pub unfailed : end ≡ None → has_failed written ≡ false
  pub unwritten : IfSome end (λ s. is_failure s ≡ false → written ≡ held)
  pub untouched : ReaderFailed → written ≡ held

-- a run over an answer text
abbrev pub LeavesDrawing : {T V : Type 0} → (T → Option (List ℕ)) → Counted T → Counted T → Counted V
    → Counted V → Option Stop → Type 0
LeavesDrawing remaining old new =
    LeavesAll (LeavesReader remaining old new) (has_failed new ≡ true)

-- a run over an instance
abbrev pub LeavesRun : {T V : Type 0} → Result Problem Refused → (T → Option (List ℕ)) → Counted T
    → Counted T → Counted V → Counted V → Option Stop → Type 0
LeavesRun asked remaining old new =
    LeavesAll (LeavesInstance asked remaining old new) (has_failed new ≡ true)

-- a run over an instance and an answer
abbrev pub LeavesCase : {T U V : Type 0} → Result Problem Refused → (T → Option (List ℕ))
    → Counted T → Counted T → (U → Option (List ℕ)) → Counted U → Counted U → Counted V → Counted V
    → Option Stop → Type 0
LeavesCase asked remaining old new giving before after =
    LeavesAll (LeavesBoth asked remaining old new giving before after)
    ((has_failed new ≡ true) ⊎ (has_failed after ≡ true))
