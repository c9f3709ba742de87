-- What a run that went on, or stopped, does to its readers and its writer.
use Rattle.std.proofs.Common.{◌≡◌, ℕ, true, false, List, Option, None, Some, Result, Ok, Err, IsOk, IfErr, refl, sym, ◌∙◌, ◌⊎◌, inl, inr}
use Rattle.tf_model.specs.declared.problem.Problem.{Problem}
use Rattle.tf_text.specs.declared.counted.Counted.{Counted}
use Rattle.tf_text.specs.Counted.{has_failed}
use Rattle.tf_engine.specs.Faults.{Refused, Stop, Refuses, Fails, is_on_instance}
use Rattle.tf_engine.specs.Devices.{LeavesReader, LeavesInstance, LeavesAnswer, LeavesBoth, LeavesAll}

-- a reader that has not failed has not failed
sound : {T : Type 0} (c : Counted T) → has_failed c ≡ false → has_failed c ≡ true → ⊥
sound c ok failed = let both : true ≡ false = sym failed ∙ ok in cc

-- ---- a reader that was read to its end is so whatever comes of it

module _ {T : Type 0} {remaining : T → Option (List ℕ)} {old new : Counted T}
    (had : LeavesReader remaining old new None) where
  pub reader_sound : has_failed new ≡ true → ⊥
  reader_sound = sound new (had.unfailed refl)

  pub reader_later : (end : Option Stop) → LeavesReader remaining old new end
  reader_later end = record {
    unfailed = λ h. had.unfailed refl;
    ended = λ h. had.ended refl;
    pulled = had.pulled;
    counted = had.counted;
  }

asked_ok : (P : Type 0) (asked : Result Problem Refused)
    → IfErr asked (λ refused. (None ≡ Some (Refuses refused)) × P) → IsOk asked
asked_ok P (Ok problem) h = refl
asked_ok P (Err refused) (none, p) = cc

asked_on : (P : Type 0) (asked : Result Problem Refused) (end : Option Stop) → IsOk asked
    → IfErr asked (λ refused. (end ≡ Some (Refuses refused)) × P)
asked_on P (Ok problem) end h = tt
asked_on P (Err refused) end h = cc

module _ {T : Type 0} {asked : Result Problem Refused} {remaining : T → Option (List ℕ)}
    {old new : Counted T} (had : LeavesInstance asked remaining old new None) where
  ok : IsOk asked
  ok = asked_ok (new ≡ old) asked had.unread

  pub instance_unfailed : has_failed new ≡ false
  instance_unfailed = had.unfailed ok refl

  pub instance_sound : has_failed new ≡ true → ⊥
  instance_sound = sound new instance_unfailed

  pub instance_later : (end : Option Stop) → LeavesInstance asked remaining old new end
  instance_later end = record {
    unread = asked_on (new ≡ old) asked end ok;
    unfailed = λ is h. instance_unfailed;
    wanting = λ h. inr instance_unfailed;
    ended = λ is h. had.ended ok refl;
    pulled = had.pulled;
    counted = had.counted;
  }

module _ {T : Type 0} (remaining : T → Option (List ℕ)) (old new : Counted T) where
  pub answer_unfailed : LeavesAnswer remaining old new None → has_failed new ≡ false
  answer_unfailed (inl (same, h)) = cc
  answer_unfailed (inr (h, read)) = read.unfailed refl

  answer_later : (s : Stop) → is_on_instance s ≡ false → LeavesAnswer remaining old new None
      → LeavesAnswer remaining old new (Some s)
  answer_later s not (inl (same, h)) = cc
  answer_later s not (inr (h, read)) = inr (not, reader_later read (Some s))

module _ {T U : Type 0} {asked : Result Problem Refused} {remaining : T → Option (List ℕ)}
    {old new : Counted T} {giving : U → Option (List ℕ)} {before after : Counted U}
    (had : LeavesBoth asked remaining old new giving before after None) where
  pub both_sound : (has_failed new ≡ true) ⊎ (has_failed after ≡ true) → ⊥
  both_sound (inl failed) = instance_sound had.instance failed
  both_sound (inr failed) =
      sound after (answer_unfailed giving before after had.answer) failed

  pub both_later : (s : Stop) → is_on_instance s ≡ false
      → LeavesBoth asked remaining old new giving before after (Some s)
  both_later s not = record {
    instance = instance_later had.instance (Some s);
    answer = answer_later giving before after s not had.answer;
  }

-- ---- a run

module _ {V : Type 0} (Readers : Option Stop → Type 0) (ReaderFailed : Type 0) (held : Counted V)
  where
    -- that stopped before it wrote
    pub stopped : (s : Stop) → Readers (Some s) → LeavesAll Readers ReaderFailed held held (Some s)
    stopped s readers = record {
      readers = readers;
      unfailed = λ h. cc;
      unwritten = λ h. refl;
      untouched = λ h. refl;
    }

    module _ (written : Counted V) (read : ReaderFailed → ⊥) where
      -- that was cut short by the writer
      pub cut : Readers (Some Fails) → LeavesAll Readers ReaderFailed held written (Some Fails)
      cut readers = record {
        readers = readers;
        unfailed = λ h. cc;
        unwritten = λ h. cc;
        untouched = λ h. absurd (read h);
      }

      -- that wrote all
      pub wrote : Readers None → has_failed written ≡ false
          → LeavesAll Readers ReaderFailed held written None
      wrote readers ok = record {
        readers = readers;
        unfailed = λ h. ok;
        unwritten = tt;
        untouched = λ h. absurd (read h);
      }
