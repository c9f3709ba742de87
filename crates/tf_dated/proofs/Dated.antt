-- Pictures with the dates of an instance.
use Rattle.std.proofs.Common.{◌≡◌, ℕ, true, List, Option, Bool, Ok, Err, Result, inl, inr, arith}
use Rattle.std.specs.List.Sorted.{IsPermutation}
use Rattle.std.specs.Io.KnownBytes.{Appends}
use Rattle.std.proofs.KnownBytes.{Keeps-refl}
use Rattle.std.proofs.lemmas.List.Sorted.{IsPermutation-sym, All-permutation}
use Rattle.tf_model.specs.InstanceData.{InstanceData}
use Rattle.tf_schedule.specs.declared.piece.Piece.{Piece}
use Rattle.tf_schedule.specs.Piece.{machine_of}
use Rattle.tf_schedule.specs.Schedule.{IsPiece, IsSchedule}
use Rattle.tf_schedule.proofs.Scan.{claims_permutation}
use Rattle.tf_text.specs.declared.counted.Counted.{Counted}
use Rattle.tf_text.specs.Counted.{has_failed, AppendsPrefix, DeviceUse, unused, use_of}
use Rattle.tf_text.specs.AnswerText.{SheetData}
use Rattle.tf_engine.specs.declared.fault.RunFault.{RunFault}
use Rattle.tf_engine.specs.declared.fault.RunFault.TheVariants.{Device}
use Rattle.tf_engine.specs.Faults.{stop_of}
use Rattle.tf_engine.specs.FormData.{FormData}
use Rattle.tf_engine.specs.Parts.{ReadsSheet, ReadsTo}
use Rattle.tf_engine.specs.Checking.{IsOfAnswer}
use Rattle.tf_engine.proofs.Unread.{reading_stops}
use Rattle.tf_dated.specs.Dates.{dates_in}
use Rattle.tf_dated.specs.DatedInstance.{dated_said}
use Rattle.tf_dated.specs.Dated.{IsDated, IsDatedOver, IsDatedRunOf, IsDrawnSheet, IsForJobs, IsRefusedDated}
use Rattle.tf_picture.specs.Picture.{IsDatedPicture}
use Rattle.tf_dated.specs.declared.run_dated.Pictured.{Pictured}
use Rattle.tf_dated.specs.declared.run_dated.Pictured.TheVariants.{Drawn, OtherTask}
use Rattle.tf_picture.specs.declared.view.View.{View}

-- the picture of a schedule that keeps a sheet's pieces is the picture of the sheet
pub sheet_drawn : (view : View) (i : InstanceData) (sheet : SheetData) (qs : List Piece)
    (out : List ℕ) → IsPermutation sheet.answer.pieces qs → IsSchedule qs
    → IsDatedPicture (dates_in sheet.problem i.jobs) view sheet out → IsDrawnSheet view i sheet out
sheet_drawn view i sheet qs out kept schedule picture =
    let ps = sheet.answer.pieces in
    record {
      sound = All-permutation IsPiece qs ps (IsPermutation-sym ps qs kept) schedule.sound;
      once = λ n t.
          omega (arith, claims_permutation machine_of ps qs n t kept, schedule.none_twice n t);
      picture = picture;
    }

module _ (A T : Type 0) (view : View) (form : FormData) (remaining : T → Option (List ℕ))
    (old new : Counted T) (answer : DeviceUse) where
  -- nothing is written where there is no instance
  pub unread : (held : Option (List ℕ)) (writer : Bool) (e : RunFault A)
      → ReadsTo (dated_said form) remaining old new (Err e)
      → IsDatedRunOf view form (use_of remaining old new) answer (unused held writer) (Err e)
  unread held writer e had = record {
    text = had.text;
    is_all = had.is_all;
    outcome = inl (record { stopped = had.given; unwritten = Keeps-refl held });
  }

  -- otherwise the run is over the instance
  pub over : (i : InstanceData) (writer : DeviceUse) (result : Result Pictured (RunFault A))
      → ReadsTo {A = A} (dated_said form) remaining old new (Ok i)
      → IsDatedOver view i answer writer result
      → IsDatedRunOf view form (use_of remaining old new) answer writer result
  over i writer result had rest = record {
    text = had.text;
    is_all = had.is_all;
    outcome = inr (record { i = i; said = had.given; rest = rest });
  }

module _ (A T : Type 0) (view : View) (i : InstanceData) (remaining : T → Option (List ℕ))
    (old new : Counted T) where
  -- nothing is written where the answer says no sheet
  pub unsaid : (held : Option (List ℕ)) (writer : Bool) (e : RunFault A)
      → ReadsSheet remaining old new (Err e)
      → IsDatedOver view i (use_of remaining old new) (unused held writer) (Err e)
  unsaid held writer e had = record {
    text = had.text;
    is_all = had.is_all;
    outcome = reading_stops (IsDated view i had.text) (IsOfAnswer had.text)
        (IsRefusedDated i had.text) (has_failed new ≡ true) (has_failed new ≡ true) held writer
        (λ refused h. inl h) (λ h. h) (stop_of e) had.given;
  }

  module _ (sheet : SheetData) (had : ReadsSheet {A = A} remaining old new (Ok sheet)) where
    -- nor where it is for other jobs
    pub of_others : (held : Option (List ℕ)) (writer : Bool) → ¬ (IsForJobs i sheet)
        → IsDatedOver {A = A} view i (use_of remaining old new) (unused held writer) (Ok OtherTask)
    of_others held writer others = record {
      text = had.text;
      is_all = had.is_all;
      outcome = (
        record { sheet = sheet; said = had.given; others = others },
        Keeps-refl held,
      );
    }

    module _ (jobs : IsForJobs i sheet) where
      module _ (writer : DeviceUse) (out : List ℕ) (drawn : IsDrawnSheet view i sheet out) where
        is_dated : IsDated view i had.text out
        is_dated = record { sheet = sheet; said = had.given; jobs = jobs; drawn = drawn }

        -- the picture was written
        pub pictured : Appends writer.before writer.after out
            → IsDatedOver {A = A} view i (use_of remaining old new) writer (Ok Drawn)
        pictured written = record {
          text = had.text;
          is_all = had.is_all;
          outcome = (out, is_dated, written);
        }

        -- a prefix of it was where the writer failed
        pub cut_off : writer.failed ≡ true → AppendsPrefix writer.before writer.after out
            → IsDatedOver {A = A} view i (use_of remaining old new) writer (Err Device)
        cut_off failed prefix = record {
          text = had.text;
          is_all = had.is_all;
          outcome = inr (failed, (out, is_dated, prefix));
        }
