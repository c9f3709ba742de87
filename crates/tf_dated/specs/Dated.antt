-- What picturing an answer with the dates of an instance leaves behind.
use Rattle.std.specs.Prelude.{◌≡◌, ℕ, ◌⊎◌, true, List, length, Result, Ok, Err, MatchResult}
use Rattle.std.specs.List.{All}
use Rattle.std.specs.Io.KnownBytes.{Appends, Keeps}
use Rattle.tf_model.specs.InstanceData.{InstanceData}
use Rattle.tf_schedule.specs.Schedule.{IsPiece, NoneTwice}
use Rattle.tf_text.specs.Counted.{DeviceUse}
use Rattle.tf_text.specs.Input.{IsTextOf}
use Rattle.tf_text.specs.AnswerText.{SheetData}
use Rattle.tf_text.specs.AnswerReading.{answer_in}
use Rattle.tf_engine.specs.declared.fault.RunFault.{RunFault}
use Rattle.tf_engine.specs.Drawing.{IsOfPieces}
use Rattle.tf_engine.specs.Faults.{Refused, stop_of}
use Rattle.tf_engine.specs.FormData.{FormData}
use Rattle.tf_engine.specs.Parts.{StopsReading}
use Rattle.tf_engine.specs.Checking.{IsOfAnswer}
use Rattle.tf_engine.specs.Runs.{Leaves}
use Rattle.tf_dated.specs.Dates.{dates_in}
use Rattle.tf_dated.specs.DatedInstance.{dated_said}
use Rattle.tf_picture.specs.Picture.{IsDatedPicture}
use Rattle.tf_dated.specs.declared.run_dated.Pictured.{Pictured}
use Rattle.tf_dated.specs.declared.run_dated.Pictured.TheVariants.{Drawn, OtherTask}
use Rattle.tf_picture.specs.declared.view.View.{View}

-- the sheet is for as many jobs as the instance has
abbrev pub IsForJobs : InstanceData → SheetData → Type 0
IsForJobs i sheet = sheet.jobs ≡ length i.jobs

-- the pieces are sound and claim no cell twice, and `out` is their picture with the dates of the
-- instance's jobs
pub record IsDrawnSheet (view : View) (i : InstanceData) (sheet : SheetData) (out : List ℕ)
    : Type 0 where
  pub sound : All IsPiece sheet.answer.pieces
  pub once : NoneTwice sheet.answer.pieces
  pub picture : IsDatedPicture (dates_in sheet.problem i.jobs) view sheet out

-- the text says a sheet for the instance's jobs, and this is its picture
pub record IsDated (view : View) (i : InstanceData) (text out : List ℕ) : Type 0 where
  pub sheet : SheetData
  pub said : answer_in text ≡ Ok sheet
  pub jobs : IsForJobs i sheet
  pub drawn : IsDrawnSheet view i sheet out

-- the text says a sheet for the instance's jobs whose pieces are no schedule, for this reason
pub record IsUndated (i : InstanceData) (text : List ℕ) (refused : Refused) : Type 0 where
  pub sheet : SheetData
  pub said : answer_in text ≡ Ok sheet
  pub jobs : IsForJobs i sheet
  pub first : IsOfPieces sheet.answer.pieces refused

-- the text says a sheet for another number of jobs
pub record IsForOthers (i : InstanceData) (text : List ℕ) : Type 0 where
  pub sheet : SheetData
  pub said : answer_in text ≡ Ok sheet
  pub others : ¬ (IsForJobs i sheet)

-- the first fault of the text, or of the pieces that it says
abbrev pub IsRefusedDated : InstanceData → List ℕ → Refused → Type 0
IsRefusedDated i text refused = IsOfAnswer text refused ⊎ IsUndated i text refused

-- The picture is written; or nothing is, where the answer is for other jobs; or the one refusal is
-- given. Where memory was wanting there is none of these. Where the writer failed a prefix of the
-- picture was written.
abbrev pub DatedOutcome : {A : Type 0} → View → InstanceData → List ℕ → DeviceUse → DeviceUse
    → Result Pictured (RunFault A) → Type 0
DatedOutcome view i text reader writer (Ok Drawn) =
    (out : List ℕ) × IsDated view i text out × Appends writer.before writer.after out
DatedOutcome view i text reader writer (Ok OtherTask) =
    IsForOthers i text × Keeps writer.before writer.after
DatedOutcome view i text reader writer (Err e) =
    Leaves (IsDated view i text) (IsRefusedDated i text) (reader.failed ≡ true) writer (stop_of e)

-- the outcome over an instance is that of an answer text, which is all bytes of the reader up to its
-- end where they are known
pub record IsDatedOver {A : Type 0} (view : View) (i : InstanceData) (reader writer : DeviceUse)
    (result : Result Pictured (RunFault A)) : Type 0 where
  pub text : List ℕ
  pub is_all : IsTextOf reader.before text
  pub outcome : DatedOutcome view i text reader writer result

-- the run stopped at the instance, and nothing was written
pub record IsStoppedBefore {A : Type 0} (form : FormData) (text : List ℕ)
    (instance writer : DeviceUse) (result : Result Pictured (RunFault A)) : Type 0 where
  pub stopped : MatchResult result (λ pictured. ⊥)
      (λ e. StopsReading (λ refused. dated_said form text ≡ Err refused)
      (instance.failed ≡ true) (stop_of e))
  pub unwritten : Keeps writer.before writer.after

-- the text says this instance, and the rest of the run is over it
pub record IsDatedBy {A : Type 0} (view : View) (form : FormData) (text : List ℕ)
    (answer writer : DeviceUse) (result : Result Pictured (RunFault A)) : Type 0 where
  pub i : InstanceData
  pub said : dated_said form text ≡ Ok i
  pub rest : IsDatedOver view i answer writer result

-- The run is over the instance of a text, which is all bytes of the reader up to its end where they
-- are known.
pub record IsDatedRunOf {A : Type 0} (view : View) (form : FormData)
    (instance answer writer : DeviceUse) (result : Result Pictured (RunFault A)) : Type 0 where
  pub text : List ℕ
  pub is_all : IsTextOf instance.before text
  pub outcome : IsStoppedBefore form text instance writer result
      ⊎ IsDatedBy view form text answer writer result
