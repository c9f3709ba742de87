-- What drawing an answer text leaves behind.
use Rattle.std.specs.Prelude.{◌≡◌, ℕ, ◌⊎◌, true, List, Ok, Err}
use Rattle.std.specs.List.{All}
use Rattle.tf_schedule.specs.declared.piece.Piece.{Piece}
use Rattle.tf_schedule.specs.declared.schedule.PieceFault.{PieceFault}
use Rattle.tf_schedule.specs.Schedule.{IsPiece, NoneTwice, HasFirstFault}
use Rattle.tf_text.specs.Counted.{DeviceUse}
use Rattle.tf_text.specs.Input.{IsTextOf}
use Rattle.tf_text.specs.AnswerText.{SheetData}
use Rattle.tf_text.specs.AnswerReading.{answer_in}
use Rattle.tf_text.specs.Chart.{chart_text}
use Rattle.tf_text.specs.declared.answer.fault.AnswerFault.{AnswerFault}
use Rattle.tf_engine.specs.Faults.{Refused, ByAnswer, ByPieces}
use Rattle.tf_engine.specs.Runs.{Run}

-- the text says a sheet whose pieces are sound and claim no cell twice, and `out` shows it
pub record IsShown (Shows : SheetData → List ℕ → Type 0) (text out : List ℕ) : Type 0 where
  pub sheet : SheetData
  pub said : answer_in text ≡ Ok sheet
  pub sound : All IsPiece sheet.answer.pieces
  pub once : NoneTwice sheet.answer.pieces
  pub shown : Shows sheet out

-- a chart shows a sheet, in so many columns at most
abbrev pub IsChart : ℕ → SheetData → List ℕ → Type 0
IsChart columns sheet out = out ≡ chart_text sheet.answer.pieces sheet.machines columns

-- the refusal is the first fault of the pieces
abbrev pub IsOfPieces : List Piece → Refused → Type 0
IsOfPieces pieces refused = (fault : PieceFault) × (refused ≡ ByPieces fault)
    × HasFirstFault pieces fault

-- the text says a sheet whose pieces are no schedule, for this reason
pub record IsUndrawn (text : List ℕ) (refused : Refused) : Type 0 where
  pub sheet : SheetData
  pub said : answer_in text ≡ Ok sheet
  pub first : IsOfPieces sheet.answer.pieces refused

-- the first fault of the text, or of the pieces that it says
abbrev pub IsRefusedDrawing : List ℕ → Refused → Type 0
IsRefusedDrawing text refused =
    ((fault : AnswerFault) × (refused ≡ ByAnswer fault) × (answer_in text ≡ Err fault))
    ⊎ IsUndrawn text refused

-- a run over an answer, which writes what shows its sheet
abbrev pub drawing_run : (SheetData → List ℕ → Type 0) → DeviceUse → Run (List ℕ) (Unit {0})
drawing_run Shows reader = record {
  Over = λ text. IsTextOf reader.before text;
  Says = λ text _ out. IsShown Shows text out;
  IsRefused = λ text refused. IsRefusedDrawing text refused;
  ReaderFailed = λ text. reader.failed ≡ true;
}
