-- What a schedule that keeps the pieces of a sheet shows.
use Rattle.std.proofs.Common.{◌≡◌, ℕ, List, Ok, arith}
use Rattle.std.specs.List.Sorted.{IsPermutation}
use Rattle.std.proofs.lemmas.List.Sorted.{IsPermutation-sym, All-permutation}
use Rattle.tf_schedule.specs.declared.piece.Piece.{Piece}
use Rattle.tf_schedule.specs.Piece.{machine_of}
use Rattle.tf_schedule.specs.Schedule.{IsPiece, IsSchedule, NoneTwice}
use Rattle.tf_schedule.proofs.Scan.{claims_permutation}
use Rattle.tf_text.specs.AnswerText.{SheetData}
use Rattle.tf_text.specs.AnswerReading.{answer_in}
use Rattle.tf_text.specs.Chart.{chart_text}
use Rattle.tf_text.proofs.ChartOrder.{chart_permutation}
use Rattle.tf_engine.specs.Drawing.{IsShown, IsChart}

-- the pieces that a schedule keeps claim no cell twice
once_kept : (ps qs : List Piece) → IsPermutation ps qs → IsSchedule qs → NoneTwice ps
once_kept ps qs kept schedule n t =
    omega (arith, claims_permutation machine_of ps qs n t kept, schedule.none_twice n t)

-- the chart of a schedule that keeps a sheet's pieces is the chart of the sheet
pub chart_shown : (columns : ℕ) (sheet : SheetData) (qs : List Piece)
    → IsPermutation sheet.answer.pieces qs → IsSchedule qs
    → IsChart columns sheet (chart_text qs sheet.machines columns)
chart_shown columns sheet qs kept schedule =
    chart_permutation sheet.answer.pieces qs (once_kept sheet.answer.pieces qs kept schedule) kept
    sheet.machines columns

-- the sheet is shown whose pieces a schedule keeps
pub shown_of : (Shows : SheetData → List ℕ → Type 0) (text out : List ℕ) (sheet : SheetData)
    (qs : List Piece)
    → answer_in text ≡ Ok sheet → IsPermutation sheet.answer.pieces qs → IsSchedule qs
    → Shows sheet out → IsShown Shows text out
shown_of Shows text out sheet qs says kept schedule shown =
    let ps = sheet.answer.pieces in
    record {
      sheet = sheet;
      said = says;
      sound = All-permutation IsPiece qs ps (IsPermutation-sym ps qs kept) schedule.sound;
      once = once_kept ps qs kept schedule;
      shown = shown;
    }
