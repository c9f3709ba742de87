-- A reader of an answer text, to which the text is fed.
use Rattle.std.specs.Prelude.{◌≡◌, ℕ, ◌-◌, ◌<◌, List, ◌++◌, length, Result}
use Rattle.tf_words.specs.Words.{lines, kept_lines}
use Rattle.tf_text.specs.AnswerText.{SheetData}
use Rattle.tf_text.specs.AnswerStage.{Leads}
use Rattle.tf_text.specs.declared.answer.fault.AnswerFault.{AnswerFault}
use Rattle.tf_text.specs.declared.answer.reading.AnswerReader.{AnswerReader}

-- with this text behind what was fed the outcome of the whole is this one
abbrev pub Awaits : {A : Type 0} → AnswerReader A → List ℕ → Result SheetData AnswerFault → Type 0
Awaits r text total = Leads r.stage (kept_lines r.number (lines (r.line.items ++ text))) total

-- A piece was fed. Where the text is not too long, what the reader awaits is what follows.
pub record TakesAnswer {A : Type 0} (old : AnswerReader A) (piece : List ℕ) (new : AnswerReader A) :
    Type 0 where
  pub left : new.left ≡ old.left - length piece
  pub goes_on : 0 < new.left → (more : List ℕ) (total : Result SheetData AnswerFault)
      → Awaits old (piece ++ more) total → Awaits new more total
