-- How an evaluation ends that tells what its schedule comes to by every objective.
use Rattle.std.specs.Prelude.{◌≡◌, ◌⊎◌, ℕ, false, List, [], Option, None, Some, Ok, IsErr, codes}
use Rattle.tf_text.specs.Counted.{DeviceUse, inner_of, has_failed, use_of}
use Rattle.tf_text.specs.Input.{IsTextOf}
use Rattle.tf_text.specs.AnswerReading.{answer_in}
use Rattle.tf_text.specs.AnswerText.{SheetData}
use Rattle.tf_engine.specs.RequestData.{RequestData}
use Rattle.tf_assess.specs.Measures.{AreMeasures, IsPosed, IsUnposed, PosedData, measured_text}
use Rattle.tf_assess.specs.declared.measures.Measures.{Measures as Values}
use Rattle.tf_text.specs.declared.answer.layout.Layout.TheVariants.{Two}
use Rattle.tf_asked.specs.Asking.{requested}
use Rattle.tf_asked.specs.declared.options.Options.{Options}
use Rattle.tf_asked.specs.declared.options.Work.{Work as Asking}
use Rattle.tf_asked.specs.declared.options.Work.TheVariants.{Evaluate, Assess}
use Rattle.tf_command.specs.Ending.{SaysLine}
use Rattle.tf_command.specs.Formatted.{Memory, held, IsWritten, IsCutOff, IsUnwritten}
use Rattle.tf_command.specs.Performing.{Performs}
use Rattle.tf_command.specs.Unread.{IsUnread, Texts}
use Rattle.tf_held.specs.declared.measured.Answered.{Answered}
use Rattle.tf_held.specs.declared.measured.Answered.TheVariants.{Alone, Beside}
use Rattle.tf_held.specs.Shops.{IsCountedBy, texts_with}

-- what the pieces of the answer come to by each objective, where all texts are well formed
abbrev pub AreOfAnswer : RequestData → List ℕ → List ℕ → Option Values → Type 0
AreOfAnswer request instance answer None =
    IsUnposed request instance ⊎ IsErr (answer_in answer)
AreOfAnswer request instance answer (Some m) =
    (posed : PosedData) × (sheet : SheetData) × IsPosed request instance posed
    × (answer_in answer ≡ Ok sheet) × AreMeasures posed sheet.answer.pieces m

-- an evaluation with the lines of its measures before its last line
abbrev pub IsMeasured : RequestData → List ℕ → List ℕ → List ℕ → List ℕ → Type 0
IsMeasured request instance answer text measured =
    (m : Option Values) × AreOfAnswer request instance answer m × (measured ≡ measured_text text m)

-- ---- the evaluation of an answer

-- what names the problem and the instance
abbrev pub options_of : Answered → Options
options_of (Alone evaluating) = evaluating.options
options_of (Beside assessing) = assessing.options

-- the name of the answer
abbrev pub answer_of : Answered → List ℕ
answer_of (Alone evaluating) = evaluating.answer.now
answer_of (Beside assessing) = assessing.answer.now

abbrev pub work_of : Answered → Asking
work_of (Alone evaluating) = Evaluate evaluating
work_of (Beside assessing) = Assess assessing

-- the same with other options
abbrev pub answered_with : Answered → Options → Answered
answered_with (Alone evaluating) options = Alone (record evaluating { options = options })
answered_with (Beside assessing) options = Beside (record assessing { options = options })

-- the evaluation was done over these texts with its output in memory, and what it wrote is this,
-- with the measures of an instance and an answer
pub record MeasuresOver (texts : Texts) (instance answer : List ℕ) (answered : Answered)
    (output errors : List ℕ) (status : ℕ) : Type 0 where
  pub before : Memory
  pub after : Memory
  pub blank : (inner_of before.writer).items ≡ []
  pub silent : (inner_of before.errors).items ≡ []
  pub done : Performs texts (work_of answered) (use_of held before.writer after.writer)
      (λ explain. SaysLine held explain before.errors after.errors) status
  pub whole : has_failed after.writer ≡ false
  pub told : has_failed after.errors ≡ false
  pub measured : IsMeasured (requested (options_of answered) Two) instance answer
      (inner_of after.writer).items output
  pub errors_is : errors ≡ (inner_of after.errors).items

-- these texts with the instance and the answer that were read
abbrev pub texts_read : Texts → List ℕ → List ℕ → Answered → Texts
texts_read texts instance answer answered =
    texts_with (options_of answered).input.now instance
    (texts_with (answer_of answered) answer texts)

-- the same over an instance and an answer that were read, for a shop of as many machines as the
-- instance says, where their number is wanted
pub record MeasuresCounted (texts : Texts) (instance answer : List ℕ) (answered : Answered)
    (output errors : List ℕ) (status : ℕ) : Type 0 where
  pub other : Options
  pub counted : IsCountedBy (options_of answered) instance other
  pub over : MeasuresOver (texts_read texts instance answer answered) instance answer
      (answered_with answered other) output errors status

-- the same over the texts of the names that are given
pub record Measures (texts : Texts) (answered : Answered) (output errors : List ℕ) (status : ℕ)
    : Type 0 where
  pub instance : List ℕ
  pub is_file : IsTextOf (texts (options_of answered).input.now) instance
  pub answer : List ℕ
  pub is_answer : IsTextOf (texts (answer_of answered)) answer
  pub over : MeasuresCounted texts instance answer answered output errors status

abbrev pub EndsMeasured : Texts → Answered → DeviceUse → (List ℕ → Type 0) → (List ℕ → Type 0)
    → ℕ → Type 0
EndsMeasured texts answered writer says line status =
    ((output : List ℕ) × (errors : List ℕ) × (wanted : ℕ)
    × Measures texts answered output errors wanted
    × (IsWritten writer says output errors wanted status
    ⊎ IsCutOff writer says output (codes "threefield: device fault\n") status))
    ⊎ IsUnwritten writer says (codes "threefield: want of memory\n") status
    ⊎ IsUnread texts writer line status
