-- What is told of each of several instances of a file.
use Rattle.std.specs.Prelude.{◌≡◌, ◌⊎◌, ℕ, ◌+◌, ◌<◌, ◌≤◌, max, Bool, true, false, ◌||◌, ◌==◌, List, [], ◌∷◌, ◌++◌, length, take, Option, None, Some, Err, option_map, IfSome, IsUtf8, codes, if◌then◌else◌}
use Rattle.std.specs.List.{flat_map}
use Rattle.std.specs.Fmt.{decimal}
use Rattle.std.specs.Borrow.{Bor}
use Rattle.std.specs.Io.KnownBytes.{Appends, Keeps}
use Rattle.tf_read.specs.WeightedTardiness.{weighted_tardiness}
use Rattle.tf_read.specs.declared.fault.ReadFault.TheVariants.{NoInstance}
use Rattle.tf_text.specs.AnswerText.{line_text}
use Rattle.tf_text.specs.Counted.{AppendsPrefix, DeviceUse, inner_of, has_failed, use_of}
use Rattle.tf_text.specs.Input.{IsTextOf}
use Rattle.tf_text.specs.declared.answer.layout.Layout.TheVariants.{One, Two}
use Rattle.tf_engine.specs.FormData.{FormData, InWt, InFlow}
use Rattle.tf_evaluate.specs.declared.evaluation.Detail.TheVariants.{Summary}
use Rattle.tf_export.specs.Documents.{json_of}
use Rattle.tf_export.specs.Entry.{entry}
use Rattle.tf_export.specs.Faults.{fault_json}
use Rattle.tf_export.specs.declared.documents.Document.{Document}
use Rattle.tf_export.specs.declared.documents.Document.TheVariants as documents
use Rattle.tf_asked.specs.declared.format.Format.TheVariants.{Json}
use Rattle.tf_asked.specs.Asking.{form_asked}
use Rattle.tf_asked.specs.declared.aids.Aids.{Aids}
use Rattle.tf_asked.specs.declared.options.Assessing.{Assessing}
use Rattle.tf_asked.specs.declared.options.Evaluating.{Evaluating}
use Rattle.tf_asked.specs.declared.options.Options.{Options}
use Rattle.tf_asked.specs.declared.options.OrderSource.{OrderSource}
use Rattle.tf_asked.specs.declared.options.OrderSource.TheVariants as sources
use Rattle.tf_asked.specs.declared.options.Work.{Work as Asking}
use Rattle.tf_asked.specs.declared.options.Work.TheVariants.{Solve, Bound, Evaluate, Assess, Rate}
use Rattle.tf_asked.specs.declared.series.FileForm.{FileForm}
use Rattle.tf_asked.specs.declared.series.FileForm.TheVariants.{Wt, Flow}
use Rattle.tf_asked.specs.declared.series.Series.{Series}
use Rattle.tf_asked.specs.declared.series.Told.{Told}
use Rattle.tf_asked.specs.declared.series.Told.TheVariants.{Values, Bounds, Answers, Orders, Ruled}
use Rattle.tf_command.specs.Ending.{SaysLine}
use Rattle.tf_command.specs.Formatted.{Memory, device_line, held, memory_line}
use Rattle.tf_command.specs.Unread.{Texts}
use Rattle.tf_held.specs.AnswerTexts.{AreNext}
use Rattle.tf_held.specs.Headings.{name_at}
use Rattle.tf_held.specs.Shops.{EndsCounted}
use Rattle.tf_command.specs.Unread.{IsUnread}
use Rattle.tf_command.specs.Wrote.{Wrote}
use Rattle.tf_text.specs.declared.counted.Counted.{Counted}
use Rattle.tf_held.specs.Texts.{BesideData, held_texts}
use Rattle.tf_held.specs.declared.series.Stop.{Stop}
use Rattle.tf_held.specs.declared.series.Stop.TheVariants as stops

-- ---- one instance

-- the text that these bytes are: all of them, or nothing where they are no text in UTF-8
abbrev pub IsTextIn : List ℕ → List ℕ → Type 0
IsTextIn bytes text = (text ≡ bytes) ⊎ ((¬ (IsUtf8 bytes)) × (text ≡ []))

-- the form that names the instance of this number of a file alone
abbrev pub IsFormFor : FileForm → List ℕ → ℕ → FormData → Type 0
IsFormFor (Wt jobs) text number form = form ≡ InWt jobs number
IsFormFor (Flow pair) text number form =
    (name : List ℕ) × IsTextIn (name_at text number) name × (form ≡ InFlow name pair)

-- the options that name it, and tell and explain no more of it
pub record AreOptionsFor (series : Series) (instance : List ℕ) (number : ℕ) (options : Options)
    : Type 0 where
  pub problem : options.problem.now ≡ series.problem.now
  pub form : IsFormFor series.form instance number (form_asked options.form)
  pub machines : options.machines ≡ series.machines
  pub input : options.input.now ≡ series.input.now
  pub plain : options.telling.explain ≡ false
  pub unmeasured : options.telling.measures ≡ false

-- an answer is evaluated by text alone, or beside a bound
abbrev pub IsEvaluatedBy : Told → Evaluating → Type 0
IsEvaluatedBy (Answers answer aids) evaluating =
    (evaluating.answer.now ≡ answer.now) × (evaluating.detail ≡ Summary)
    × (evaluating.steps ≡ aids.steps) × (aids.bound ≡ None)
IsEvaluatedBy _ evaluating = ⊥

abbrev pub IsAssessedBy : Told → Assessing → Type 0
IsAssessedBy (Answers answer aids) assessing =
    (assessing.answer.now ≡ answer.now) × (assessing.steps ≡ aids.steps)
    × (aids.bound ≡ Some assessing.bound)
IsAssessedBy _ assessing = ⊥

-- the order of a line, or that of a rule, is evaluated by text alone, by the same aids
abbrev pub IsRatedBy : Told → List ℕ → OrderSource → Aids → Type 0
IsRatedBy told line (sources.Given order detail) aids =
    (name : Bor (List ℕ)) × (told ≡ Orders name aids) × IsTextIn line order.now
    × (detail ≡ Summary)
IsRatedBy told line (sources.Ruled rule detail) aids =
    (told ≡ Ruled rule aids) × (detail ≡ Summary)
IsRatedBy told line _ aids = ⊥

-- the work of the command that is about the instance of this number alone, beside an answer, or the
-- line of an order
abbrev pub IsWorkFor : Series → List ℕ → ℕ → List ℕ → Asking → Type 0
IsWorkFor series instance number answer (Solve options layout) =
    (series.told ≡ Values) × AreOptionsFor series instance number options
    × (layout ≡ (if series.json then One else Two))
IsWorkFor series instance number answer (Bound options steps) =
    (series.told ≡ Bounds steps) × AreOptionsFor series instance number options
IsWorkFor series instance number answer (Evaluate evaluating) =
    AreOptionsFor series instance number evaluating.options × IsEvaluatedBy series.told evaluating
IsWorkFor series instance number answer (Assess assessing) =
    AreOptionsFor series instance number assessing.options × IsAssessedBy series.told assessing
IsWorkFor series instance number answer (Rate options source aids) =
    AreOptionsFor series instance number options × IsRatedBy series.told answer source aids
IsWorkFor series instance number answer _ = ⊥

-- the name of the text of bounds, if there is one
abbrev pub bound_of : Told → Option (List ℕ)
bound_of (Answers name aids) = option_map (λ bound. bound.now) aids.bound
bound_of (Orders name aids) = option_map (λ bound. bound.now) aids.bound
bound_of (Ruled rule aids) = option_map (λ bound. bound.now) aids.bound
bound_of _ = None

-- that work was done over the file and the texts beside it, a shop that has no number of machines as
-- one of as many as the file has, and this is what it wrote in memory
pub record RunsFor (series : Series) (instance : List ℕ) (beside : BesideData) (number status : ℕ)
    (output errors : List ℕ) : Type 0 where
  pub work : Asking
  pub is : IsWorkFor series instance number beside.answers work
  pub before : Memory
  pub after : Memory
  pub blank : (inner_of before.writer).items ≡ []
  pub silent : (inner_of before.errors).items ≡ []
  pub done : EndsCounted
      (held_texts series.input.now instance (bound_of series.told) beside) work
      (use_of held before.writer after.writer)
      (λ explain. SaysLine held explain before.errors after.errors) status
  pub whole : has_failed after.writer ≡ false
  pub told : has_failed after.errors ≡ false
  pub output_is : output ≡ (inner_of after.writer).items
  pub errors_is : errors ≡ (inner_of after.errors).items

-- a command of this status told what is asked for
abbrev pub has_told : ℕ → Bool
has_told status = status == 0 || status == 1 || status == 6

-- ---- its line

-- what the command prints, as a document
abbrev pub document_of : Told → Document
document_of Values = documents.Answer
document_of (Bounds steps) = documents.Bound
document_of _ = documents.Evaluation

-- the line of the instance of this number, of which the command printed this: its document, or what
-- that tells
abbrev pub line_for : Series → ℕ → List ℕ → List ℕ
line_for series number output =
    if series.json then json_of (document_of series.told) (Some number) output
    else entry number output

-- the line of an instance
pub record IsEntry (series : Series) (instance : List ℕ) (beside : BesideData) (number : ℕ)
    (line : List ℕ) : Type 0 where
  pub status : ℕ
  pub output : List ℕ
  pub errors : List ℕ
  pub runs : RunsFor series instance beside number status output errors
  pub told : has_told status ≡ true
  pub is : line ≡ line_for series number output

-- the command ended for the instance of this number and these texts without telling, and said this
pub record EndsUntold (series : Series) (instance : List ℕ) (beside : BesideData) (number status : ℕ)
    (errors : List ℕ) : Type 0 where
  pub output : List ℕ
  pub runs : RunsFor series instance beside number status output errors
  pub untold : has_told status ≡ false

-- the file has no instance of this number
abbrev pub IsPast : FileForm → List ℕ → ℕ → Type 0
IsPast (Wt jobs) text number = weighted_tardiness jobs number text ≡ Err NoInstance
IsPast (Flow pair) text number = name_at text number ≡ []

-- a series to the end of the file has come to it
pub record IsAtEnd (series : Series) (instance : List ℕ) (number : ℕ) : Type 0 where
  pub to_end : series.span.last ≡ None
  pub later : series.span.first < number
  pub past : IsPast series.form instance number

-- what was kept tells of the instance of this number; or a series to the end of the file has come to
-- that
abbrev pub Tells : Series → List ℕ → BesideData → ℕ → Option Memory → Type 0
Tells series instance beside number (Some kept) =
    (status : ℕ) × (errors : List ℕ)
    × RunsFor series instance beside number status (inner_of kept.writer).items errors
    × (has_told status ≡ true)
Tells series instance beside number None = IsAtEnd series instance number

-- the line that names an instance
abbrev pub instance_line : ℕ → List ℕ
instance_line number = line_text (codes "threefield: instance" ∷ decimal number ∷ [])

-- what is said of the instance of this number, of which the command said this
abbrev pub said_for : Series → ℕ → List ℕ → List ℕ
said_for series number errors =
    if series.json then fault_json (Some number) errors else errors ++ instance_line number

-- why there is no line of the instance of this number
abbrev pub IsStopAt : Series → List ℕ → BesideData → ℕ → Stop → Type 0
IsStopAt series instance beside number stops.Memory = Unit {0}
IsStopAt series instance beside number stops.Unwritten = ⊥
IsStopAt series instance beside number (stops.Ended status said) =
    (errors : List ℕ) × EndsUntold series instance beside number status errors
    × (said.items ≡ said_for series number errors) × (¬ (IsAtEnd series instance number))

-- why the line of an instance was not written
abbrev pub IsUnwritten : DeviceUse → List ℕ → Stop → Type 0
IsUnwritten writer line stops.Memory = Keeps writer.before writer.after
IsUnwritten writer line stops.Unwritten =
    (writer.failed ≡ true) × AppendsPrefix writer.before writer.after line
IsUnwritten writer line (stops.Ended status said) = ⊥

-- ---- all of them

-- lines of the instances from this number on, by the answers or orders, and the bounds, that stand one
-- after the other in texts, and what is left of these
abbrev pub AreEntries : Series → List ℕ → ℕ → BesideData → List (List ℕ) → BesideData → Type 0
AreEntries series instance number texts [] rest = texts ≡ rest
AreEntries series instance number texts (line ∷ lines) rest =
    (beside : BesideData) × (after : BesideData) × AreNext series.told texts beside after
    × IsEntry series instance beside number line
    × AreEntries series instance (number + 1) after lines rest

-- texts one after the other
abbrev pub joined : List (List ℕ) → List ℕ
joined texts = flat_map (λ text. text) texts

-- the instances before this number are all that are asked for: the last one was named, or the file
-- has no more
abbrev pub IsAll : Series → List ℕ → Option ℕ → ℕ → Type 0
IsAll series instance (Some last) next = next ≡ max series.span.first (last + 1)
IsAll series instance None next =
    (next ≡ max series.span.first 4294967296) ⊎ IsAtEnd series instance next

-- a line of each was written, in their order
pub record WritesAll (series : Series) (instance : List ℕ) (texts : BesideData) (writer : DeviceUse)
    : Type 0 where
  pub lines : List (List ℕ)
  pub rest : BesideData
  pub entries : AreEntries series instance series.span.first texts lines rest
  pub all : IsAll series instance series.span.last (series.span.first + length lines)
  pub written : Appends writer.before writer.after (joined lines)

-- ---- the first of them alone

-- the instances before have these lines, and the one that follows them is asked for, beside these texts
pub record IsCutAt (series : Series) (instance : List ℕ) (texts : BesideData)
    (lines : List (List ℕ)) (beside : BesideData) : Type 0 where
  pub rest : BesideData
  pub entries : AreEntries series instance series.span.first texts lines rest
  pub asked : IfSome series.span.last (λ last. series.span.first + length lines ≤ last)
  pub after : BesideData
  pub next : AreNext series.told rest beside after

-- the lines before an instance that has none were written
pub record IsStopped (series : Series) (instance : List ℕ) (texts : BesideData) (writer : DeviceUse)
    (stop : Stop) : Type 0 where
  pub lines : List (List ℕ)
  pub beside : BesideData
  pub cut : IsCutAt series instance texts lines beside
  pub is : IsStopAt series instance beside (series.span.first + length lines) stop
  pub written : Appends writer.before writer.after (joined lines)

-- the device failed within the line of an instance: the lines before it were written, and a part of it
pub record IsCutOff (series : Series) (instance : List ℕ) (texts : BesideData) (writer : DeviceUse)
    : Type 0 where
  pub lines : List (List ℕ)
  pub beside : BesideData
  pub cut : IsCutAt series instance texts lines beside
  pub line : List ℕ
  pub is : IsEntry series instance beside (series.span.first + length lines) line
  pub failed : writer.failed ≡ true
  pub taken : ℕ
  pub within : taken ≤ length line
  pub written : Appends writer.before writer.after (joined lines ++ take taken line)

-- what was written before this stop
abbrev pub WritesUntil : Series → List ℕ → BesideData → DeviceUse → Stop → Type 0
WritesUntil series instance texts writer stops.Memory =
    IsStopped series instance texts writer stops.Memory
WritesUntil series instance texts writer stops.Unwritten = IsCutOff series instance texts writer
WritesUntil series instance texts writer (stops.Ended status said) =
    IsStopped series instance texts writer (stops.Ended status said)

-- what is said where there was no memory
abbrev pub memory_said : Series → List ℕ
memory_said series =
    if series.json then memory_line (Json (document_of series.told))
    else codes "threefield: want of memory\n"

-- the status, and what is said
abbrev pub status_of_stop : Stop → ℕ
status_of_stop stops.Memory = 3
status_of_stop stops.Unwritten = 4
status_of_stop (stops.Ended status said) = status

abbrev pub line_of_stop : Series → Stop → List ℕ
line_of_stop series stops.Memory = memory_said series
line_of_stop series stops.Unwritten =
    if series.json then device_line (Json (document_of series.told))
    else codes "threefield: device fault\n"
line_of_stop series (stops.Ended status said) = said.items

-- ---- how it ends

-- the name of the text of answers or orders, if any are evaluated
abbrev pub answers_of : Told → Option (List ℕ)
answers_of (Answers name aids) = Some name.now
answers_of (Orders name aids) = Some name.now
answers_of _ = None

-- the text of that name, and an empty one where there is none
abbrev pub IsNamed : Texts → Option (List ℕ) → List ℕ → Type 0
IsNamed texts None text = text ≡ []
IsNamed texts (Some name) text = IsTextOf (texts name) text

pub record AreBeside (texts : Texts) (told : Told) (beside : BesideData) : Type 0 where
  pub answers : IsNamed texts (answers_of told) beside.answers
  pub bounds : IsNamed texts (bound_of told) beside.bounds

-- all lines were written
pub record EndsTold (texts : Texts) (series : Series) (writer : DeviceUse) (says : List ℕ → Type 0)
    (status : ℕ) : Type 0 where
  pub instance : List ℕ
  pub is_file : IsTextOf (texts series.input.now) instance
  pub beside : BesideData
  pub are_beside : AreBeside texts series.told beside
  pub lines : WritesAll series instance beside writer
  pub ends : status ≡ 0
  pub said : says []

-- the lines before a stop were written, and why there are no more is said
pub record EndsStopped (texts : Texts) (series : Series) (writer : DeviceUse)
    (says : List ℕ → Type 0) (status : ℕ) : Type 0 where
  pub instance : List ℕ
  pub is_file : IsTextOf (texts series.input.now) instance
  pub beside : BesideData
  pub are_beside : AreBeside texts series.told beside
  pub stop : Stop
  pub is : WritesUntil series instance beside writer stop
  pub ends : status ≡ status_of_stop stop
  pub said : says (line_of_stop series stop)

-- the file, or a text beside it, was not read, which is said as text or as JSON; or there was
-- no memory to say so
abbrev pub says_as : Series → (List ℕ → Type 0) → List ℕ → Type 0
says_as series says line = says (if series.json then fault_json None line else line)

-- what was said in memory was said as JSON, with its status; or there was no memory for that
pub record IsSaidAgain {E : Type 0} (contents : E → Option (List ℕ)) (kept : Memory) (wanted : ℕ)
    (old new : Counted E) (status : ℕ) : Type 0 where
  pub whole : has_failed kept.errors ≡ false
  pub ends : status ≡ wanted
  pub wrote : Wrote contents old new (fault_json None (inner_of kept.errors).items)

abbrev pub SaidKept : {E : Type 0} → (E → Option (List ℕ)) → Memory → ℕ → Counted E → Counted E → ℕ
    → Type 0
SaidKept contents kept wanted old new status =
    IsSaidAgain contents kept wanted old new status
    ⊎ ((status ≡ 3)
    × Wrote contents old new (codes "{\"version\":1,\"fault\":\"want of memory\"}\n"))

pub record IsWanting (series : Series) (writer : DeviceUse) (says : List ℕ → Type 0) (status : ℕ)
    : Type 0 where
  pub unwritten : Keeps writer.before writer.after
  pub ends : status ≡ 3
  pub said : says (memory_said series)

abbrev pub IsUnreadFor : Texts → Series → DeviceUse → (List ℕ → Type 0) → ℕ → Type 0
IsUnreadFor texts series writer says status =
    IsUnread texts writer (says_as series says) status ⊎ IsWanting series writer says status

abbrev pub EndsSeries : Texts → Series → DeviceUse → (List ℕ → Type 0) → ℕ → Type 0
EndsSeries texts series writer says status =
    EndsTold texts series writer says status ⊎ EndsStopped texts series writer says status
    ⊎ IsUnreadFor texts series writer says status
