-- The line that the program writes on standard error where a run gives no answer.
use Rattle.std.specs.Prelude.{ℕ, List, [], ◌∷◌, ◌++◌, codes, map}
use Rattle.std.specs.Fmt.{decimal}
use Rattle.tf_model.specs.declared.prepare.Field.{Field}
use Rattle.tf_model.specs.declared.prepare.Field.TheVariants as fields
use Rattle.tf_model.specs.declared.prepare.Refusal.{Refusal}
use Rattle.tf_model.specs.declared.prepare.Refusal.TheVariants as refusals
use Rattle.tf_read.specs.declared.fault.ReadFault.{ReadFault}
use Rattle.tf_read.specs.declared.fault.ReadFault.TheVariants as texts
use Rattle.tf_random.specs.declared.run_random.RandomFault.{RandomFault}
use Rattle.tf_random.specs.declared.run_random.RandomFault.TheVariants as random_faults
use Rattle.tf_text.specs.AnswerText.{line_text}
use Rattle.tf_text.specs.declared.answer.fault.AnswerFault.{AnswerFault}
use Rattle.tf_text.specs.declared.answer.fault.AnswerFault.TheVariants as answers
use Rattle.tf_engine.specs.VerdictLine.{piece_fault_words}
use Rattle.tf_engine.specs.declared.fault.RunFault.{RunFault}
use Rattle.tf_engine.specs.declared.fault.RunFault.TheVariants.{Notation, Text, Task, Cycle, Answer, Pieces, Device, OutOfMemory}

-- each fault by its name and its arguments
abbrev pub read_fault_words : ReadFault → List (List ℕ)
read_fault_words texts.TooLong = codes "TooLong" ∷ []
read_fault_words (texts.BadNumber line) = codes "BadNumber" ∷ decimal line ∷ []
read_fault_words (texts.NumberTooLarge line) = codes "NumberTooLarge" ∷ decimal line ∷ []
read_fault_words (texts.Negative line) = codes "Negative" ∷ decimal line ∷ []
read_fault_words texts.EndsEarly = codes "EndsEarly" ∷ []
read_fault_words texts.NoInstance = codes "NoInstance" ∷ []
read_fault_words (texts.NotAFlowShop line) = codes "NotAFlowShop" ∷ decimal line ∷ []
read_fault_words texts.BadPair = codes "BadPair" ∷ []
read_fault_words (texts.BadLine line) = codes "BadLine" ∷ decimal line ∷ []
read_fault_words (texts.BadCost line) = codes "BadCost" ∷ decimal line ∷ []
read_fault_words texts.NoJobs = codes "NoJobs" ∷ []
read_fault_words texts.TooManyJobs = codes "TooManyJobs" ∷ []
read_fault_words texts.TooManyArcs = codes "TooManyArcs" ∷ []
read_fault_words (texts.BadArc line) = codes "BadArc" ∷ decimal line ∷ []
read_fault_words texts.OutOfMemory = codes "OutOfMemory" ∷ []

abbrev pub field_word : Field → List ℕ
field_word fields.Weight = codes "weight"
field_word fields.Due = codes "due"
field_word fields.Release = codes "release"
field_word fields.Cost = codes "cost"

abbrev pub refusal_words : Refusal → List (List ℕ)
refusal_words refusals.NoSolver = codes "NoSolver" ∷ []
refusal_words refusals.TooManyJobs = codes "TooManyJobs" ∷ []
refusal_words refusals.MachinesMissing = codes "MachinesMissing" ∷ []
refusal_words refusals.MachinesDisagree = codes "MachinesDisagree" ∷ []
refusal_words (refusals.MachineCount m) = codes "MachineCount" ∷ decimal m ∷ []
refusal_words (refusals.WrongTimes job) = codes "WrongTimes" ∷ decimal job ∷ []
refusal_words (refusals.MissingField job field) =
    codes "MissingField" ∷ decimal job ∷ field_word field ∷ []
refusal_words (refusals.ZeroTime job) = codes "ZeroTime" ∷ decimal job ∷ []
refusal_words refusals.TotalTooLarge = codes "TotalTooLarge" ∷ []
refusal_words refusals.OutOfMemory = codes "OutOfMemory" ∷ []

abbrev pub answer_fault_words : AnswerFault → List (List ℕ)
answer_fault_words answers.TooLong = codes "TooLong" ∷ []
answer_fault_words (answers.BadLine line) = codes "BadLine" ∷ decimal line ∷ []
answer_fault_words (answers.NumberTooLarge line) = codes "NumberTooLarge" ∷ decimal line ∷ []
answer_fault_words answers.BadNotation = codes "BadNotation" ∷ []
answer_fault_words answers.EndsEarly = codes "EndsEarly" ∷ []
answer_fault_words answers.OutOfMemory = codes "OutOfMemory" ∷ []

-- the line of a refusal, and that of an answer text that is refused
abbrev pub refused_line : List (List ℕ) → List ℕ
refused_line words = codes "threefield: refused: " ++ line_text words

abbrev pub answer_refused_line : List (List ℕ) → List ℕ
answer_refused_line words = codes "threefield: refused: answer " ++ line_text words

abbrev pub fault_line : {A : Type 0} → RunFault A → List ℕ
fault_line (Notation fault) = refused_line (codes "NotationFault" ∷ decimal fault.byte ∷ [])
fault_line (Text fault) = refused_line (read_fault_words fault)
fault_line (Task refusal) = refused_line (refusal_words refusal)
fault_line (Cycle jobs) = refused_line (codes "Cycle" ∷ map decimal jobs)
fault_line (Answer fault) = answer_refused_line (answer_fault_words fault)
fault_line (Pieces fault) = answer_refused_line (piece_fault_words fault)
fault_line OutOfMemory = codes "threefield: want of memory\n"
fault_line Device = codes "threefield: device fault\n"

-- the line where there is no random table
abbrev pub no_table_line : RandomFault → List ℕ
no_table_line (random_faults.Notation fault) =
    refused_line (codes "NotationFault" ∷ decimal fault.byte ∷ [])
no_table_line random_faults.NotInATable = refused_line (codes "NoTable" ∷ [])
no_table_line random_faults.OutOfMemory = codes "threefield: want of memory\n"
