-- Why a run gives no answer, as definitions see it.
use Rattle.std.specs.Prelude.{ℕ, List, Bool, true, false, not, ◌&&◌, ◌||◌, Option, None, Some, Result, Ok, Err}
use Rattle.std.specs.Option.{option_map_or}
use Rattle.tf_model.specs.declared.prepare.Refusal.{Refusal}
use Rattle.tf_read.specs.declared.fault.ReadFault.{ReadFault}
use Rattle.tf_read.specs.declared.fault.ReadFault.TheVariants as reads
use Rattle.tf_schedule.specs.declared.schedule.PieceFault.{PieceFault}
use Rattle.tf_text.specs.declared.answer.fault.AnswerFault.{AnswerFault}
use Rattle.tf_text.specs.declared.answer.fault.AnswerFault.TheVariants as answers
use Rattle.tf_engine.specs.declared.fault.RunFault.{RunFault}
use Rattle.tf_engine.specs.declared.fault.RunFault.TheVariants.{Notation, Text, Task, Cycle, Answer, Pieces, Device, OutOfMemory}

-- why a request is refused
pub data Refused : Type 0 where
  ByNotation : ℕ → Refused  -- the problem line is no notation, from this byte on
  ByText : ReadFault → Refused  -- the instance text is at fault
  ByTask : Refusal → Refused  -- the instance is no task of the problem
  ByCycle : List ℕ → Refused  -- these jobs are a cycle of the arcs
  ByAnswer : AnswerFault → Refused  -- the answer text is at fault
  ByPieces : PieceFault → Refused  -- the answer's pieces are no schedule

-- what ends a run without an answer
pub data Stop : Type 0 where
  Refuses : Refused → Stop
  Fails : Stop  -- a device failed
  Wants : Stop  -- memory was wanting

abbrev pub stop_of : {A : Type 0} → RunFault A → Stop
stop_of (Notation fault) = Refuses (ByNotation fault.byte)
stop_of (Text fault) = Refuses (ByText fault)
stop_of (Task refusal) = Refuses (ByTask refusal)
stop_of (Cycle jobs) = Refuses (ByCycle jobs)
stop_of (Answer fault) = Refuses (ByAnswer fault)
stop_of (Pieces fault) = Refuses (ByPieces fault)
stop_of Device = Fails
stop_of OutOfMemory = Wants

abbrev pub is_failure : Stop → Bool
is_failure Fails = true
is_failure _ = false

abbrev pub is_refusal : Stop → Bool
is_refusal (Refuses refused) = true
is_refusal _ = false

-- a text that is too long, of which the end is not read
abbrev pub is_too_long : Stop → Bool
is_too_long (Refuses (ByText reads.TooLong)) = true
is_too_long (Refuses (ByAnswer answers.TooLong)) = true
is_too_long _ = false

-- a refusal for the sake of the answer text or of its pieces, or one that comes after it was read: a
-- cycle
abbrev pub is_on_answer : Stop → Bool
is_on_answer (Refuses (ByAnswer fault)) = true
is_on_answer (Refuses (ByPieces fault)) = true
is_on_answer (Refuses (ByCycle jobs)) = true
is_on_answer _ = false

-- a refusal for the sake of the problem line or of the instance
abbrev pub is_on_instance : Stop → Bool
is_on_instance s = is_refusal s && not (is_on_answer s)

-- a refusal that comes after the whole answer text was read
abbrev pub is_past_answer : Stop → Bool
is_past_answer s = is_on_answer s && not (is_too_long s)

-- a refusal that comes after the whole instance text was read
abbrev pub is_past_text : Stop → Bool
is_past_text s = is_refusal s && (is_on_answer s || not (is_too_long s))

-- how a run ends: by a stop, or with a value
abbrev pub end_of : {X A : Type 0} → Result X (RunFault A) → Option Stop
end_of (Ok x) = None
end_of (Err e) = Some (stop_of e)

-- it ends by such a stop
abbrev pub ends_by : (Stop → Bool) → Option Stop → Bool
ends_by is_such end = option_map_or is_such end false

-- it ends with a value, or by such a stop
abbrev pub answers_or : (Stop → Bool) → Option Stop → Bool
answers_or is_such end = option_map_or is_such end true

-- what is said only after the whole instance text was read
abbrev pub is_of_whole : {X A : Type 0} → Result X (RunFault A) → Bool
is_of_whole result = answers_or is_past_text (end_of result)
