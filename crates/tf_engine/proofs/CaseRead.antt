-- Reading an instance and an answer to it.
use Rattle.std.proofs.Common.{◌≡◌, ℕ, true, false, List, [], Option, None, Some, Result, Ok, Err, IsOk, refl, sym, ap, subst, ◌∙◌, inl, inr, arith}
use Rattle.std.proofs.KnownBytes.{Consumes-nil}
use Rattle.tf_model.specs.SchedulingTask.{SchedulingTask}
use Rattle.tf_model.specs.declared.problem.Problem.{Problem}
use Rattle.tf_model.specs.declared.class.Class.{Class}
use Rattle.tf_model.specs.declared.prepare.Refusal.TheVariants.{NoSolver}
use Rattle.tf_model.specs.declared.prepare.Refusal.{Refusal}
use Rattle.tf_model.specs.ClassTable.{class_of}
use Rattle.tf_model.specs.InstanceData.{InstanceData}
use Rattle.tf_model.specs.Outcome.{◌>>=◌}
use Rattle.tf_model.specs.Prepare.{prepared}
use Rattle.tf_notation.specs.Reading.{notation}
use Rattle.tf_read.specs.declared.fault.ReadFault.{ReadFault}
use Rattle.tf_text.specs.declared.counted.Counted.{Counted}
use Rattle.tf_text.specs.Counted.{inner_of, has_failed, use_of}
use Rattle.tf_engine.specs.declared.case.Asked.{Asked}
use Rattle.tf_engine.specs.declared.case.Case.{Case}
use Rattle.tf_engine.specs.declared.fault.RunFault.{RunFault}
use Rattle.tf_engine.specs.CaseParts.{IsAsked, ReadsAsked, ReadsCase}
use Rattle.tf_engine.specs.Checking.{IsRefusedCheck, HasReaderFailed, IsOfAnswer}
use Rattle.tf_engine.specs.Devices.{LeavesInstance}
use Rattle.tf_engine.specs.Faults.{Refused, ByNotation, ByText, ByTask, Stop, Refuses, Fails, Wants, is_on_answer, is_on_instance, stop_of, end_of}
use Rattle.tf_engine.specs.Parts.{ReadsTo, ReadsSheet, StopsReading}
use Rattle.tf_engine.specs.Refusal.{refused_by, with_class, problem_for, instance_in, task_in, task_for}
use Rattle.tf_engine.specs.RequestData.{RequestData}
use Rattle.tf_engine.proofs.AcceptedAgain.{meant_by}
use Rattle.tf_engine.proofs.Devices.{instance_later}
use Rattle.tf_engine.proofs.Unread.{text_for, refused_task}

-- a refusal that is for the instance's sake, and not for the answer's
abbrev IsFirst : Refused → Type 0
IsFirst refused =
    (is_on_answer (Refuses refused) ≡ false) × (is_on_instance (Refuses refused) ≡ true)

-- each of the problem line or of the instance is one
pub refusal_first : (request : RequestData) (text : List ℕ) (refused : Refused)
    → task_for request text ≡ Err refused
    → (is_on_answer (Refuses refused) ≡ false) × (is_on_instance (Refuses refused) ≡ true)
refusal_first request text refused h = by_notation (notation request.problem) h
  where
    by_task : (r : Result SchedulingTask Refusal) → refused_by ByTask r ≡ Err refused
        → IsFirst refused
    by_task (Ok task) e = cc
    by_task (Err refusal) e = let is : refused ≡ ByTask refusal = cc in rw is (refl, refl)

    by_instance : (problem : Problem) (r : Result InstanceData ReadFault)
        → (refused_by ByText r
        >>= λ instance. refused_by ByTask (prepared instance problem request.machines))
        ≡ Err refused
        → IsFirst refused
    by_instance problem (Ok instance) e = by_task (prepared instance problem request.machines) e
    by_instance problem (Err fault) e = let is : refused ≡ ByText fault = cc in rw is (refl, refl)

    by_class : (problem : Problem) (o : Option Class)
        → (with_class problem o >>= λ p. task_in request p text) ≡ Err refused
        → IsFirst refused
    by_class problem None e = let is : refused ≡ ByTask NoSolver = cc in rw is (refl, refl)
    by_class problem (Some class) e = by_instance problem (instance_in request.form text) e

    by_notation : (r : Result Problem ℕ)
        → ((refused_by ByNotation r >>= λ problem. with_class problem (class_of problem))
        >>= λ problem. task_in request problem text) ≡ Err refused
        → IsFirst refused
    by_notation (Ok problem) e = by_class problem (class_of problem) e
    by_notation (Err byte) e = let is : refused ≡ ByNotation byte = cc in rw is (refl, refl)

instance_first : (request : RequestData) (text : List ℕ) (R : Type 0) (s : Stop)
    → StopsReading (λ refused. task_for request text ≡ Err refused) R s → is_on_answer s ≡ false
instance_first request text R Fails h = refl
instance_first request text R Wants h = refl
instance_first request text R (Refuses refused) h = (refusal_first request text refused h).0

-- and none of the answer text is for the instance's sake
answer_last : (text : List ℕ) (R : Type 0) (s : Stop) → StopsReading (IsOfAnswer text) R s
    → is_on_instance s ≡ false
answer_last text R Fails h = refl
answer_last text R Wants h = refl
answer_last text R (Refuses refused) (fault, is, said) = rw is refl

-- a part that reads stops for a reason that is one of others
stops_as : (P Q : Refused → Type 0) (F G : Type 0) → ((refused : Refused) → P refused → Q refused)
    → (F → G) → (s : Stop) → StopsReading P F s → StopsReading Q G s
stops_as P Q F G more failed (Refuses refused) h = more refused h
stops_as P Q F G more failed Fails h = failed h
stops_as P Q F G more failed Wants h = tt

-- what reading an instance leaves of its reader
pub instance_left : {X A T : Type 0} (asked : Result Problem Refused) (problem : Problem)
    (says : List ℕ → Result X Refused) (remaining : T → Option (List ℕ)) (old new : Counted T)
    (result : Result X (RunFault A)) → asked ≡ Ok problem → ReadsTo says remaining old new result
    → LeavesInstance asked remaining old new (end_of result)
instance_left asked problem says remaining old new (Ok x) ok had = record {
  unread = rw ok tt;
  unfailed = λ is h. had.unfailed;
  wanting = λ h. cc;
  ended = λ is h. had.ended refl;
  pulled = had.pulled;
  counted = had.counted;
}
instance_left asked problem says remaining old new (Err e) ok had = record {
  unread = rw ok tt;
  unfailed = λ is h. had.unhidden h;
  wanting = λ h. had.wanting (let same : stop_of e ≡ Wants = cc in same);
  ended = λ is h. had.ended h;
  pulled = had.pulled;
  counted = had.counted;
}

-- nothing is read of an instance whose problem line is refused
pub instance_unread : {T : Type 0} (asked : Result Problem Refused) (refused : Refused)
    (remaining : T → Option (List ℕ)) (old : Counted T) (end : Option Stop) → asked ≡ Err refused
    → end ≡ Some (Refuses refused) → LeavesInstance asked remaining old old end
instance_unread asked refused remaining old end is_refused same =
    let none : IsOk asked → ⊥ = λ ok. let both : IsOk {T = Problem} (Err refused) = subst IsOk is_refused ok in cc in
    record {
      unread = rw is_refused (same, refl);
      unfailed = λ ok h. absurd (none ok);
      wanting = λ h. inl refl;
      ended = λ ok h. absurd (none ok);
      pulled = ([], omega arith, Consumes-nil (remaining (inner_of old)));
      counted = omega arith;
    }

-- ---- what was asked for

module _ (A T : Type 0) (request : RequestData) (remaining : T → Option (List ℕ))
    (old : Counted T) where
  -- the problem line was refused
  pub asked_unread : (e : RunFault A) (refused : Refused) → stop_of e ≡ Refuses refused
      → problem_for request.problem ≡ Err refused → ReadsAsked request remaining old old (Err e)
  asked_unread e refused same is_refused =
      let (text, is) = text_for (remaining (inner_of old)) in
      record {
        text = text;
        is_all = is;
        given = subst
            (StopsReading (λ refused. task_for request text ≡ Err refused) (has_failed old ≡ true))
            (sym same) (refused_task request text refused is_refused);
        reader = instance_unread (problem_for request.problem) refused remaining old
            (Some (stop_of e)) is_refused (ap Some same);
      }

  module _ (new : Counted T) (problem : Problem) (ok : problem_for request.problem ≡ Ok problem)
    where
      -- no task was read
      pub asked_untasked : (e : RunFault A)
          → ReadsTo (task_in request problem) remaining old new (Err e)
          → ReadsAsked request remaining old new (Err e)
      asked_untasked e had = record {
        text = had.text;
        is_all = had.is_all;
        given = stops_as (λ refused. task_in request problem had.text ≡ Err refused)
            (λ refused. task_for request had.text ≡ Err refused) (has_failed new ≡ true)
            (has_failed new ≡ true) (λ refused h. meant_by request problem had.text ok ∙ h)
            (λ failed. failed) (stop_of e) had.given;
        reader = instance_left (problem_for request.problem) problem (task_in request problem)
            remaining old new (Err e) ok had;
      }

      -- a task was
      pub asked_had : (asked : Asked A) → asked.problem ≡ problem
          → ReadsTo {A = A} (task_in request problem) remaining old new (Ok asked.task)
          → ReadsAsked request remaining old new (Ok asked)
      asked_had asked same had = record {
        text = had.text;
        is_all = had.is_all;
        given = record {
          problem = ok ∙ ap Ok (sym same);
          meant = meant_by request problem had.text ok ∙ had.given;
        };
        reader = instance_left (problem_for request.problem) problem (task_in request problem)
            remaining old new (Ok asked.task) ok had;
      }

-- ---- and an answer to it

module _ (A T U : Type 0) (request : RequestData) (remaining : T → Option (List ℕ))
    (old new : Counted T) (giving : U → Option (List ℕ)) (before : Counted U) where
  -- nothing was asked for
  pub case_unasked : (e : RunFault A) → ReadsAsked request remaining old new (Err e)
      → ReadsCase request remaining old new giving before before (Err e)
  case_unasked e had =
      let (said, is_said) = text_for (giving (inner_of before)) in
      record {
        text = had.text;
        is_all = had.is_all;
        answer_text = said;
        is_whole_answer = is_said;
        given = stops_as (λ refused. task_for request had.text ≡ Err refused)
            (IsRefusedCheck request had.text said) (has_failed new ≡ true)
            (HasReaderFailed request had.text (use_of remaining old new)
            (use_of giving before before))
            (λ refused h. inl h) (λ failed. inl failed) (stop_of e) had.given;
        readers = record {
          instance = had.reader;
          answer = inl (
            refl,
            instance_first request had.text (has_failed new ≡ true) (stop_of e) had.given,
          );
        };
      }

  module _ (after : Counted U) (asked : Asked A)
      (had : ReadsAsked request remaining old new (Ok asked)) where
    -- the answer text says no sheet
    pub case_unsaid : (e : RunFault A) → ReadsSheet giving before after (Err e)
        → ReadsCase request remaining old new giving before after (Err e)
    case_unsaid e said = record {
      text = had.text;
      is_all = had.is_all;
      answer_text = said.text;
      is_whole_answer = said.is_all;
      given = stops_as (IsOfAnswer said.text) (IsRefusedCheck request had.text said.text)
          (has_failed after ≡ true)
          (HasReaderFailed request had.text (use_of remaining old new) (use_of giving before after))
          (λ refused h. inr (rw had.given.meant refl, h))
          (λ failed. inr (rw had.given.meant refl, failed)) (stop_of e) said.given;
      readers = record {
        instance = instance_later had.reader (Some (stop_of e));
        answer = inr (
          answer_last said.text (has_failed after ≡ true) (stop_of e) said.given,
          said.reader,
        );
      };
    }

    -- both texts were read
    pub case_had : (case : Case A) → case.asked ≡ asked
        → ReadsSheet {A = A} giving before after (Ok case.sheet)
        → ReadsCase request remaining old new giving before after (Ok case)
    case_had case same said = record {
      text = had.text;
      is_all = had.is_all;
      answer_text = said.text;
      is_whole_answer = said.is_all;
      given = record {
        asked = subst (IsAsked request had.text) (sym same) had.given;
        said = said.given;
      };
      readers = record { instance = had.reader; answer = inr (refl, said.reader) };
    }
