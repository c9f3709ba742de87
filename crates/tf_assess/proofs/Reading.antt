-- Reading an instance and an answer to it.
use Rattle.std.proofs.Common.{◌≡◌, ℕ, true, false, List, Option, Some, Result, Ok, Err, Bool, cond, refl, inl, inr}
use Rattle.tf_model.specs.declared.problem.Problem.{Problem}
use Rattle.tf_model.specs.declared.prepare.Refusal.{Refusal}
use Rattle.tf_model.specs.declared.prepare.Refusal.TheVariants.{NoSolver}
use Rattle.tf_model.specs.Outcome.{◌>>=◌}
use Rattle.tf_notation.specs.Reading.{notation}
use Rattle.tf_text.specs.declared.counted.Counted.{Counted}
use Rattle.tf_text.specs.Counted.{inner_of, has_failed, use_of}
use Rattle.tf_posed.specs.ProblemData.{ProblemData, is_covered}
use Rattle.tf_prepare.specs.Preparing.{prepared_in}
use Rattle.tf_prepare.specs.TimedData.{TimedData}
use Rattle.tf_engine.specs.declared.fault.RunFault.{RunFault}
use Rattle.tf_engine.specs.Faults.{Refused, ByNotation, ByTask, Stop, Refuses, Fails, Wants, is_on_answer, is_on_instance, stop_of}
use Rattle.tf_engine.specs.Parts.{ReadsSheet, StopsReading}
use Rattle.tf_engine.specs.Checking.{IsOfAnswer}
use Rattle.tf_engine.specs.Refusal.{refused_by}
use Rattle.tf_engine.specs.RequestData.{RequestData}
use Rattle.tf_engine.proofs.Devices.{instance_later}
use Rattle.tf_engine.proofs.Unread.{text_for}
use Rattle.tf_bounding.specs.ShopTimes.{timed_said}
use Rattle.tf_bounding.proofs.ShopTimes.{timed_first}
use Rattle.tf_bounding.specs.RunBounding.{problem_task_in, problem_task_for, IsRefusedBound, ReadsProblemTask}
use Rattle.tf_assess.specs.declared.case_read.ProblemCase.{ProblemCase}
use Rattle.tf_assess.specs.RunAssessing.{IsRefusedAssessment, HasProblemReaderFailed, ReadsProblemCase}

-- no refusal of the problem line or of the instance is for the answer's sake
refusal_first : (request : RequestData) (text : List ℕ) (refused : Refused)
    → problem_task_for request text ≡ Err refused → is_on_answer (Refuses refused) ≡ false
refusal_first request text refused h = by_notation (notation request.problem) h
  where
    by_task : (r : Result ProblemData Refusal) → refused_by ByTask r ≡ Err refused
        → is_on_answer (Refuses refused) ≡ false
    by_task (Ok task) e = cc
    by_task (Err refusal) e = let is : refused ≡ ByTask refusal = cc in rw is refl

    by_timed : (problem : Problem) (r : Result TimedData Refused)
        → ((other : Refused) → r ≡ Err other → is_on_answer (Refuses other) ≡ false)
        → (r >>= λ timed. refused_by ByTask (prepared_in timed problem request.machines))
        ≡ Err refused
        → is_on_answer (Refuses refused) ≡ false
    by_timed problem (Ok timed) first e = by_task (prepared_in timed problem request.machines) e
    by_timed problem (Err other) first e =
        let is : refused ≡ other = cc in rw is (first other refl)

    by_bounded : (problem : Problem) (b : Bool)
        → ((cond b (Ok problem) (Err (ByTask NoSolver))) >>= λ p. problem_task_in request p text)
        ≡ Err refused
        → is_on_answer (Refuses refused) ≡ false
    by_bounded problem false e = let is : refused ≡ ByTask NoSolver = cc in rw is refl
    by_bounded problem true e =
        by_timed problem (timed_said request.form problem.env text)
        (timed_first request.form problem.env text) e

    by_notation : (r : Result Problem ℕ)
        → ((refused_by ByNotation r
        >>= λ problem. cond (is_covered problem) (Ok problem) (Err (ByTask NoSolver)))
        >>= λ problem. problem_task_in request problem text) ≡ Err refused
        → is_on_answer (Refuses refused) ≡ false
    by_notation (Ok problem) e = by_bounded problem (is_covered problem) e
    by_notation (Err byte) e = let is : refused ≡ ByNotation byte = cc in rw is refl

pub bound_first : (request : RequestData) (text : List ℕ) (refused : Refused)
    → IsRefusedBound request text refused → is_on_answer (Refuses refused) ≡ false
bound_first request text refused (inl h) = refusal_first request text refused h
bound_first request text refused (inr (same, task)) = rw same refl

instance_first : (request : RequestData) (text : List ℕ) (R : Type 0) (s : Stop)
    → StopsReading (IsRefusedBound request text) R s → is_on_answer s ≡ false
instance_first request text R Fails h = refl
instance_first request text R Wants h = refl
instance_first request text R (Refuses refused) h = bound_first request text refused h

-- and none of the answer text is for the instance's sake
answer_last : (text : List ℕ) (R : Type 0) (s : Stop) → StopsReading (IsOfAnswer text) R s
    → is_on_instance s ≡ false
answer_last text R Fails h = refl
answer_last text R Wants h = refl
answer_last text R (Refuses refused) (fault, is, said) = rw is refl

-- a part that reads stops for a reason that is one of others
pub stops_as : (P Q : Refused → Type 0) (F G : Type 0) → ((refused : Refused) → P refused → Q refused)
    → (F → G) → (s : Stop) → StopsReading P F s → StopsReading Q G s
stops_as P Q F G more failed (Refuses refused) h = more refused h
stops_as P Q F G more failed Fails h = failed h
stops_as P Q F G more failed Wants h = tt

module _ (A T U : Type 0) (request : RequestData) (remaining : T → Option (List ℕ))
    (old new : Counted T) (giving : U → Option (List ℕ)) (before : Counted U) where
  -- no task was read
  pub case_unasked : (e : RunFault A) → ReadsProblemTask request remaining old new (Err e)
      → ReadsProblemCase request remaining old new giving before before (Err e)
  case_unasked e had =
      let (said, is_said) = text_for (giving (inner_of before)) in
      record {
        text = had.text;
        is_all = had.is_all;
        answer_text = said;
        is_whole_answer = is_said;
        given = stops_as (IsRefusedBound request had.text)
            (IsRefusedAssessment request had.text said) (has_failed new ≡ true)
            (HasProblemReaderFailed request had.text (use_of remaining old new)
            (use_of giving before before))
            (λ refused h. inl h) (λ failed. inl failed) (stop_of e) had.given;
        readers = record {
          instance = had.reader;
          answer = inl (
            refl,
            instance_first request had.text (has_failed new ≡ true) (stop_of e) had.given,
          );
        };
      }

  module _ (after : Counted U) (k : ProblemData)
      (had : ReadsProblemTask {A = A} request remaining old new (Ok k)) where
    -- the answer text says no sheet
    pub case_unsaid : (e : RunFault A) → ReadsSheet giving before after (Err e)
        → ReadsProblemCase request remaining old new giving before after (Err e)
    case_unsaid e said = record {
      text = had.text;
      is_all = had.is_all;
      answer_text = said.text;
      is_whole_answer = said.is_all;
      given = stops_as (IsOfAnswer said.text) (IsRefusedAssessment request had.text said.text)
          (has_failed after ≡ true)
          (HasProblemReaderFailed request had.text (use_of remaining old new)
          (use_of giving before after))
          (λ refused h. inr (rw had.given refl, h))
          (λ failed. inr (rw had.given refl, failed)) (stop_of e) said.given;
      readers = record {
        instance = instance_later had.reader (Some (stop_of e));
        answer = inr (
          answer_last said.text (has_failed after ≡ true) (stop_of e) said.given,
          said.reader,
        );
      };
    }

    -- both texts were read
    pub case_had : (case : ProblemCase A) → case.task ≡ k
        → ReadsSheet {A = A} giving before after (Ok case.sheet)
        → ReadsProblemCase request remaining old new giving before after (Ok case)
    case_had case same said = record {
      text = had.text;
      is_all = had.is_all;
      answer_text = said.text;
      is_whole_answer = said.is_all;
      given = record { meant = rw same had.given; said = said.given };
      readers = record { instance = had.reader; answer = inr (refl, said.reader) };
    }
