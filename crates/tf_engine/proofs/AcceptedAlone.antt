-- An answer text that the definitions accept gets no other verdict.
use Rattle.std.proofs.Common.{◌≡◌, ℕ, List, Option, Some, Result, Ok, Err, false, refl, sym, ◌∙◌, subst, inl, inr}
use Rattle.tf_model.specs.SchedulingTask.{SchedulingTask}
use Rattle.tf_check.specs.Accepted.{IsAccepted}
use Rattle.tf_check.proofs.Verdicts.{reason_excludes}
use Rattle.tf_text.specs.Counted.{DeviceUse}
use Rattle.tf_text.specs.Input.{IsTextOf}
use Rattle.tf_text.specs.AnswerText.{SheetData}
use Rattle.tf_engine.specs.declared.run_check.Checked.{Checked}
use Rattle.tf_engine.specs.declared.run_check.Checked.TheVariants.{Accepted, OtherTask, Rejected}
use Rattle.tf_engine.specs.RequestData.{RequestData}
use Rattle.tf_engine.specs.declared.fault.RunFault.{RunFault}
use Rattle.tf_engine.specs.Checking.{AcceptsUnlessStopped, IsFor, IsVerdict, IsChecked, IsRefusedCheck, check_run}
use Rattle.tf_engine.specs.Faults.{Refused, Stop, Refuses, Fails, Wants, is_refusal, stop_of}
use Rattle.tf_engine.specs.Runs.{IsOutcome, Leaves}

-- the text of a reader whose bytes are known is these bytes
text_is : (known : Option (List ℕ)) (all text : List ℕ) → known ≡ Some all → IsTextOf known text
    → text ≡ all
text_is known all text e is = let known_text : IsTextOf (Some all) text = subst (λ k. IsTextOf k text) e is in
    known_text

-- a sheet that is accepted gets no other verdict
verdict_is : (k : SchedulingTask) (sheet : SheetData) (checked : Checked) → IsFor k sheet
    → IsAccepted k sheet.answer → IsVerdict k sheet checked → checked ≡ Accepted
verdict_is k sheet Accepted is accepted h = refl
verdict_is k sheet OtherTask is accepted h = absurd (h is)
verdict_is k sheet (Rejected reason) is accepted h =
    absurd (reason_excludes k sheet.answer reason h.1 accepted)

-- nor does a text
checked_is : (request : RequestData) (text said : List ℕ) (checked : Checked)
    → IsChecked request text said Accepted → IsChecked request text said checked
    → checked ≡ Accepted
checked_is request text said checked good h =
    let task : h.task ≡ good.task = let both : Ok h.task ≡ Ok good.task = sym h.meant ∙ good.meant in
    cc in
    let sheet : h.sheet ≡ good.sheet = let both : Ok h.sheet ≡ Ok good.sheet = sym h.said ∙ good.said in
    cc in
    verdict_is good.task good.sheet checked good.verdict.0 good.verdict.1
    (subst (λ k. IsVerdict k good.sheet checked) task
    (subst (λ s. IsVerdict h.task s checked) sheet h.verdict))

-- texts that are checked are not refused
not_refused : (request : RequestData) (text said : List ℕ) (checked : Checked) (refused : Refused)
    → IsChecked request text said checked → IsRefusedCheck request text said refused → ⊥
not_refused request text said checked refused is (inl no_task) =
    let both = sym is.meant ∙ no_task in cc
not_refused request text said checked refused is (inr (meant, (fault, because, no_sheet))) =
    let both = sym is.said ∙ no_sheet in cc

stops : (Says : List ℕ → Type 0) (P : Refused → Type 0) (R : Type 0) (writer : DeviceUse)
    → ((refused : Refused) → P refused → ⊥) → (s : Stop) → Leaves Says P R writer s
    → is_refusal s ≡ false
stops Says P R writer never (Refuses refused) (because, kept) = absurd (never refused because)
stops Says P R writer never Fails h = refl
stops Says P R writer never Wants h = refl

-- so a check accepts texts that are all that is known
pub accepts_outcome : {A : Type 0} (request : RequestData) (instance answer writer : DeviceUse)
    (result : Result Checked (RunFault A))
    → IsOutcome (check_run request instance answer) writer result → (text said : List ℕ)
    → instance.before ≡ Some text → answer.before ≡ Some said
    → IsChecked request text said Accepted → AcceptsUnlessStopped result
accepts_outcome request instance answer writer result is text said known known_answer good =
    ended result is
  where
    its : (t s : List ℕ) → IsTextOf instance.before t → IsTextOf answer.before s
        → IsChecked request t s Accepted
    its t s all all_said =
        rw (
          text_is instance.before text t known all,
          text_is answer.before said s known_answer all_said,
        ) good

    ended : {A : Type 0} (r : Result Checked (RunFault A))
        → IsOutcome (check_run request instance answer) writer r → AcceptsUnlessStopped r
    ended (Ok checked) is =
        let (out, says, appended) = is.outcome in
        checked_is request is.texts.0 is.texts.1 checked
        (its is.texts.0 is.texts.1 is.are_all.0 is.are_all.1) says.0
    ended (Err e) is =
        stops _ (IsRefusedCheck request is.texts.0 is.texts.1) _ writer
        (λ refused. not_refused request is.texts.0 is.texts.1 Accepted refused
        (its is.texts.0 is.texts.1 is.are_all.0 is.are_all.1)) (stop_of e) is.outcome
