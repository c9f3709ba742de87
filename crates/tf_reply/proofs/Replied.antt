-- A command over the parts of a request replies for the request.
use Rattle.std.proofs.Common.{◌≡◌, ℕ, List, ◌++◌, Result, Ok, Err, IfOk, sym, subst, inl}
use Rattle.tf_text.specs.Counted.{DeviceUse}
use Rattle.tf_engine.specs.RequestData.{RequestData}
use Rattle.tf_evaluate.specs.declared.evaluation.Detail.{Detail}
use Rattle.tf_reply.specs.declared.reply.Reply.{Reply}
use Rattle.tf_reply.specs.Replies.{printed, said, EndsReport, Replies, IfWellFormed, IsOver, IsOverBoth}

module _ {A E WellFormed : Type 0} (formed : WellFormed) {asked request : RequestData} (same : asked ≡ request) where
  -- where there is one text
  pub replied : (Ends : RequestData → DeviceUse → DeviceUse → (List ℕ → Type 0) → ℕ → Type 0) {text part : List ℕ}
      → text ≡ part → (result : Result (Reply A) E)
      → IfOk result (Replies (IsOver (Ends asked) text))
      → IfOk result (Replies (IfWellFormed WellFormed (IsOver (Ends request) part)))
  replied Ends is (Ok r) over =
      inl (formed, subst (λ (X : Type 0). X) (λ i. IsOver (Ends (same i)) (is i) (printed r) (said r) r.status) over)
  replied Ends is (Err e) over = tt

  -- where there are two
  pub replied_both : (Ends : RequestData → DeviceUse → DeviceUse → DeviceUse → (List ℕ → Type 0) → ℕ → Type 0)
      {instance part answer answer_part : List ℕ} → instance ≡ part → answer ≡ answer_part
      → (result : Result (Reply A) E)
      → IfOk result (Replies (IsOverBoth (Ends asked) instance answer))
      → IfOk result (Replies (IfWellFormed WellFormed (IsOverBoth (Ends request) part answer_part)))
  replied_both Ends is answer_is (Ok r) over =
      inl (
        formed,
        subst (λ (X : Type 0). X)
            (λ i. IsOverBoth (Ends (same i)) (is i) (answer_is i) (printed r) (said r) r.status) over,
      )
  replied_both Ends is answer_is (Err e) over = tt

-- where there is one text, and what is printed for it is evaluated
pub replied_report : {A E WellFormed : Type 0} → WellFormed
    → (Solves : RequestData → DeviceUse → DeviceUse → (List ℕ → Type 0) → ℕ → Type 0)
    → (Evaluates : Detail → RequestData → DeviceUse → DeviceUse → DeviceUse → (List ℕ → Type 0) → ℕ → Type 0)
    → {solving wanted evaluating sought : RequestData} → solving ≡ wanted → evaluating ≡ sought
    → {detail told : Detail} → detail ≡ told → {text part : List ℕ} → text ≡ part
    → (result : Result (Reply A) E)
    → IfOk result (Replies (EndsReport (Solves solving) (Evaluates detail evaluating) text))
    → IfOk result (Replies (IfWellFormed WellFormed (EndsReport (Solves wanted) (Evaluates told sought) part)))
replied_report formed Solves Evaluates same other detail_is is (Ok r) ends =
    inl (
      formed,
      subst (λ (X : Type 0). X)
          (λ i. EndsReport (Solves (same i)) (Evaluates (detail_is i) (other i)) (is i) (printed r)
          (said r) r.status) ends,
    )
replied_report formed Solves Evaluates same other detail_is is (Err e) ends = tt

-- the answer that was printed, and the evaluation behind it
pub reported : {A B : Type 0} (Solves : DeviceUse → DeviceUse → (List ℕ → Type 0) → ℕ → Type 0)
    (Evaluates : DeviceUse → DeviceUse → DeviceUse → (List ℕ → Type 0) → ℕ → Type 0)
    (instance : List ℕ) (first second : Reply A) → first.status ≡ 0
    → Replies (IsOver Solves instance) first
    → Replies (IsOverBoth Evaluates instance (printed first)) second
    → (result : Result (Reply A) B)
    → IfOk result (λ r. (printed r ≡ printed first ++ printed second) × (said r ≡ said second)
    × (r.status ≡ second.status))
    → IfOk result (Replies (EndsReport Solves Evaluates instance))
reported Solves Evaluates instance first second done solved evaluated (Ok r) (prints, says, ends) =
    inl (record {
      answer = printed first;
      evaluation = printed second;
      unsaid = said first;
      solved = subst (λ (s : ℕ). IsOver Solves instance (printed first) (said first) s) done solved;
      evaluated = subst (λ (e : List ℕ). IsOverBoth Evaluates instance (printed first)
          (printed second) e r.status) (sym says)
          (subst (λ (s : ℕ). IsOverBoth Evaluates instance (printed first) (printed second)
          (said second) s) (sym ends) evaluated);
      prints = prints;
    })
reported Solves Evaluates instance first second done solved evaluated (Err e) told = tt
