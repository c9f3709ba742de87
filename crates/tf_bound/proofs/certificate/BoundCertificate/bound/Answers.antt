use Rattle.std.proofs.Common.{Option, Result, Ok, Err, MatchOption, inl, inr, subst}
use Rattle.std.proofs.lemmas.Result.{err_from_is_err_and, IfOk-weaker}
use Rattle.tf_posed.specs.ProblemData.{ProblemData}
use Rattle.tf_bound.specs.Judged.{IsJudgedTask}
use Rattle.tf_bound.specs.Faulted.{certificate_fault, NamesFault}
use Rattle.tf_bound.specs.Certified.{NamesFaultBy}
use Rattle.tf_bound.specs.declared.certificate.BoundCertificate.{BoundCertificate}
use Rattle.tf_bound.specs.declared.fault.BoundFault.{BoundFault}
use Rattle.tf_bound.proofs.certificate.BoundCertificate.bound.Goals as goal

-- what is answered on the task on which it is judged
named_by : {A X : Type 0} (k other : ProblemData) (c : BoundCertificate A) (result : Result X BoundFault)
    → IsJudgedTask k other → NamesFault (certificate_fault other c) result → NamesFaultBy k c result
named_by k other c (Ok value) judged none = (other, judged, none)
named_by k other c (Err fault) judged (inl no_memory) = inl no_memory
named_by k other c (Err fault) judged (inr is) = inr (other, judged, is)

pub returns-in_err-judged-clause-fault : goal.returns-in_err-judged-clause-fault
returns-in_err-judged-clause-fault g c =
    let p = err_from_is_err_and c.from_residual.result c.from_residual.ensures.1 in rw p.1 (inl p.2)

pub returns-in-Some-clause-fault : goal.returns-in-Some-clause-fault
returns-in-Some-clause-fault g c =
    let k : ProblemData = c.args.task.now in
    let judged : IsJudgedTask k c.in-Some.judged =
    subst (λ (o : Option ProblemData). MatchOption o (IsJudgedTask k k) (IsJudgedTask k)) c.in-Some.is
    c.in_ok-judged.ensures.judged in
    named_by k c.in-Some.judged c.args.self.now c.bound_on.result judged c.bound_on.ensures.fault

pub returns-in-None-clause-fault : goal.returns-in-None-clause-fault
returns-in-None-clause-fault g c =
    let k : ProblemData = c.args.task.now in
    let judged : IsJudgedTask k k =
    subst (λ (o : Option ProblemData). MatchOption o (IsJudgedTask k k) (IsJudgedTask k)) c.in-None.is
    c.in_ok-judged.ensures.judged in
    named_by k k c.args.self.now c.bound_on-in-None.result judged c.bound_on-in-None.ensures.fault

pub returns-in-Some-clause-value : goal.returns-in-Some-clause-value
returns-in-Some-clause-value g c =
    let k : ProblemData = c.args.task.now in
    let judged : IsJudgedTask k c.in-Some.judged =
    subst (λ (o : Option ProblemData). MatchOption o (IsJudgedTask k k) (IsJudgedTask k)) c.in-Some.is
    c.in_ok-judged.ensures.judged in
    IfOk-weaker c.bound_on.result _ _ (λ b is. (c.in-Some.judged, judged, is)) c.bound_on.ensures.value
