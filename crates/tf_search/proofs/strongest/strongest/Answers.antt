use Rattle.std.proofs.Common.{ℤ, Option, IfSome, MatchOption, subst}
use Rattle.std.proofs.lemmas.Result.{IfOk-weaker}
use Rattle.tf_posed.specs.ProblemData.{ProblemData}
use Rattle.tf_posed.specs.ProblemCost.{IsLowerBound}
use Rattle.tf_bound.specs.Judged.{IsJudgedTask}
use Rattle.tf_search.proofs.strongest.strongest.Goals as goal

pub returns-in-Some : goal.returns-in-Some
returns-in-Some g c =
    let k : ProblemData = c.args.task.now in
    let judged = subst (λ (o : Option ProblemData). MatchOption o (IsJudgedTask k k) (IsJudgedTask k))
    c.in-Some.is c.in_ok-judged.ensures.judged in
    let serves = subst (λ (o : Option ProblemData). IfSome o
    (λ other. (b : ℤ) → IsLowerBound other b → IsLowerBound k b)) c.in-Some.is
    c.in_ok-judged.ensures.bound in
    IfOk-weaker c.strongest_on.result _ _
    (λ found is. record {
      value = (c.in-Some.judged, judged, is.value);
      bound = serves found.value is.bound;
    })
    c.strongest_on.ensures
