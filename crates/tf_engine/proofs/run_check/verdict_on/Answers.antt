use Rattle.std.proofs.Common.{rules, subst}
use Rattle.tf_check.specs.Claim.{AnswerData}
use Rattle.tf_check.specs.Verdict.{HasReason, HasVerdict}
use Rattle.tf_check.specs.declared.verdict.Verdict.TheVariants.{Rejected}
use Rattle.tf_engine.specs.Checking.{IsFor}
use Rattle.tf_engine.proofs.run_check.verdict_on.Goals as goal

pub returns-in-Rejected : goal.returns-in-Rejected
returns-in-Rejected g c =
    let same : IsFor c.args.task.now c.args.sheet = search rules in
    let verdict : HasVerdict c.args.task.now c.into_answer.result (Rejected c.in-Rejected.reason) =
    subst (HasVerdict c.args.task.now c.into_answer.result) c.in-Rejected.is
    c.in_ok-check_owned.ensures.verdict in (
      same,
      subst (λ (a : AnswerData). HasReason c.args.task.now a c.in-Rejected.reason)
          c.into_answer.ensures verdict,
    )
