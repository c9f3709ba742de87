use Rattle.std.proofs.Common.{Ok, subst}
use Rattle.tf_schedule.specs.ProblemJudged.{IsJudgedBy}
use Rattle.tf_evaluate.specs.declared.evaluation.ProblemFit.TheVariants.{NoSchedule, Misfit}
use Rattle.tf_assess.specs.Placed.{IsSorted}
use Rattle.tf_assess.proofs.placed.table_on.Goals as goal

pub returns-in_default : goal.returns-in_default
returns-in_default g c = λ ps sorted.
    (NoSchedule c.in_default.field-0, subst (IsSorted ps) c.in_default.is sorted, tt)

pub returns-in-Some : goal.returns-in-Some
returns-in-Some g c = λ ps sorted.
    let qs = c.in-Ok.schedule in
    let both : IsSorted ps (Ok qs) = subst (IsSorted ps) c.in-Ok.is sorted in (
      Misfit c.in-Some.field-0,
      (
        qs,
        both.0,
        both.1,
        subst (IsJudgedBy c.args.task.now qs) c.in-Some.is c.in_ok-misfit.ensures.fit,
      ),
      tt,
    )
