use Rattle.std.proofs.Common.{refl, subst}
use Rattle.tf_model.specs.declared.problem.Problem.{Problem}
use Rattle.tf_schedule.specs.Drawing.{drawing}
use Rattle.tf_posed.specs.ProblemCost.{problem_cost_by}
use Rattle.tf_fit.specs.CostBy.{IsCostOrBeyond}
use Rattle.tf_schedule.specs.ProblemJudged.{FitsBy, IsJudgedBy}
use Rattle.tf_assess.proofs.Assessing.{fits_judged}
use Rattle.tf_assess.proofs.assess.fit_by.Goals as goal

pub returns-in-Some : goal.returns-in-Some
returns-in-Some g c = λ ps qs h. (
  (qs, h.kept, h.schedule, subst (IsJudgedBy c.args.task.now qs) c.in-Some.is h.judged),
  (qs, h.kept, h.schedule, c.args.jobs.now, refl, h.table),
)

pub returns-in-None : goal.returns-in-None
returns-in-None g c = λ ps qs h.
    let k = c.args.task.now in
    let fits : FitsBy k qs = subst (IsJudgedBy k qs) c.in-None.is h.judged in (
      fits_judged k ps qs h.kept h.schedule fits c.cost_by.result
          (subst (λ (p : Problem). IsCostOrBeyond c.cost_by.result
          (problem_cost_by p.goal k (drawing k.machines qs))) c.problem.ensures.value
          (c.cost_by.ensures.drawn qs h.schedule fits.known h.table)),
      (qs, h.kept, h.schedule, c.args.jobs.now, refl, h.table),
    )
