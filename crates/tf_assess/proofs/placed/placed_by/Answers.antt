use Rattle.std.proofs.Common.{◌≡◌, Ok, refl, subst}
use Rattle.tf_model.specs.declared.problem.Problem.{Problem}
use Rattle.tf_prepare.specs.Preparing.{prepared_in}
use Rattle.tf_assess.specs.Measures.{PosedData, by_goal}
use Rattle.tf_assess.proofs.placed.placed_by.Goals as goal

pub returns : goal.returns
returns g c = λ ps sorted. (
  record {
    meant = subst (λ (posed : PosedData). prepared_in posed.timed
        (by_goal posed.problem c.args.goal) posed.machines ≡ Ok c.in-Ok.task) c.posed.view_is
        (subst (λ (p : Problem). prepared_in c.posed.inside.timed p c.posed.inside.machines
        ≡ Ok c.in-Ok.task) c.by_goal-problem.ensures c.in-Ok.ensures);
    judged = c.in_ok-jobs.ensures ps sorted;
  },
  refl,
)
