use Rattle.std.proofs.Common.{◌≡◌, Some, subst, sym, ap, ◌∙◌}
use Rattle.tf_check.specs.Judgement.{HasTable}
use Rattle.tf_evaluate.specs.declared.evaluation.ProblemFit.{ProblemFit}
use Rattle.tf_evaluate.specs.EvaluationData.{problem_fit}
use Rattle.tf_evaluate.specs.Evaluating.{outcomes_for}
use Rattle.tf_evaluate.proofs.PermutedOutcomes.{table_stops, table_outcomes, no_outcomes}
use Rattle.tf_evaluate.proofs.evaluate.judge_pieces.Goals.{in-Some+in_ok-outcomes-in-Some, in-None}
use Rattle.tf_evaluate.proofs.evaluate.judge_pieces.Goals as goal

pub outcomes-requires : goal.outcomes-requires
outcomes-requires g c =
    let k = c.args.task.now in
    let fit = c.in_ok-fit.field-0.fit in
    table_stops k c.args.pieces.items fit c.in-Some.lanes
    (subst (HasTable k c.args.pieces.items fit) c.in-Some.is c.in_ok-fit.ensures.lanes)

pub returns-clause-outcomes : goal.returns-clause-outcomes
returns-clause-outcomes g c =
    let k = c.args.task.now in
    let ps = c.args.pieces.items in
    let fit = c.in_ok-fit.field-0.fit in
    let told : outcomes_for k ps (Some (problem_fit fit))
    ≡ outcomes_for k ps (Some c.problem_fit.result) =
    ap (λ (f : ProblemFit). outcomes_for k ps (Some f)) (sym c.problem_fit.ensures) in
    elim c.match-lanes.branch [
      | in-Some+in_ok-outcomes-in-Some w ↦
          rw w.outcomes-is (w.in_ok-outcomes-in-Some.ensures
          ∙ table_outcomes k ps fit w.in-Some.lanes
          (subst (HasTable k ps fit) w.in-Some.is c.in_ok-fit.ensures.lanes) ∙ told)
      | in-None w ↦
          rw w.outcomes-is (w.new-outcomes.ensures.items
          ∙ no_outcomes k ps fit (subst (HasTable k ps fit) w.in-None.is c.in_ok-fit.ensures.lanes)
          ∙ told)
    ]
