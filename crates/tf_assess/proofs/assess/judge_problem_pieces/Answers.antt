use Rattle.std.proofs.Common.{subst, ◌∙◌}
use Rattle.tf_assess.specs.Assessing.{HasProblemTable}
use Rattle.tf_assess.proofs.Assessing.{table_outcomes, no_outcomes}
use Rattle.tf_assess.proofs.assess.judge_problem_pieces.Goals.{in-Some+in_ok-outcomes-in-Some, in-None}
use Rattle.tf_assess.proofs.assess.judge_problem_pieces.Goals as goal

pub returns-clause-outcomes : goal.returns-clause-outcomes
returns-clause-outcomes g c =
    let k = c.args.task.now in
    let ps = c.args.pieces.items in
    let fit = c.in_ok-fit.field-0.fit in
    elim c.match-lanes.branch [
      | in-Some+in_ok-outcomes-in-Some w ↦
          rw w.outcomes-is (w.in_ok-outcomes-in-Some.ensures
          ∙ table_outcomes k ps fit w.in-Some.lanes
          (subst (HasProblemTable k ps fit) w.in-Some.is c.in_ok-fit.ensures.lanes))
      | in-None w ↦
          rw w.outcomes-is (w.new-outcomes.ensures.items
          ∙ no_outcomes k ps fit
          (subst (HasProblemTable k ps fit) w.in-None.is c.in_ok-fit.ensures.lanes))
    ]
