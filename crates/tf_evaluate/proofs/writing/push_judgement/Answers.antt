use Rattle.std.proofs.Common.{◌≡◌, ◌++◌, codes, rules, subst}
use Rattle.std.specs.List.{flat_map}
use Rattle.tf_text.specs.AnswerText.{line_text}
use Rattle.tf_evaluate.specs.EvaluationData.{EvaluationData, value_in}
use Rattle.tf_evaluate.specs.EvaluationText.{fit_words, claimed_lines, number_lines, judgement_lines}
use Rattle.tf_evaluate.proofs.Written.{judgement_written}
use Rattle.tf_evaluate.proofs.writing.push_judgement.Goals as goal

pub returns : goal.returns
returns g c =
    let e : EvaluationData _ = record {
      problem = c.evaluation.inside.problem;
      jobs = c.evaluation.inside.jobs;
      machines = c.evaluation.inside.machines;
      fit = c.evaluation.inside.fit;
      claimed = c.evaluation.inside.claimed;
      reference = c.evaluation.inside.reference;
      outcomes = c.evaluation.inside.outcomes.items;
    } in
    let lines = g.R.Reference.lines in
    let fit : c.push_fit.new.text.items ≡ c.args.text.now.items
    ++ line_text (fit_words c.evaluation.inside.fit) = search rules in
    let claimed : c.push_claimed.new.text.items ≡ c.push_fit.new.text.items
    ++ flat_map line_text (claimed_lines c.evaluation.inside.claimed) = search rules in
    let value : c.push_some.new.text.items ≡ c.push_claimed.new.text.items
    ++ flat_map line_text (number_lines (codes "value") (value_in c.evaluation.inside.fit)) =
    search rules in
    let held : c.push.new.text.items ≡ c.push_some.new.text.items
    ++ flat_map line_text
    (lines c.evaluation.inside.reference (value_in c.evaluation.inside.fit)) = search rules in
    subst (λ (d : EvaluationData _). c.push.new.text.items ≡ c.args.text.now.items
    ++ flat_map line_text (judgement_lines lines d)) c.evaluation.view_is
    (judgement_written lines e _ _ _ _ _ fit claimed value held)
