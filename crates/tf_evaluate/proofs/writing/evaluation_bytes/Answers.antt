use Rattle.std.proofs.Common.{◌≡◌, ◌++◌, List, map, rules, subst, ap, sym, ◌∙◌}
use Rattle.std.specs.List.{flat_map}
use Rattle.tf_notation.specs.Canonical.{canonical}
use Rattle.tf_text.specs.AnswerText.{line_text}
use Rattle.tf_evaluate.specs.declared.evaluation.JobOutcome.{JobOutcome}
use Rattle.tf_evaluate.specs.EvaluationData.{EvaluationData}
use Rattle.tf_evaluate.specs.EvaluationText.{judgement_lines, outcome_words, evaluation_text}
use Rattle.tf_evaluate.proofs.Written.{evaluation_written}
use Rattle.tf_evaluate.proofs.writing.evaluation_bytes.Goals as goal

pub returns : goal.returns
returns g c =
    let e : EvaluationData _ = record {
      problem = c.evaluation.inside.problem;
      jobs = c.evaluation.inside.jobs;
      machines = c.evaluation.inside.machines;
      fit = c.evaluation.inside.fit;
      claimed = c.evaluation.inside.claimed;
      reference = c.evaluation.inside.reference;
      outcomes = c.evaluation.inside.outcomes.items;
    } in
    let lines = g.R.Reference.lines in
    let notation : c.extend_from_slice.new.self.items ≡ c.in_ok-text.text.items
    ++ canonical c.evaluation.inside.problem = search rules in
    let judged : c.push_judgement.new.text.items ≡ c.push_number_line-2.new.text.items
    ++ flat_map line_text (judgement_lines lines e) = c.in_ok-push_judgement.ensures
    ∙ ap (λ (d : EvaluationData _). c.push_number_line-2.new.text.items
    ++ flat_map line_text (judgement_lines lines d)) (sym c.evaluation.view_is) in
    let jobs : c.push_outcomes.new.text.items ≡ c.push_judgement.new.text.items
    ++ flat_map line_text (map outcome_words c.evaluation.inside.outcomes.items) =
    c.in_ok-push_outcomes.ensures
    ∙ ap (λ (os : List JobOutcome). c.push_judgement.new.text.items
    ++ flat_map line_text (map outcome_words os)) c.as_slice.ensures.value in
    subst (λ (d : EvaluationData _). c.extend_from_slice-2.new.self.items ≡ evaluation_text lines d)
    c.evaluation.view_is
    (evaluation_written lines e _ _ _ _ _ _ _ _ c.in_ok-text.ensures.items notation
    c.in_ok-push.ensures.items c.in_ok-push_number_line.ensures
    c.in_ok-push_number_line-2.ensures judged jobs c.in_ok-extend_from_slice-2.ensures.items)
