use Rattle.std.proofs.Common.{◌≡◌, [], ◌∷◌, ◌++◌, List, codes, map, rules, ap, subst, ◌∙◌}
use Rattle.std.specs.List.{flat_map}
use Rattle.std.specs.Fmt.{signed_decimal}
use Rattle.tf_text.specs.AnswerText.{line_text}
use Rattle.tf_evaluate.specs.declared.step.Step.{Step}
use Rattle.tf_evaluate.specs.EvaluationData.{OptimumData}
use Rattle.tf_evaluate.specs.EvaluationText.{gap_lines, bound_lines, step_words, optimum_lines}
use Rattle.tf_evaluate.proofs.Written.{optimum_written}
use Rattle.tf_evaluate.proofs.reference.OptimumReference.push.Goals as goal

pub returns : goal.returns
returns g c =
    let o : OptimumData = record {
      best = c.self.inside.best;
      bound = c.self.inside.bound;
      steps = c.self.inside.steps.items;
    } in
    let best : c.push_number_line.new.text.items ≡ c.args.text.now.items
    ++ line_text (codes "best" ∷ signed_decimal c.self.inside.best ∷ []) = search rules in
    let gap : c.push_gap.new.text.items ≡ c.push_number_line.new.text.items
    ++ flat_map line_text (gap_lines c.args.value c.self.inside.best) = search rules in
    let bound : c.push_bound.new.text.items ≡ c.push_gap.new.text.items
    ++ flat_map line_text (bound_lines c.self.inside.bound) = search rules in
    let steps : c.push_steps.new.text.items ≡ c.push_bound.new.text.items
    ++ flat_map line_text (map step_words c.self.inside.steps.items) =
    c.in_ok-push_steps.ensures
    ∙ ap (λ (steps : List Step). c.push_bound.new.text.items
    ++ flat_map line_text (map step_words steps)) c.as_slice.ensures.value in
    subst (λ (d : OptimumData). c.push_steps.new.text.items ≡ c.args.text.now.items
    ++ flat_map line_text (optimum_lines d c.args.value)) c.self.view_is
    (optimum_written o c.args.value _ _ _ _ _ best gap bound steps)
