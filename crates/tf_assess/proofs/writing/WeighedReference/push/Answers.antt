use Rattle.std.proofs.Common.{◌≡◌, ◌++◌, codes, ℤ, Option, SFits, rules, ap, ◌∙◌}
use Rattle.std.specs.Int.{w128}
use Rattle.std.proofs.lemmas.Int.{to_z-of_z}
use Rattle.std.specs.List.{flat_map}
use Rattle.tf_text.specs.AnswerText.{line_text}
use Rattle.tf_evaluate.specs.EvaluationText.{number_lines, gap_lines}
use Rattle.tf_assess.specs.Assessing.{best_in}
use Rattle.tf_assess.proofs.Written.{weighed_written}
use Rattle.tf_assess.proofs.writing.WeighedReference.push.Goals as goal

pub returns : goal.returns
returns g c =
    let w = c.args.self.now in
    let value = c.args.value in
    let fits : SFits w128 w.bound.value = search rules in
    let best : c.push_some.new.text.items ≡ c.args.text.now.items
    ++ flat_map line_text (number_lines (codes "best") (best_in value w.bound.value)) =
    c.in_ok-push_some.ensures
    ∙ ap (λ (v : Option ℤ). c.args.text.now.items
    ++ flat_map line_text (number_lines (codes "best") v)) c.best.ensures in
    let gap : c.push_gap.new.text.items ≡ c.push_some.new.text.items
    ++ flat_map line_text (gap_lines value w.bound.value) =
    c.in_ok-push_gap.ensures
    ∙ ap (λ (b : ℤ). c.push_some.new.text.items ++ flat_map line_text (gap_lines value b))
    (to_z-of_z w128 w.bound.value fits) in
    weighed_written w value _ _ _ _ _ best gap c.in_ok-push_offered.ensures
    c.in_ok-push_bound.ensures
