-- What is written piece by piece, as lines of words.
use Rattle.std.proofs.Common.{◌≡◌, ℕ, ℤ, List, ◌++◌, Option, codes}
use Rattle.std.specs.List.{flat_map}
use Rattle.tf_text.specs.AnswerText.{line_text}
use Rattle.tf_evaluate.specs.EvaluationText.{number_lines, gap_lines}
use Rattle.tf_evaluate.proofs.Written.{lines_then}
use Rattle.tf_assess.specs.declared.offered.Weighed.{Weighed}
use Rattle.tf_assess.specs.Assessing.{best_in}
use Rattle.tf_assess.specs.AssessmentText.{offered_lines, bound_lines, weighed_lines}

-- the lines of the bound
pub weighed_written : {A : Type 0} (w : Weighed A) (value : Option ℤ) (t0 t1 t2 t3 t4 : List ℕ)
    → t1 ≡ t0 ++ flat_map line_text (number_lines (codes "best") (best_in value w.bound.value))
    → t2 ≡ t1 ++ flat_map line_text (gap_lines value w.bound.value)
    → t3 ≡ t2 ++ flat_map line_text (offered_lines w.offered)
    → t4 ≡ t3 ++ flat_map line_text (bound_lines w.bound)
    → t4 ≡ t0 ++ flat_map line_text (weighed_lines w value)
weighed_written w value t0 t1 t2 t3 t4 e1 e2 e3 e4 =
    let bounds = offered_lines w.offered ++ bound_lines w.bound in
    let from2 = lines_then t2 t3 t4 (offered_lines w.offered) (bound_lines w.bound) e3 e4 in
    let from1 = lines_then t1 t2 t4 (gap_lines value w.bound.value) bounds e2 from2 in
    lines_then t0 t1 t4 (number_lines (codes "best") (best_in value w.bound.value))
    (gap_lines value w.bound.value ++ bounds) e1 from1
