use Rattle.std.proofs.Common.{◌≡◌, ◌+◌, List, [], ◌∷◌, ◌++◌, map, sym, ap, ◌∙◌, arith}
use Rattle.std.specs.List.{range_with_len}
use Rattle.std.proofs.lemmas.List.FromFn.{map-range_with_len_more}
use Rattle.tf_evaluate.specs.declared.evaluation.JobOutcome.{JobOutcome}
use Rattle.tf_evaluate.specs.Outcomes.{outcome_on}
use Rattle.tf_assess.specs.Assessing.{counted_by}
use Rattle.tf_assess.proofs.outcomes.outcomes.Goals as goal

pub loop-k-preserved : goal.loop-k-preserved
loop-k-preserved g c =
    let f = outcome_on (counted_by c.args.task.now) c.args.lanes.now in
    let next : 1 + c.loop-k.k ≡ c.loop-k.k + 1 = omega arith in
    c.in_ok-push.ensures.items
    ∙ ap (λ (os : List JobOutcome). os ++ c.outcome.result ∷ []) c.loop-k.invariant
    ∙ ap (λ (o : JobOutcome). map f (range_with_len 1 c.loop-k.k) ++ o ∷ [])
    (c.outcome.ensures ∙ ap f c.at.ensures)
    ∙ sym (map-range_with_len_more f 1 c.loop-k.k (c.loop-k.k + 1) next)
