use Rattle.std.proofs.Common.{◌≡◌, rules, Ok, pos, true, SFits, inl, sym, ap, ◌∙◌}
use Rattle.std.specs.Int.{w128}
use Rattle.std.proofs.lemmas.Int.{to_z-of_z}
use Rattle.tf_check.specs.Bound.{pairs_bound}
use Rattle.tf_check.specs.Kinds.{takes_pairs}
use Rattle.tf_check.specs.Ratio.{completions_in}
use Rattle.tf_check.proofs.Given.{pairs_given}
use Rattle.tf_check.proofs.RatioOrder.{in_pairs}
use Rattle.tf_check.proofs.pairs.PairsEvidence.bound.Goals as goal

pub returns : goal.returns
returns g c =
    let k = c.args.task.now in
    let class : takes_pairs k.class ≡ true =
    ap takes_pairs (sym c.class.ensures.class) ∙ sym c.takes_pairs.ensures.kind
    ∙ c.if-not-takes_pairs.false in
    let fits : SFits w128 c.from.result = search rules in
    let value : c.weighted_completions.result ≡ completions_in k 0 c.in-Ok.jobs.items =
    c.weighted_completions.ensures.value ∙ ap (completions_in k 0) c.deref.ensures.value in
    let bound : pairs_bound k ≡ Ok (pos (completions_in k 0 c.in-Ok.jobs.items)) =
    pairs_given k class ∙ ap (λ n. Ok (pos n))
    (sym (in_pairs k c.in-Ok.jobs.items c.in-Ok.ensures.by_ratio)) in
    inl (ap Ok (to_z-of_z w128 c.from.result fits ∙ c.from.ensures ∙ ap pos value) ∙ sym bound)
