use Rattle.std.proofs.Common.{rules, ◌≡◌, ◌+◌, ℕ, ℤ, map, length, ap, sym, ◌∙◌, arith}
use mir.Val.{SFits, to_z}
use mir.Syntax.{w128}
use Rattle.std.specs.Int.{int_max}
use Rattle.std.specs.List.{fold, range_with_len}
use Rattle.std.proofs.lemmas.Int.{to_z-of_z}
use Rattle.tf_schedule.specs.Lanes.{stop_in}
use Rattle.tf_fit.specs.CostBy.{price_at}
use Rattle.tf_fit.proofs.Costs.{greatest_more, greatest_range}
use Rattle.tf_fit.proofs.cost.greatest.Goals as goal

pub price-value-requires : goal.price-value-requires
price-value-requires g c =
    (omega (arith, c.at.ensures), omega (arith, c.at.ensures, c.len-count.ensures.sized.some_job))

pub loop-k-preserved : goal.loop-k-preserved
loop-k-preserved g c =
    let f : ℕ → ℤ = λ j. price_at c.args.goal c.args.task.now j (stop_in c.args.jobs.now j) in
    let fits : SFits w128 c.max-value.result = search rules in
    let fits_price : SFits w128 c.price.result = search rules in
    to_z-of_z w128 c.max-value.result fits ∙ c.max-value.ensures.value
    ∙ ap (λ z. int_max (to_z w128 c.loop-k.value-bits) z)
    (to_z-of_z w128 c.price.result fits_price ∙ c.price.ensures ∙ ap f c.at-in-loop-k.ensures)
    ∙ ap (λ z. int_max z (f (c.loop-k.k + 1))) c.loop-k.invariant
    ∙ sym (greatest_more f (f 1) c.loop-k.k)

pub returns : goal.returns
returns g c =
    let f : ℕ → ℤ = λ j. price_at c.args.goal c.args.task.now j (stop_in c.args.jobs.now j) in
    let all : c.loop-k.k ≡ length c.args.task.now.jobs =
    omega (arith, c.len-count.ensures.value, c.len-count.ensures.sized.some_job, c.loop-k.auto.k-end) in
    c.loop-k.invariant ∙ ap (λ n. fold int_max (f 1) (map f (range_with_len 1 n))) all
    ∙ greatest_range f (length c.args.task.now.jobs) c.len-count.ensures.sized.some_job
