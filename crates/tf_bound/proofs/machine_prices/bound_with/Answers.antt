use Rattle.std.proofs.Common.{◌≡◌, ℕ, ℤ, pos, ◌-ℤ◌, length, sum, sum_by, slice_index, SFits, to_z, of_z, refl, sym, ap, ◌∙◌, subst, arith, rules}
use Rattle.std.specs.Int.{w128}
use Rattle.std.proofs.lemmas.Int.{to_z-of_z}
use Rattle.std.proofs.lemmas.List.{take_all}
use Rattle.tf_posed.specs.ProblemData.{problem_jobs}
use Rattle.tf_posed.specs.ProblemCost.{IsLowerBound}
use Rattle.tf_problem.specs.ProblemBounds.{share_up}
use Rattle.tf_problem.specs.MachinePrices.{cheapest_from, machine_prices_value}
use Rattle.tf_bound.specs.RowSums.{AreSums}
use Rattle.tf_bound.proofs.Sound.{sound}
use Rattle.tf_bound.proofs.machine_prices.bound_with.Goals as goal

pub returns-clause-value : goal.returns-clause-value
returns-clause-value g c =
    let k = c.args.task.now in
    let q : ℕ = c.args.q in
    let prices = c.args.prices.now in
    let cost : ℕ = sum_by (cheapest_from k c.args.machine q prices) (problem_jobs k) in
    let are : AreSums prices c.sum_rows.new.sums = c.if-not-sum_rows.ensures.sums refl in
    let last : ℕ = slice_index c.sum_rows.new.sums (length prices) in
    let all : last ≡ sum prices =
    are.at (length prices) (omega arith) ∙ ap sum (take_all (length prices) prices (omega arith)) in
    let fits : SFits w128 c.value_of.result = search rules in
    to_z-of_z w128 c.value_of.result fits
    ∙ c.value_of.ensures
    ∙ ap (λ n. share_up (pos n -ℤ pos last) q) c.in-Some.ensures.value
    ∙ ap (λ n. share_up (pos cost -ℤ pos n) q) all

pub returns-clause-bound : goal.returns-clause-bound
returns-clause-bound g c =
    let k = c.args.task.now in
    subst (λ (b : ℤ). IsLowerBound k b) (sym (returns-clause-value g c))
    (c.machine_prices_law.ensures k (sound k c.all_costs.ensures.sized) c.requires.shop c.requires.whole
    c.requires.goal c.args.machine c.requires.machine c.args.q c.requires.some c.args.prices.now)
