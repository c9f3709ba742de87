use Rattle.std.proofs.Common.{◌≡◌, ℕ, ◌*◌, ℤ, pos, ◌-ℤ◌, sum_by, SFits, to_z, of_z, sym, ap, ◌∙◌, subst, rules}
use Rattle.std.specs.Int.{w128}
use Rattle.std.proofs.lemmas.Int.{to_z-of_z}
use Rattle.tf_posed.specs.ProblemData.{problem_jobs}
use Rattle.tf_posed.specs.ProblemCost.{IsLowerBound}
use Rattle.tf_problem.specs.ProblemBounds.{share_up, rows_cost, rows_value}
use Rattle.tf_bound.proofs.Sound.{sound}
use Rattle.tf_bound.proofs.row_prices.rows_bound.Goals as goal

pub returns-clause-bound : goal.returns-clause-bound
returns-clause-bound g c =
    let k = c.args.task.now in
    let q : ℕ = c.args.q in
    let prices = c.args.prices.now in
    let cost : ℕ = sum_by (rows_cost k q prices) (problem_jobs k) in
    let m : ℕ = c.machines.result in
    let fits : SFits w128 c.rows_value.result = search rules in
    let value : to_z w128 (of_z w128 c.rows_value.result) ≡ rows_value k q prices =
    to_z-of_z w128 c.rows_value.result fits
    ∙ c.rows_value.ensures
    ∙ ap (λ n. share_up (pos n -ℤ pos (2 * m * c.in-Some.all)) (2 * q))
    c.in-Some-all_rows_cost.ensures.value
    ∙ ap (λ n. share_up (pos cost -ℤ pos (2 * n * c.in-Some.all)) (2 * q)) c.machines.ensures.value
    ∙ ap (λ n. share_up (pos cost -ℤ pos (2 * k.machines * n)) (2 * q)) c.in-Some.ensures.value in
    subst (λ (b : ℤ). IsLowerBound k b) (sym value)
    (c.row_prices_law.ensures k (sound k c.machines.ensures.sized) c.requires.alike c.requires.goal q
    c.requires.some prices)
