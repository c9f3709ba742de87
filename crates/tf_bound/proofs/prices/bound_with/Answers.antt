use Rattle.std.proofs.Common.{◌≡◌, ℕ, ◌*◌, ℤ, pos, ◌-ℤ◌, length, sum, sum_by, slice_index, SFits, to_z, of_z, refl, sym, ap, ◌∙◌, subst, arith, rules}
use Rattle.std.specs.Int.{w128}
use Rattle.std.proofs.lemmas.Int.{to_z-of_z}
use Rattle.std.proofs.lemmas.List.{take_all}
use Rattle.tf_posed.specs.ProblemData.{problem_jobs}
use Rattle.tf_posed.specs.ProblemCost.{IsLowerBound}
use Rattle.tf_problem.specs.ProblemBounds.{share_up, numerator, prices_value}
use Rattle.tf_bound.specs.RowSums.{AreSums}
use Rattle.tf_bound.proofs.Sound.{sound, all_numerators}
use Rattle.tf_bound.proofs.Conditions.{both_small}
use Rattle.tf_bound.proofs.prices.bound_with.Goals as goal

pub returns : goal.returns
returns g c =
    let k = c.args.task.now in
    let q = c.args.q in
    let told = c.in_ok-cheapest.ensures in
    let v = c.in_ok-cheapest.cheapest.items in
    let prices = c.args.prices.now in
    let are : AreSums prices c.sum_rows.new.sums = c.if-not-sum_rows.ensures.sums refl in
    let last : ℕ = slice_index c.sum_rows.new.sums (length prices) in
    let all : last ≡ sum prices =
    are.at (length prices) (omega arith) ∙ ap sum (take_all (length prices) prices (omega arith)) in
    let fits : SFits w128 c.prices_value.result = search rules in
    let value : to_z w128 (of_z w128 c.prices_value.result) ≡ prices_value k q prices v =
    to_z-of_z w128 c.prices_value.result fits
    ∙ c.prices_value.ensures
    ∙ ap (λ x. share_up (pos x -ℤ pos (c.machines.result * last)) q)
    (ap sum c.deref.ensures.value ∙ sym (all_numerators k v told.len))
    ∙ ap (λ x. share_up (pos (sum_by (numerator v) (problem_jobs k)) -ℤ pos (x * last)) q)
    c.machines.ensures.value
    ∙ ap (λ x. share_up (pos (sum_by (numerator v) (problem_jobs k)) -ℤ pos (k.machines * x)) q) all in
    record {
      fault = both_small _ _ c.if-not-sum_rows.ensures.small told.fault;
      value = record { cheapest = v; least = told.cheapest; reached = told.reached; value = value };
      bound = subst (λ (b : ℤ). IsLowerBound k b) (sym value)
          (c.prices_law.ensures k (sound k c.machines.ensures.sized) c.requires.alike c.requires.whole
          c.requires.goal q c.requires.some prices v told.cheapest);
    }
