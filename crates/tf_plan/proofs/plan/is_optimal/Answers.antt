use Rattle.std.proofs.Common.{◌≡◌, sym, subst, ◌∙◌}
use mir.Syntax.{w128}
use Rattle.std.proofs.lemmas.Int.{to_z-of_z}
use Rattle.tf_posed.specs.ProblemCost.{IsLowerBound}
use Rattle.tf_plan.proofs.plan.is_optimal.Goals as goal

pub returns : goal.returns
returns c = λ k ps plan bound met.
    let same : c.args.value ≡ c.args.bound =
    sym (to_z-of_z w128 c.args.value c.ranges.value) ∙ c.is_same.ensures met
    ∙ to_z-of_z w128 c.args.bound c.ranges.bound in
    record {
      fits = plan.fits.fits;
      value = plan.cost;
      least = subst (IsLowerBound k) (sym same) bound;
    }
