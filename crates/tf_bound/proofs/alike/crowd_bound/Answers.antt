use Rattle.std.proofs.Common.{◌≡◌, false, ◌*◌, ℤ, SFits, to_z, of_z, refl, sym, ap, ◌∙◌, subst, arith, rules}
use Rattle.std.specs.Int.{w128}
use Rattle.std.proofs.lemmas.Int.{to_z-of_z}
use Rattle.tf_model.specs.declared.problem.Problem.{Problem}
use Rattle.tf_posed.specs.ProblemCost.{IsLowerBound}
use Rattle.tf_problem.specs.ProblemBounds.{crowd_value}
use Rattle.tf_bound.proofs.Sound.{sound}
use Rattle.tf_bound.proofs.alike.crowd_bound.Goals as goal

pub returns-clause-bound : goal.returns-clause-bound
returns-clause-bound g c =
    let k = c.args.task.now in
    let fits : SFits w128 c.crowd_span.result = search rules in
    let value : to_z w128 (of_z w128 c.crowd_span.result) ≡ crowd_value k c.args.h c.args.jobs.now =
    to_z-of_z w128 c.crowd_span.result fits ∙ c.crowd_span.ensures in
    let jobs = c.args.jobs.now in
    let kind = c.if-not-takes_windows.ensures in
    let told = c.in_ok-judge_list.ensures in
    let whole : k.problem.prmp ≡ false =
    ap (λ (p : Problem). p.prmp) (sym c.problem.ensures.value) ∙ c.if-problem.false in
    let factors : c.from.result * c.from-2.result ≡ c.args.h * k.machines =
    ap (λ n. n * c.from-2.result) c.from.ensures
    ∙ ap (λ n. c.args.h * n) (c.from-2.ensures ∙ c.machines.ensures.value) in
    subst (λ (b : ℤ). IsLowerBound k b) (sym value)
    (c.crowd_law.ensures k (sound k c.problem.ensures.sized) (kind.alike refl) whole (kind.goal refl)
    jobs told.distinct told.known c.args.h (omega (arith, factors, c.if-from-jobs.false)))
