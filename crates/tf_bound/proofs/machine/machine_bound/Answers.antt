use Rattle.std.proofs.Common.{◌≡◌, ◌<◌, ℤ, length, SFits, to_z, of_z, refl, sym, ◌∙◌, subst, arith, rules}
use Rattle.std.specs.Int.{w128}
use Rattle.std.proofs.lemmas.Int.{to_z-of_z}
use Rattle.tf_posed.specs.ProblemCost.{IsLowerBound}
use Rattle.tf_problem.specs.ProblemBounds.{machine_value}
use Rattle.tf_bound.proofs.Sound.{sound}
use Rattle.tf_bound.proofs.Steps.{not_zero}
use Rattle.tf_bound.proofs.machine.machine_bound.Goals as goal

pub returns-clause-bound : goal.returns-clause-bound
returns-clause-bound g c =
    let k = c.args.task.now in
    let jobs = c.args.jobs.now in
    let a = c.args.machine in
    let kind = c.if-not-takes_machine.ensures in
    let fits : SFits w128 c.span.result = search rules in
    let value : to_z w128 (of_z w128 c.span.result) ≡ machine_value k a jobs =
    to_z-of_z w128 c.span.result fits ∙ c.span.ensures in
    let some : 0 < length jobs = not_zero (length jobs) (sym c.if-is_empty.ensures) in
    subst (λ (b : ℤ). IsLowerBound k b) (sym value)
    (c.machine_law.ensures k (sound k c.machines.ensures.sized) (kind.env refl) (kind.goal refl) a
    (omega (arith, c.if-machine-machines.false, c.machines.ensures.value)) jobs
    c.in_ok-judge_list.ensures.distinct c.in_ok-judge_list.ensures.known some)
