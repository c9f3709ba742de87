use Rattle.std.proofs.Common.{◌≡◌, ℕ, ◌+◌, ◌*◌, ◌≤◌, ℤ, w64, of_z, to_z, SFits, ap, ◌∙◌, arith, rules}
use Rattle.std.proofs.lemmas.Int.{to_z-of_z}
use Rattle.tf_model.specs.declared.problem.Problem.{Problem}
use Rattle.tf_bound.specs.Prices.{is_by_unit}
use Rattle.tf_bound.proofs.Sound.{ends_within}
use Rattle.tf_bound.proofs.Visits.{cheapest_is}
use Rattle.tf_bound.proofs.machine_prices.cost_of.Goals as goal

pub slope_within-requires-clause-end : goal.slope_within-requires-clause-end
slope_within-requires-clause-end g c =
    omega (
      arith,
      c.max-end.ensures,
      c.if-last-time.false,
      c.release.ensures.value,
      c.work.ensures.value,
      ends_within c.args.task.now c.work.ensures.sized c.args.job c.requires.job,
    )

pub cheapest_visit-requires-clause-earliest : goal.cheapest_visit-requires-clause-earliest
cheapest_visit-requires-clause-earliest g c =
    omega (
      arith,
      c.release.ensures.value,
      c.work.ensures.value,
      ends_within c.args.task.now c.work.ensures.sized c.args.job c.requires.job,
    )

pub returns-clause-value : goal.returns-clause-value
returns-clause-value g c =
    let due : ℤ = c.due-due.result in
    let fits : SFits w64 due = search rules in
    c.cheapest_visit.ensures.value
    ∙ cheapest_is c.args.task.now c.args.machine c.args.q c.args.prices.now c.args.job c.requires.goal
    c.head-head.result c.time_on-time.result c.tail-tail.result (c.release.result + c.work.result)
    c.is_by_unit-by_unit.result c.in_ok-slope.slope (to_z w64 (of_z w64 due))
    c.head-head.ensures.value c.time_on-time.ensures.value c.tail-tail.ensures.value
    (omega (arith, c.release.ensures.value, c.work.ensures.value))
    (c.is_by_unit-by_unit.ensures ∙ ap (λ (p : Problem). is_by_unit p.goal) c.problem.ensures.value)
    (c.in_ok-slope.ensures.slope ∙ ap (λ w. c.args.q * w) c.weight.ensures.value)
    (to_z-of_z w64 due fits ∙ c.due-due.ensures.value)
