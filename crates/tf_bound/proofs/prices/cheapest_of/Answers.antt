use Rattle.std.proofs.Common.{ℕ, ◌+◌, ◌*◌, ◌^◌, ◌≤◌, ◌<◌, max, Bool, ◌||◌, nat_le, nat_lt, ℤ, w64, of_z, to_z, SFits, length, sym, ap, ◌∙◌, arith, rules, mul-le-mul_left}
use Rattle.std.proofs.lemmas.Bool.{lt-ltb}
use Rattle.std.proofs.lemmas.Int.{to_z-of_z}
use Rattle.tf_model.specs.declared.problem.Problem.{Problem}
use Rattle.tf_bound.specs.Prices.{is_by_unit}
use Rattle.tf_posed.specs.ProblemCost.{penalty}
use Rattle.tf_posed.specs.ProblemData.{problem_time, problem_weight}
use Rattle.tf_model.specs.Limit.{limit}
use Rattle.tf_bound.specs.Faulted.{last_start}
use Rattle.tf_bound.specs.RowSums.{late_steps}
use Rattle.tf_bound.proofs.Cheapest.{start_is, dear_is}
use Rattle.tf_bound.proofs.RowSums.{late_steps-rises}
use Rattle.tf_bound.proofs.prices.cheapest_of.Goals as goal

-- a job that starts when it is released is over by the horizon
pub overflow_sub-until : goal.overflow_sub-until
overflow_sub-until g c =
    let start = (c.cheapest_law.ensures c.args.task.now).some_start c.requires.alike
    c.args.prices.now c.args.job c.requires.job in
    omega (arith, start.1, c.requires.until, c.time-time.ensures.value)

pub cheapest_start-requires-clause-some : goal.cheapest_start-requires-clause-some
cheapest_start-requires-clause-some g c =
    let start = (c.cheapest_law.ensures c.args.task.now).some_start c.requires.alike
    c.args.prices.now c.args.job c.requires.job in
    omega (
      arith,
      start.0,
      c.requires.until,
      c.time-time.ensures.value,
      c.release-release.ensures.value,
      c.max-last.ensures,
      c.min.ensures,
    )

pub cheapest_start-requires-clause-small : goal.cheapest_start-requires-clause-small
cheapest_start-requires-clause-small g c =
    let slope : ℕ = c.in_ok-slope.slope in
    let unit = c.is_by_unit-by_unit.result in
    let d : ℤ = to_z w64 (of_z w64 c.due-due.result) in
    let at : ℕ = c.min.result + c.time-time.result in
    let end : ℕ = c.max-last.result + c.time-time.result in
    let rises : slope * late_steps unit d at ≤ slope * late_steps unit d end =
    mul-le-mul_left slope (late_steps-rises unit d at end (omega (arith, c.min.ensures))) in
    omega (arith, rises, c.in_ok-slope.ensures.small)

pub returns-clause-cheapest : goal.returns-clause-cheapest
returns-clause-cheapest g c = λ s low high.
    let due : ℤ = c.due-due.result in
    let fits : SFits w64 due = search rules in
    let is = start_is c.args.task.now c.args.q c.args.prices.now c.args.job c.requires.goal
    c.time-time.result c.is_by_unit-by_unit.result c.in_ok-slope.slope
    (to_z w64 (of_z w64 due)) c.time-time.ensures.value
    (c.is_by_unit-by_unit.ensures
    ∙ ap (λ (p : Problem). is_by_unit p.goal) c.problem.ensures.value)
    (c.in_ok-slope.ensures.slope ∙ ap (λ w. c.args.q * w) c.weight.ensures.value)
    (to_z-of_z w64 due fits ∙ c.due-due.ensures.value) s in
    omega (
      arith,
      is,
      c.cheapest_start.ensures.cheapest s (omega (arith, low, c.release-release.ensures.value))
          (omega (
            arith,
            high,
            c.min.ensures,
            c.max-last.ensures,
            c.release-release.ensures.value,
            c.requires.until,
            c.time-time.ensures.value,
          )),
    )

pub returns-clause-reached : goal.returns-clause-reached
returns-clause-reached g c =
    let due : ℤ = c.due-due.result in
    let fits : SFits w64 due = search rules in
    let s : ℕ = c.cheapest_start.result.start in
    let reached = c.cheapest_start.ensures.reached in
    let is = start_is c.args.task.now c.args.q c.args.prices.now c.args.job c.requires.goal
    c.time-time.result c.is_by_unit-by_unit.result c.in_ok-slope.slope
    (to_z w64 (of_z w64 due)) c.time-time.ensures.value
    (c.is_by_unit-by_unit.ensures
    ∙ ap (λ (p : Problem). is_by_unit p.goal) c.problem.ensures.value)
    (c.in_ok-slope.ensures.slope ∙ ap (λ w. c.args.q * w) c.weight.ensures.value)
    (to_z-of_z w64 due fits ∙ c.due-due.ensures.value) s in (
      s,
      omega (arith, reached.released, c.release-release.ensures.value),
      omega (
        arith,
        reached.within,
        c.min.ensures,
        c.max-last.ensures,
        c.release-release.ensures.value,
        c.requires.until,
        c.time-time.ensures.value,
      ),
      reached.paid ∙ is,
    )

-- from its last start the job completes beyond the limit
pub returns-then-last-time-clause-dear : goal.returns-then-last-time-clause-dear
returns-then-last-time-clause-dear g c =
    let k = c.args.task.now in
    let end : ℕ = last_start k c.args.prices.now c.args.job + problem_time k c.args.job in
    let over : limit < end =
    omega (
      arith,
      c.if-last-time.true,
      c.max-last.ensures,
      c.release-release.ensures.value,
      c.time-time.ensures.value,
    ) in
    let dear : Bool = nat_le (2 ^ 64) (c.args.q * problem_weight k c.args.job)
    || nat_lt limit (c.args.q * penalty k.problem.goal k c.args.job end) in
    sym (ap (λ t. t || dear) (lt-ltb limit end over))

pub returns-clause-dear : goal.returns-clause-dear
returns-clause-dear g c =
    let due : ℤ = c.due-due.result in
    let fits : SFits w64 due = search rules in
    c.in_ok-slope.ensures.dear
    ∙ dear_is c.args.task.now c.args.q c.args.prices.now c.args.job c.requires.goal
    c.time-time.result c.max-last.result c.weight.result c.is_by_unit-by_unit.result
    (to_z w64 (of_z w64 due)) c.time-time.ensures.value
    (c.max-last.ensures ∙ ap (λ r. max r (length c.args.prices.now)) c.release-release.ensures.value)
    c.weight.ensures.value
    (c.is_by_unit-by_unit.ensures
    ∙ ap (λ (p : Problem). is_by_unit p.goal) c.problem.ensures.value)
    (to_z-of_z w64 due fits ∙ c.due-due.ensures.value)
    (omega (arith, c.if-last-time.false, c.time-time.ensures.small))
