use Rattle.std.proofs.Common.{ℕ, sym, ◌∙◌, arith}
use Rattle.tf_posed.specs.ProblemData.{IsProblemJob}
use Rattle.tf_bound.specs.Faulted.{is_at_odds}
use Rattle.tf_bound.proofs.Firsts.{any_found, no_found}
use Rattle.tf_bound.proofs.potentials.has_odds.Goals as goal

pub returns-then-is_at_odds : goal.returns-then-is_at_odds
returns-then-is_at_odds g c =
    let k = c.args.task.now in
    let x : ℕ = c.at.result in
    let job : IsProblemJob k x = (
      omega (arith, c.at.ensures),
      omega (arith, c.at.ensures, c.loop-k-test.true, c.len-k-end.ensures.value),
    ) in
    sym (any_found k (is_at_odds k c.args.numbers.now c.args.job) x job
    (sym c.is_at_odds.ensures ∙ c.if-is_at_odds.true))

pub returns : goal.returns
returns g c =
    let k = c.args.task.now in
    sym (no_found k (is_at_odds k c.args.numbers.now c.args.job)
    (λ j job. c.loop-k.invariant j job.0
    (omega (arith, job.1, c.len-k-end.ensures.value, c.loop-k-test.false))))
