use Rattle.std.proofs.Common.{rules, ◌≡◌, ℕ, Bool, true, sym, arith}
use Rattle.tf_posed.specs.ProblemData.{IsProblemJob}
use Rattle.tf_problem.specs.Split.{reaches_delta}
use Rattle.tf_bound.specs.Split.{marked}
use Rattle.tf_bound.proofs.Firsts.{any_found, no_found}
use Rattle.tf_bound.proofs.split.is_reached.Goals as goal

pub returns-then-reaches_delta-clause-any : goal.returns-then-reaches_delta-clause-any
returns-then-reaches_delta-clause-any g c =
    let k = c.args.task.now in
    let pair = c.args.pair in
    let reaches : ℕ → Bool =
    reaches_delta k pair.first pair.second (marked c.args.marks.now) pair.delta pair.by_first in
    let x : ℕ = c.at.result in
    let job : IsProblemJob k x = (
      omega (arith, c.at.ensures),
      omega (arith, c.at.ensures, c.loop-k-test.true, c.len-k-end.ensures.value),
    ) in
    let at : reaches x ≡ true = search rules in
    sym (any_found k reaches x job at)

pub returns-clause-any : goal.returns-clause-any
returns-clause-any g c =
    let k = c.args.task.now in
    let pair = c.args.pair in
    sym (no_found k
    (reaches_delta k pair.first pair.second (marked c.args.marks.now) pair.delta pair.by_first)
    (λ j job. c.loop-k.invariant j job.0
    (omega (arith, job.1, c.len-k-end.ensures.value, c.loop-k-test.false))))
