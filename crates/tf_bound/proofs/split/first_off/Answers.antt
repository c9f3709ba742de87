use Rattle.std.proofs.Common.{rules, ◌≡◌, ℕ, Bool, false, not, ap, arith}
use Rattle.tf_posed.specs.ProblemData.{IsProblemJob}
use Rattle.tf_problem.specs.Split.{keeps_side}
use Rattle.tf_bound.specs.Split.{marked}
use Rattle.tf_bound.proofs.Firsts.{first_found, none_found}
use Rattle.tf_bound.proofs.split.first_off.Goals as goal

pub returns-then-not-keeps_side-clause-first : goal.returns-then-not-keeps_side-clause-first
returns-then-not-keeps_side-clause-first g c =
    let k = c.args.task.now in
    let pair = c.args.pair in
    let keeps : ℕ → Bool =
    keeps_side k pair.first pair.second (marked c.args.marks.now) pair.delta pair.by_first in
    let x : ℕ = c.at-job.result in
    let job : IsProblemJob k x = (
      omega (arith, c.at-job.ensures),
      omega (arith, c.at-job.ensures, c.loop-k-test.true, c.len-k-end.ensures.value),
    ) in
    let at : keeps x ≡ false = search rules in
    first_found k (λ j. not (keeps j)) x job
    (λ j low lt. ap not (c.loop-k.invariant j low (omega (arith, lt, c.at-job.ensures)))) (ap not at)

pub returns-clause-first : goal.returns-clause-first
returns-clause-first g c =
    let k = c.args.task.now in
    let pair = c.args.pair in
    none_found k
    (λ j. not (keeps_side k pair.first pair.second (marked c.args.marks.now) pair.delta pair.by_first j))
    (λ j job. ap not (c.loop-k.invariant j job.0
    (omega (arith, job.1, c.len-k-end.ensures.value, c.loop-k-test.false))))
