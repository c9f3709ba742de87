use Rattle.std.proofs.Common.{◌≡◌, false, ℕ, sym, ◌∙◌, arith}
use Rattle.tf_posed.specs.ProblemData.{IsProblemJob}
use Rattle.tf_bound.specs.Faulted.{is_excessive}
use Rattle.tf_bound.proofs.Firsts.{first_found, none_found, up_to_more}
use Rattle.tf_bound.proofs.potentials.first_excessive.Goals as goal

pub returns-then-is_excessive-clause-first : goal.returns-then-is_excessive-clause-first
returns-then-is_excessive-clause-first g c =
    let k = c.args.task.now in
    let x : ℕ = c.at-job.result in
    let job : IsProblemJob k x = (
      omega (arith, c.at-job.ensures),
      omega (arith, c.at-job.ensures, c.loop-k-test.true, c.len-k-end.ensures.value),
    ) in
    first_found k (is_excessive k c.args.numbers.now) x job
    (λ j low lt. c.loop-k.invariant j low (omega (arith, lt, c.at-job.ensures)))
    (sym c.is_excessive.ensures ∙ c.if-is_excessive.true)

pub returns-clause-first : goal.returns-clause-first
returns-clause-first g c =
    let k = c.args.task.now in
    none_found k (is_excessive k c.args.numbers.now)
    (λ j job. c.loop-k.invariant j job.0
    (omega (arith, job.1, c.len-k-end.ensures.value, c.loop-k-test.false)))

pub loop-k-preserved : goal.loop-k-preserved
loop-k-preserved g c =
    let k = c.args.task.now in
    up_to_more (λ j. is_excessive k c.args.numbers.now j ≡ false) c.loop-k.k c.at-job.result
    c.at-job.ensures c.loop-k.invariant (sym c.is_excessive.ensures ∙ c.if-is_excessive.false)
