use Rattle.std.proofs.Common.{◌≡◌, ◌==◌, Bool, true, false, ℕ, ◌+◌, length, sym, ap, ◌∙◌, arith}
use Rattle.std.specs.List.{list_any}
use Rattle.tf_posed.specs.ProblemData.{IsProblemJob}
use Rattle.tf_bound.specs.Faulted.{is_partial}
use Rattle.tf_bound.proofs.Firsts.{first_found, none_found}
use Rattle.tf_bound.proofs.potentials.first_partial.Goals as goal

pub returns-then-has_none-clause-first : goal.returns-then-has_none-clause-first
returns-then-has_none-clause-first g c =
    let k = c.args.task.now in
    let x : ℕ = c.at-job.result in
    let job : IsProblemJob k x = (
      omega (arith, c.at-job.ensures),
      omega (arith, c.at-job.ensures, c.loop-k-test.true, c.len-k-end.ensures.value),
    ) in
    first_found k (is_partial k) x job
    (λ j low lt. c.loop-k.invariant j low (omega (arith, lt, c.at-job.ensures)))
    (sym (ap (list_any (λ t. t == 0)) c.times.ensures.value) ∙ sym c.has_none.ensures
    ∙ c.if-has_none.true)

pub returns-clause-first : goal.returns-clause-first
returns-clause-first g c =
    let k = c.args.task.now in
    none_found k (is_partial k)
    (λ j job. c.loop-k.invariant j job.0
    (omega (arith, job.1, c.len-k-end.ensures.value, c.loop-k-test.false)))
