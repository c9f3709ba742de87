use Rattle.std.proofs.Common.{ℕ, sym, ◌∙◌, arith}
use Rattle.std.proofs.lemmas.Bool.{eq-eqb, ne_eqb}
use Rattle.tf_posed.specs.ProblemData.{IsProblemJob, problem_time_on}
use Rattle.tf_bound.specs.Faulted.{is_idle, timed_machine}
use Rattle.tf_bound.proofs.Firsts.{first_found, none_found}
use Rattle.tf_bound.proofs.multipliers.first_idle.Goals as goal

pub returns-then-time_at-eq0-clause-first : goal.returns-then-time_at-eq0-clause-first
returns-then-time_at-eq0-clause-first g c =
    let k = c.args.task.now in
    let a : ℕ = timed_machine k c.args.machine in
    let x : ℕ = c.at-job.result in
    let job : IsProblemJob k x = (
      omega (arith, c.at-job.ensures),
      omega (arith, c.at-job.ensures, c.loop-k-test.true, c.len-k-end.ensures.value),
    ) in
    first_found k (is_idle k a) x job
    (λ j low lt. ne_eqb (problem_time_on k j a) 0
    (λ none. absurd (omega (
      arith,
      none,
      c.loop-k.invariant j low (omega (arith, lt, c.at-job.ensures)),
    ))))
    (eq-eqb (problem_time_on k x a) 0 (sym c.time_at.ensures ∙ c.if-time_at-eq0.true))

pub returns-clause-first : goal.returns-clause-first
returns-clause-first g c =
    let k = c.args.task.now in
    let a : ℕ = timed_machine k c.args.machine in
    none_found k (is_idle k a)
    (λ j job. ne_eqb (problem_time_on k j a) 0
    (λ none. absurd (omega (
      arith,
      none,
      c.loop-k.invariant j job.0
          (omega (arith, job.1, c.len-k-end.ensures.value, c.loop-k-test.false)),
    ))))
