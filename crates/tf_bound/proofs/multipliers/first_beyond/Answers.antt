use Rattle.std.proofs.Common.{◌≡◌, ℕ, ◌-◌, ◌*◌, slice_index, ap, ◌∙◌, arith}
use Rattle.std.proofs.lemmas.Bool.{lt-ltb}
use Rattle.tf_posed.specs.ProblemData.{IsProblemJob, problem_weight}
use Rattle.tf_problem.specs.ProblemBounds.{numerator}
use Rattle.tf_bound.specs.Faulted.{is_beyond}
use Rattle.tf_bound.proofs.Faults.{not_lt}
use Rattle.tf_bound.proofs.Firsts.{first_found, none_found}
use Rattle.tf_bound.proofs.multipliers.first_beyond.Goals as goal

pub returns-then-from-clause-first : goal.returns-then-from-clause-first
returns-then-from-clause-first g c =
    let k = c.args.task.now in
    let q : ℕ = c.args.q in
    let v = c.args.v.now in
    let x : ℕ = c.at-job.result in
    let job : IsProblemJob k x = (
      omega (arith, c.at-job.ensures),
      omega (arith, c.at-job.ensures, c.loop-k-test.true, c.len-k-end.ensures.value),
    ) in
    let place : c.loop-k.k ≡ x - 1 = omega (arith, c.at-job.ensures) in
    let most : c.from-in-loop-k.result * c.from-in-loop-k-2.result ≡ q * problem_weight k x =
    ap (λ n. n * c.from-in-loop-k-2.result) c.from-in-loop-k.ensures
    ∙ ap (λ n. q * n) (c.from-in-loop-k-2.ensures ∙ c.weight.ensures.value) in
    let its : c.from.result ≡ numerator v x = c.from.ensures ∙ ap (slice_index v) place in
    first_found k (is_beyond k q v) x job
    (λ j low lt. not_lt (q * problem_weight k j) (numerator v j)
    (c.loop-k.invariant j low (omega (arith, lt, c.at-job.ensures))))
    (lt-ltb (q * problem_weight k x) (numerator v x) (omega (arith, most, its, c.if-from.true)))

pub returns-clause-first : goal.returns-clause-first
returns-clause-first g c =
    let k = c.args.task.now in
    none_found k (is_beyond k c.args.q c.args.v.now)
    (λ j job. not_lt (c.args.q * problem_weight k j) (numerator c.args.v.now j)
    (c.loop-k.invariant j job.0
    (omega (arith, job.1, c.len-k-end.ensures.value, c.loop-k-test.false))))
