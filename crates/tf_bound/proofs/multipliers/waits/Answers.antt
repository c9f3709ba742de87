use Rattle.std.proofs.Common.{◌≡◌, ℕ, ◌+◌, ◌-◌, ◌*◌, List, length, slice_index, ap, sum_by, ◌∙◌, arith}
use Rattle.std.specs.List.{range_with_len}
use Rattle.tf_model.proofs.Ranges.{sum_by-range_le, sum_by-range_more}
use Rattle.tf_problem.specs.ProblemBounds.{numerator}
use Rattle.tf_bound.specs.Faulted.{wait_from}
use Rattle.tf_bound.proofs.multipliers.waits.Goals as goal

-- the sum with the wait of one job more
more : (u : List ℕ) (w : ℕ → ℕ) (n x wait : ℕ) → x ≡ n + 1 → wait ≡ w x
    → sum_by (λ j. numerator u j * w j) (range_with_len 1 n) + slice_index u n * wait
    ≡ sum_by (λ j. numerator u j * w j) (range_with_len 1 (n + 1))
more u w n x wait is its =
    let f : ℕ → ℕ = λ j. numerator u j * w j in
    let place : n ≡ x - 1 = omega (arith, is) in
    let next : x ≡ 1 + n = omega (arith, is) in
    omega (
      arith,
      ap (λ m. slice_index u n * m) its ∙ ap (λ i. slice_index u i * w x) place ∙ ap f next,
      sum_by-range_more f 1 n,
    )

pub loop-k-preserved : goal.loop-k-preserved
loop-k-preserved g c =
    let k = c.args.task.now in
    let w : ℕ → ℕ = wait_from k c.args.machine c.args.first in
    omega (
      arith,
      c.in_ok-sum.ensures,
      c.loop-k.invariant,
      more c.args.u.now w c.loop-k.k c.at.result c.wait_of-wait.result c.at.ensures c.wait_of-wait.ensures,
    )

pub returns-in_err-sum : goal.returns-in_err-sum
returns-in_err-sum g c =
    let k = c.args.task.now in
    let w : ℕ → ℕ = wait_from k c.args.machine c.args.first in
    let f : ℕ → ℕ = λ j. numerator c.args.u.now j * w j in
    let n : ℕ = c.loop-k.k in
    let d : ℕ = length k.jobs - (n + 1) in
    let all : n + 1 + d ≡ length k.jobs =
    omega (arith, c.loop-k-test.true, c.len-k-end.ensures.value) in
    rw c.from_residual.ensures
    (omega (
      arith,
      c.in_err-sum.ensures,
      c.loop-k.invariant,
      more c.args.u.now w n c.at.result c.wait_of-wait.result c.at.ensures c.wait_of-wait.ensures,
      sum_by-range_le f 1 (n + 1) d,
      ap (λ m. sum_by f (range_with_len 1 m)) all,
    ))

pub returns : goal.returns
returns g c =
    let k = c.args.task.now in
    let f : ℕ → ℕ = λ j. numerator c.args.u.now j * wait_from k c.args.machine c.args.first j in
    let all : c.loop-k.k ≡ length k.jobs =
    omega (arith, c.len-k-end.ensures.value, c.loop-k-test.false, c.loop-k.auto.k-end) in
    c.loop-k.invariant ∙ ap (λ n. sum_by f (range_with_len 1 n)) all
