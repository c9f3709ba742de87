use Rattle.std.proofs.Common.{◌≡◌, ℕ, ◌+◌, ◌*◌, ◌^◌, ◌≤◌, ℤ, pos, ◌+ℤ◌, ◌-ℤ◌, ◌≤ℤ◌, List, length, SFits, to_z, of_z, ap, sym, ◌∙◌, arith, rules}
use Rattle.std.specs.Int.{w64, w128}
use Rattle.std.specs.List.{range_with_len}
use Rattle.std.proofs.lemmas.Int.{ints, to_z-of_z}
use Rattle.tf_model.specs.Limit.{most_jobs}
use Rattle.tf_problem.specs.ProblemBounds.{int_sum}
use Rattle.tf_problem.specs.Potentials.{potential_of_end, potential_after, potential_before}
use Rattle.tf_bound.proofs.Weighed.{int_sum_more}
use Rattle.tf_bound.proofs.potentials.sum_of.Goals as goal

-- the sum with the numbers of one job more
pair-more : (f : ℕ → ℤ) (e sum one other : ℤ) (n x : ℕ) → x ≡ n + 1
    → sum ≡ e +ℤ int_sum f (range_with_len 1 n) → one +ℤ other ≡ f x
    → sum +ℤ (one +ℤ other) ≡ e +ℤ int_sum f (range_with_len 1 (n + 1))
pair-more f e sum one other n x is so_far its =
    regroup sum e (int_sum f (range_with_len 1 n)) (f x) (one +ℤ other)
    (int_sum f (range_with_len 1 (n + 1))) so_far its (int_sum_more f n x is)
  where
    regroup : (a b c d h m : ℤ) → a ≡ b +ℤ c → h ≡ d → m ≡ c +ℤ d → a +ℤ h ≡ b +ℤ m
    regroup a b c d h m p q r = omega (arith, ints, p, q, r)

-- between two bounds, which one job more moves apart
lower : (n : ℕ) (sum new : ℤ) → (pos 0 -ℤ pos ((n + 1) * 2 ^ 64)) ≤ℤ sum
    → (sum -ℤ pos (2 ^ 64)) ≤ℤ new → (pos 0 -ℤ pos ((n + 1 + 1) * 2 ^ 64)) ≤ℤ new
lower n sum new p q = omega (arith, ints, p, q)

higher : (n : ℕ) (sum new : ℤ) → sum ≤ℤ pos ((n + 1) * 2 ^ 64)
    → new ≤ℤ (sum +ℤ pos (2 ^ 64)) → new ≤ℤ pos ((n + 1 + 1) * 2 ^ 64)
higher n sum new p q = omega (arith, ints, p, q)

low-enough : (n : ℕ) (sum : ℤ) → n ≤ most_jobs → (pos 0 -ℤ pos ((n + 1) * 2 ^ 64)) ≤ℤ sum
    → (pos 0 -ℤ pos (2 ^ 120)) ≤ℤ sum
low-enough n sum few p = omega (arith, ints, few, p)

high-enough : (n : ℕ) (sum : ℤ) → n ≤ most_jobs → sum ≤ℤ pos ((n + 1) * 2 ^ 64)
    → sum ≤ℤ pos (2 ^ 120)
high-enough n sum few p = omega (arith, ints, few, p)

pub with_pair-sum-requires-clause-low : goal.with_pair-sum-requires-clause-low
with_pair-sum-requires-clause-low g c =
    low-enough c.loop-k.k _
    (omega (arith, c.loop-k-test.true, c.len-k-end.ensures.value, c.len-k-end.ensures.sized.few_jobs))
    c.loop-k.invariant.low

pub with_pair-sum-requires-clause-high : goal.with_pair-sum-requires-clause-high
with_pair-sum-requires-clause-high g c =
    high-enough c.loop-k.k _
    (omega (arith, c.loop-k-test.true, c.len-k-end.ensures.value, c.len-k-end.ensures.sized.few_jobs))
    c.loop-k.invariant.high

pub loop-k-preserved : goal.loop-k-preserved
loop-k-preserved g c =
    let p : List ℤ = c.args.numbers.now in
    let f : ℕ → ℤ = λ j. potential_after p j +ℤ potential_before p j in
    let n : ℕ = c.loop-k.k in
    let x : ℕ = c.at-job.result in
    let sum : ℤ = to_z w128 c.loop-k.sum-bits in
    let one : ℤ = to_z w64 (of_z w64 c.after.result) in
    let other : ℤ = to_z w64 (of_z w64 c.before-in-loop-k.result) in
    let fits : SFits w128 c.with_pair-sum.result = search rules in
    let one_fits : SFits w64 c.after.result = search rules in
    let other_fits : SFits w64 c.before-in-loop-k.result = search rules in
    let one_is : one ≡ potential_after p x = to_z-of_z w64 c.after.result one_fits ∙ c.after.ensures in
    let other_is : other ≡ potential_before p x =
    to_z-of_z w64 c.before-in-loop-k.result other_fits ∙ c.before-in-loop-k.ensures in
    let its : one +ℤ other ≡ f x =
    ap (λ z. z +ℤ other) one_is ∙ ap (λ z. potential_after p x +ℤ z) other_is in
    let value : to_z w128 (of_z w128 c.with_pair-sum.result) ≡ c.with_pair-sum.result =
    to_z-of_z w128 c.with_pair-sum.result fits in
    record {
      sum = value ∙ c.with_pair-sum.ensures.value
          ∙ pair-more f (potential_of_end p) sum one other n x c.at-job.ensures c.loop-k.invariant.sum its;
      low = rw value (lower n sum c.with_pair-sum.result c.loop-k.invariant.low c.with_pair-sum.ensures.low);
      high = rw value (higher n sum c.with_pair-sum.result c.loop-k.invariant.high
          c.with_pair-sum.ensures.high);
    }

pub returns : goal.returns
returns g c =
    let k = c.args.task.now in
    let p : List ℤ = c.args.numbers.now in
    let f : ℕ → ℤ = λ j. potential_after p j +ℤ potential_before p j in
    let all : c.loop-k.k ≡ length k.jobs =
    omega (arith, c.len-k-end.ensures.value, c.loop-k-test.false, c.loop-k.auto.k-end) in
    c.loop-k.invariant.sum
    ∙ ap (λ (n : ℕ). potential_of_end p +ℤ int_sum f (range_with_len 1 n)) all
