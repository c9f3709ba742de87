use Rattle.std.proofs.Common.{◌≡◌, ℕ, ◌+◌, ◌≤◌, ℤ, pos, ◌≤ℤ◌, length, sum_by, to_z, ap, sym, subst, arith, rules}
use Rattle.std.specs.Int.{w128}
use Rattle.std.specs.List.{range_with_len}
use Rattle.std.proofs.lemmas.Int.{ints}
use Rattle.tf_model.proofs.Ranges.{sum_by-range_more}
use Rattle.tf_posed.specs.ProblemData.{problem_release}
use Rattle.tf_posed.specs.ProblemCost.{penalty, problem_cost}
use Rattle.tf_problem.specs.ProblemBounds.{alone_cost, problem_work}
use Rattle.tf_bound.proofs.Sound.{sound}
use Rattle.tf_bound.proofs.alone.capped_cost.Goals as goal

pub loop-k-preserved : goal.loop-k-preserved
loop-k-preserved g c =
    let k = c.args.task.now in
    let cost : ℕ → ℕ = λ j. penalty k.problem.goal k j (problem_release k j + problem_work k j) in
    let place : c.at.result ≡ 1 + c.loop-k.k = omega (arith, c.at.ensures) in
    omega (
      arith,
      c.min-sum.ensures,
      c.saturating_add.ensures,
      c.loop-k.invariant,
      c.cost_alone.ensures,
      sum_by-range_more cost 1 c.loop-k.k,
      ap cost place,
    )

pub returns-clause-bound : goal.returns-clause-bound
returns-clause-bound g c =
    let k = c.args.task.now in
    let cost : ℕ → ℕ = λ j. penalty k.problem.goal k j (problem_release k j + problem_work k j) in
    let all : c.loop-k.k ≡ length k.jobs =
    omega (arith, c.len-k-end.ensures.value, c.loop-k-test.false, c.loop-k.auto.k-end) in
    let most : c.loop-k.sum ≤ alone_cost k =
    omega (arith, c.loop-k.invariant, ap (λ n. sum_by cost (range_with_len 1 n)) all) in
    let is : to_z w128 c.loop-k.sum ≡ pos c.loop-k.sum = search rules in
    λ rows fits.
    subst (λ (z : ℤ). z ≤ℤ problem_cost k rows) (sym is)
    (below c.loop-k.sum (alone_cost k) (problem_cost k rows) most
    (c.alone_law.ensures k (sound k c.len-k-end.ensures.sized) c.requires.goal rows fits))
  where
    below : (a b : ℕ) (c : ℤ) → a ≤ b → pos b ≤ℤ c → pos a ≤ℤ c
    below a b c p r = omega (arith, ints)
