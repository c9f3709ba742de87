use Rattle.std.proofs.Common.{◌≡◌, ℕ, ◌+◌, ◌-◌, length, sum, take, drop, sym, ap, ◌∙◌, arith}
use Rattle.tf_posed.specs.ProblemData.{problem_job}
use Rattle.tf_bound.proofs.Routes.{flow_times, part_small, range_sum, work_small}
use Rattle.tf_bound.proofs.task.ProblemTask.lag.Goals as goal

pub total_of-requires : goal.total_of-requires
total_of-requires g c =
    let s : ℕ = c.args.first + 1 in
    omega (
      arith,
      part_small c.times.result.now s (c.args.second - s),
      ap sum c.times.ensures.value,
      work_small c.args.self.now c.times.ensures.sized c.args.job c.requires.job,
    )

pub returns-clause-value : goal.returns-clause-value
returns-clause-value g c =
    let k = c.args.self.now in
    let s : ℕ = c.args.first + 1 in
    let n : ℕ = c.args.second - s in
    let pair = c.requires.pair in
    let as_many : length (problem_job k c.args.job).times ≡ k.machines =
    flow_times k c.times.ensures.sized pair.flow c.args.job c.requires.job in
    c.total_of.ensures ∙ ap (λ xs. sum (take n (drop s xs))) c.times.ensures.value
    ∙ sym (range_sum (problem_job k c.args.job).times s n
    (omega (arith, as_many, pair.before, pair.within)))

pub returns-clause-small : goal.returns-clause-small
returns-clause-small g c =
    let s : ℕ = c.args.first + 1 in
    omega (
      arith,
      c.total_of.ensures,
      part_small c.times.result.now s (c.args.second - s),
      ap sum c.times.ensures.value,
      work_small c.args.self.now c.times.ensures.sized c.args.job c.requires.job,
    )
