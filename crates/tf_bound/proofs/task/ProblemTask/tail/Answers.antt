use Rattle.std.proofs.Common.{◌≡◌, ◌+◌, ◌-◌, ℕ, true, length, slice_index, sum, sum_by, take, drop, ap, sym, subst, ◌∙◌, arith}
use Rattle.tf_model.specs.ClassTable.{is_flow_env}
use Rattle.tf_model.specs.declared.problem.Problem.{Problem}
use Rattle.tf_posed.specs.ProblemData.{problem_job, is_job_shop}
use Rattle.tf_problem.specs.ProblemBounds.{behind}
use Rattle.tf_bound.specs.Route.{IsRouted}
use Rattle.tf_bound.proofs.Routes.{tail_in_flow, flow_times, part_small, work_small, tail_in_job_shop, has_route}
use Rattle.tf_bound.proofs.task.ProblemTask.tail.Goals as goal

pub total_of-requires : goal.total_of-requires
total_of-requires g c =
    let k = c.args.self.now in
    let xs = c.times.result.now in
    let s : ℕ = c.args.machine + 1 in
    omega (
      arith,
      part_small xs s (length xs - s),
      ap sum c.times.ensures.value,
      work_small k c.problem-env.ensures.sized c.args.job c.requires.job,
    )

pub returns-then-is_flow-clause-value : goal.returns-then-is_flow-clause-value
returns-then-is_flow-clause-value g c =
    let k = c.args.self.now in
    let s : ℕ = c.args.machine + 1 in
    let flow : is_flow_env k.problem.env ≡ true =
    ap (λ (p : Problem). is_flow_env p.env) (sym c.problem-env.ensures.value) ∙ sym c.if-is_flow.ensures in
    let as_many : length (problem_job k c.args.job).times ≡ k.machines =
    flow_times k c.problem-env.ensures.sized flow c.args.job c.requires.job in
    c.total_of.ensures
    ∙ ap (λ xs. sum (take (length xs - s) (drop s xs))) c.times.ensures.value
    ∙ ap (λ n. sum (take (n - s) (drop s (problem_job k c.args.job).times))) as_many
    ∙ sym (tail_in_flow k flow c.args.machine c.args.job c.requires.machine as_many)

pub returns-then-is_flow-clause-small : goal.returns-then-is_flow-clause-small
returns-then-is_flow-clause-small g c =
    let k = c.args.self.now in
    let xs = c.times.result.now in
    let s : ℕ = c.args.machine + 1 in
    omega (
      arith,
      c.total_of.ensures,
      part_small xs s (length xs - s),
      ap sum c.times.ensures.value,
      work_small k c.problem-env.ensures.sized c.args.job c.requires.job,
    )

pub time_behind-requires-clause-route : goal.time_behind-requires-clause-route
time_behind-requires-clause-route g c =
    let k = c.args.self.now in
    let routed : is_job_shop k.problem.env ≡ true =
    ap (λ (p : Problem). is_job_shop p.env) (sym c.problem-env.ensures.value)
    ∙ sym (c.if-is_job_shop.ensures) in
    subst (λ xs. IsRouted (length xs) xs c.route.result.now) (sym c.times-then-is_job_shop.ensures.value)
    (subst (IsRouted (length (problem_job k c.args.job).times) (problem_job k c.args.job).times)
    (sym c.route.ensures.value)
    (has_route k c.problem-env.ensures.sized routed c.args.job c.requires.job))

pub time_behind-requires-clause-small : goal.time_behind-requires-clause-small
time_behind-requires-clause-small g c =
    omega (
      arith,
      ap sum c.times-then-is_job_shop.ensures.value,
      work_small c.args.self.now c.problem-env.ensures.sized c.args.job c.requires.job,
    )

pub returns-then-is_job_shop-clause-value : goal.returns-then-is_job_shop-clause-value
returns-then-is_job_shop-clause-value g c =
    let k = c.args.self.now in
    let routed : is_job_shop k.problem.env ≡ true =
    ap (λ (p : Problem). is_job_shop p.env) (sym c.problem-env.ensures.value)
    ∙ sym (c.if-is_job_shop.ensures) in
    c.time_behind.ensures.value
    ∙ ap (λ xs. sum_by (slice_index xs) (behind c.args.machine c.route.result.now))
    c.times-then-is_job_shop.ensures.value
    ∙ ap (λ r. sum_by (slice_index (problem_job k c.args.job).times) (behind c.args.machine r))
    c.route.ensures.value ∙ sym (tail_in_job_shop k routed c.args.machine c.args.job)
