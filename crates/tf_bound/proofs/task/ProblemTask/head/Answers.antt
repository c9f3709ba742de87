use Rattle.std.proofs.Common.{◌≡◌, true, length, slice_index, sum, sum_by, take, ap, sym, subst, ◌∙◌, arith}
use Rattle.tf_model.specs.ClassTable.{is_flow_env}
use Rattle.tf_model.specs.declared.problem.Problem.{Problem}
use Rattle.tf_posed.specs.ProblemData.{problem_job, is_job_shop}
use Rattle.tf_problem.specs.ProblemBounds.{before}
use Rattle.tf_bound.specs.Route.{IsRouted}
use Rattle.tf_bound.proofs.Routes.{head_in_flow, flow_times, head_in_job_shop, has_route, work_small}
use Rattle.tf_bound.proofs.task.ProblemTask.head.Goals as goal

pub returns-then-is_flow-clause-value : goal.returns-then-is_flow-clause-value
returns-then-is_flow-clause-value g c =
    let k = c.args.self.now in
    let flow : is_flow_env k.problem.env ≡ true =
    ap (λ (p : Problem). is_flow_env p.env) (sym c.problem-env.ensures.value) ∙ sym c.if-is_flow.ensures in
    omega (
      arith,
      c.release-release.ensures.value,
      c.total_of.ensures,
      ap (λ xs. sum (take c.args.machine xs)) c.times.ensures.value,
      head_in_flow k flow c.args.machine c.args.job c.requires.machine
          (flow_times k c.problem-env.ensures.sized flow c.args.job c.requires.job),
    )

pub time_before-requires-clause-route : goal.time_before-requires-clause-route
time_before-requires-clause-route g c =
    let k = c.args.self.now in
    let routed : is_job_shop k.problem.env ≡ true =
    ap (λ (p : Problem). is_job_shop p.env) (sym c.problem-env.ensures.value)
    ∙ sym (c.if-is_job_shop.ensures) in
    subst (λ xs. IsRouted (length xs) xs c.route.result.now) (sym c.times-then-is_job_shop.ensures.value)
    (subst (IsRouted (length (problem_job k c.args.job).times) (problem_job k c.args.job).times)
    (sym c.route.ensures.value)
    (has_route k c.problem-env.ensures.sized routed c.args.job c.requires.job))

pub time_before-requires-clause-small : goal.time_before-requires-clause-small
time_before-requires-clause-small g c =
    omega (
      arith,
      ap sum c.times-then-is_job_shop.ensures.value,
      work_small c.args.self.now c.problem-env.ensures.sized c.args.job c.requires.job,
    )

pub returns-then-is_job_shop-clause-value : goal.returns-then-is_job_shop-clause-value
returns-then-is_job_shop-clause-value g c =
    let k = c.args.self.now in
    let routed : is_job_shop k.problem.env ≡ true =
    ap (λ (p : Problem). is_job_shop p.env) (sym c.problem-env.ensures.value)
    ∙ sym (c.if-is_job_shop.ensures) in
    omega (
      arith,
      c.release-release.ensures.value,
      c.time_before.ensures.value,
      ap (λ xs. sum_by (slice_index xs) (before c.args.machine c.route.result.now))
          c.times-then-is_job_shop.ensures.value,
      ap (λ r. sum_by (slice_index (problem_job k c.args.job).times) (before c.args.machine r))
          c.route.ensures.value,
      head_in_job_shop k routed c.args.machine c.args.job,
    )
