use Rattle.std.proofs.Common.{◌≡◌, ℕ, ℤ, ◌+◌, ◌*◌, SFits, to_z, of_z, ap, sym, ◌∙◌, arith, rules}
use Rattle.std.specs.Int.{w64}
use Rattle.std.proofs.lemmas.Int.{to_z-of_z}
use Rattle.tf_model.specs.declared.problem.Problem.{Problem}
use Rattle.tf_posed.specs.ProblemData.{problem_due, problem_release, problem_weight}
use Rattle.tf_problem.specs.ProblemBounds.{problem_work}
use Rattle.tf_bound.specs.Prices.{is_by_unit}
use Rattle.tf_bound.specs.RowSums.{late_steps}
use Rattle.tf_bound.proofs.Sound.{ends_within}
use Rattle.tf_bound.proofs.Cheapest.{penalty_is}
use Rattle.tf_bound.proofs.alone.cost_alone.Goals as goal

pub late_steps-late-requires-clause-end : goal.late_steps-late-requires-clause-end
late_steps-late-requires-clause-end g c =
    omega (
      arith,
      c.release.ensures.value,
      c.work.ensures.value,
      ends_within c.args.task.now c.problem.ensures.sized c.args.job c.requires.job,
    )

pub returns : goal.returns
returns g c =
    let k = c.args.task.now in
    let j : ℕ = c.args.job in
    let end : ℕ = problem_release k j + problem_work k j in
    let due : ℤ = c.due.result in
    let fits : SFits w64 due = search rules in
    let own : ℤ = to_z w64 (of_z w64 due) in
    let at : c.release.result + c.work.result ≡ end =
    omega (arith, c.release.ensures.value, c.work.ensures.value) in
    let unit = c.is_by_unit.ensures ∙ ap (λ (p : Problem). is_by_unit p.goal) c.problem.ensures.value in
    let late : c.late_steps-late.result ≡ late_steps (is_by_unit k.problem.goal) (problem_due k j) end =
    c.late_steps-late.ensures
    ∙ ap (λ b. late_steps b own (c.release.result + c.work.result)) unit
    ∙ ap (λ d. late_steps (is_by_unit k.problem.goal) d (c.release.result + c.work.result))
    (to_z-of_z w64 due fits ∙ c.due.ensures.value)
    ∙ ap (λ n. late_steps (is_by_unit k.problem.goal) (problem_due k j) n) at in
    ap (λ w. w * c.from-2.result) (c.from.ensures ∙ c.weight.ensures.value)
    ∙ ap (λ n. problem_weight k j * n) (c.from-2.ensures ∙ late)
    ∙ sym (penalty_is k.problem.goal c.requires.goal k j end)
