use Rattle.std.proofs.Common.{rules, ◌≡◌, refl, Err}
use Rattle.tf_model.specs.declared.prepare.Refusal.TheVariants.{NoSolver}
use Rattle.tf_engine.specs.Faults.{ByTask}
use Rattle.tf_engine.specs.Refusal.{problem_for}
use Rattle.tf_engine.proofs.task_for.problem_for.Goals as goal

pub returns-in-None : goal.returns-in-None
returns-in-None g c =
    let refused : problem_for c.args.text.now ≡ Err (ByTask NoSolver) = search rules in
    (ByTask NoSolver, refl, refused)
