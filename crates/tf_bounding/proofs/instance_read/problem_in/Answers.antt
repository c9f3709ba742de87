use Rattle.std.proofs.Common.{rules, ◌≡◌, refl, Err}
use Rattle.tf_model.specs.declared.prepare.Refusal.TheVariants.{NoSolver}
use Rattle.tf_engine.specs.Faults.{ByTask}
use Rattle.tf_bounding.specs.RunBounding.{problem_in}
use Rattle.tf_bounding.proofs.instance_read.problem_in.Goals as goal

pub returns-then-not-is_taken : goal.returns-then-not-is_taken
returns-then-not-is_taken g c =
    let refused : problem_in c.args.text.now ≡ Err (ByTask NoSolver) = search rules in
    (ByTask NoSolver, refl, refused)
