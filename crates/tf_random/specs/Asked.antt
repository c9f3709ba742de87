-- The random table for a problem in three-field notation.
use Rattle.std.specs.Prelude.{◌≡◌, ℕ, List, None, Some, Ok, Err}
use Rattle.tf_model.specs.declared.problem.Problem.{Problem}
use Rattle.tf_notation.specs.Reading.{notation}
use Rattle.tf_random.specs.Plan.{plan_of}
use Rattle.tf_random.specs.Table.{random_table}
use Rattle.tf_random.specs.declared.plan.Plan.{Plan}
use Rattle.tf_random.specs.declared.run_random.RandomFault.{RandomFault}
use Rattle.tf_random.specs.declared.run_random.RandomFault.TheVariants.{Notation, NotInATable, OutOfMemory}
use Rattle.tf_random.specs.declared.run_random.Wanted.{Wanted}

-- the text is the table of the plan for the problem that is named
pub record IsTableFor (wanted : Wanted) (text : List ℕ) : Type 0 where
  pub problem : Problem
  pub is_read : notation wanted.problem.now ≡ Ok problem
  pub plan : Plan
  pub planned : plan_of problem wanted.jobs wanted.machines wanted.most wanted.seed ≡ Some plan
  pub text_is : text ≡ random_table problem plan

-- the notation is at fault, or a table has no place for the problem
abbrev pub IsFaultOf : Wanted → RandomFault → Type 0
IsFaultOf wanted (Notation fault) = notation wanted.problem.now ≡ Err fault.byte
IsFaultOf wanted NotInATable =
    (problem : Problem) × (notation wanted.problem.now ≡ Ok problem)
    × (plan_of problem wanted.jobs wanted.machines wanted.most wanted.seed ≡ None)
IsFaultOf wanted OutOfMemory = Unit {0}
