-- What an evaluation of an answer to any problem leaves behind.
use Rattle.std.specs.Prelude.{◌≡◌, ℕ, Bool, false, List, None, is_some, Result, Ok, Err, IsTrue, IsFalse, if◌then◌else◌}
use Rattle.tf_model.specs.declared.problem.Problem.{Problem}
use Rattle.tf_model.specs.ClassTable.{class_of}
use Rattle.tf_notation.specs.Reading.{notation}
use Rattle.tf_text.specs.Counted.{DeviceUse}
use Rattle.tf_engine.specs.declared.fault.RunFault.{RunFault}
use Rattle.tf_engine.specs.Faults.{Refused}
use Rattle.tf_engine.specs.Refusal.{problem_for}
use Rattle.tf_engine.specs.RequestData.{RequestData}
use Rattle.tf_engine.specs.Runs.{IsOutcome}
use Rattle.tf_bounding.specs.RunBounding.{problem_in}
use Rattle.tf_evaluate.specs.declared.evaluation.Detail.{Detail}
use Rattle.tf_evaluate.specs.declared.evaluation.Standing.{Standing}
use Rattle.tf_evaluate.specs.RunEvaluating.{evaluation_run}
use Rattle.tf_assess.specs.RunAssessing.{assessment_run}

-- whether the problem of a line is of a class, which has a solver
abbrev pub is_solved_by : Result Problem ℕ → Bool
is_solved_by (Ok problem) = is_some (class_of problem)
is_solved_by (Err byte) = false

abbrev pub is_solved : List ℕ → Bool
is_solved text = is_solved_by (notation text)

-- the problem of a line: of a class, or one of which some kind of certificate bounds the tasks
abbrev pub posed_problem : List ℕ → Result Problem Refused
posed_problem text = if is_solved text then problem_for text else problem_in text

-- An answer to a problem of a class is evaluated, and one to another problem is assessed.
pub record IsRatingOf {A : Type 0} (detail : Detail) (request : RequestData)
    (instance answer writer : DeviceUse) (result : Result Standing (RunFault A)) : Type 0 where
  pub solved : IsTrue (is_solved request.problem)
      → IsOutcome (evaluation_run detail request instance answer) writer result
  pub unsolved : IsFalse (is_solved request.problem)
      → IsOutcome (assessment_run A None request instance answer) writer result
