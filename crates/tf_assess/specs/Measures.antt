-- What a schedule comes to by each objective that its instance has the fields for.
use Rattle.std.specs.Prelude.{◌≡◌, ◌≢◌, ◌⊎◌, ℕ, ◌-◌, ℤ, pos, int_lt, nat_lt, List, [], ◌∷◌, ◌++◌, length, take, codes, Option, None, Some, Ok, Err, IsErr, MatchOption, option_map, if◌then◌else◌}
use Rattle.std.specs.Fmt.{signed_decimal}
use Rattle.tf_model.specs.declared.prepare.Refusal.{Refusal}
use Rattle.tf_model.specs.declared.prepare.Refusal.TheVariants.{OutOfMemory}
use Rattle.tf_model.specs.declared.problem.Problem.{Problem}
use Rattle.tf_model.specs.declared.problem.Goal.{Goal}
use Rattle.tf_model.specs.declared.problem.Goal.TheVariants as goals
use Rattle.tf_notation.specs.Reading.{notation}
use Rattle.tf_posed.specs.ProblemData.{ProblemData}
use Rattle.tf_prepare.specs.TimedData.{TimedData}
use Rattle.tf_prepare.specs.Preparing.{prepared_in, PreparesIn}
use Rattle.tf_schedule.specs.declared.piece.Piece.{Piece}
use Rattle.tf_text.specs.AnswerText.{line_text}
use Rattle.tf_engine.specs.RequestData.{RequestData}
use Rattle.tf_bounding.specs.ShopTimes.{timed_said}
use Rattle.tf_evaluate.specs.EvaluationData.{value_in}
use Rattle.tf_assess.specs.Assessing.{IsProblemJudged}
use Rattle.tf_evaluate.specs.declared.evaluation.ProblemFit.{ProblemFit}
use Rattle.tf_evaluate.specs.declared.evaluation.ProblemFit.TheVariants.{Fits}
use Rattle.tf_assess.specs.declared.measures.Measures.{Measures}

-- an instance, and how a problem reads it
pub record PosedData : Type 0 where
  pub timed : TimedData
  pub problem : Problem
  pub machines : Option ℕ

-- what the request and the instance mean
pub record IsPosed (request : RequestData) (instance : List ℕ) (posed : PosedData) : Type 0 where
  pub problem : notation request.problem ≡ Ok posed.problem
  pub timed : timed_said request.form posed.problem.env instance ≡ Ok posed.timed
  pub machines : posed.machines ≡ request.machines

-- the problem line or the instance is at fault
abbrev pub IsUnposed : RequestData → List ℕ → Type 0
IsUnposed request instance =
    IsErr (notation request.problem)
    ⊎ ((problem : Problem) × (notation request.problem ≡ Ok problem)
    × IsErr (timed_said request.form problem.env instance))

-- ---- by one objective

-- the same problem with another objective
abbrev pub by_goal : Problem → Goal → Problem
by_goal problem goal = record problem { goal = goal }

-- the pieces draw a timetable that fits the task of the instance by this objective, and costs this
pub record HasMeasure (timed : TimedData) (problem : Problem) (machines : Option ℕ)
    (pieces : List Piece) (goal : Goal) (value : ℤ) : Type 0 where
  pub task : ProblemData
  pub meant : prepared_in timed (by_goal problem goal) machines ≡ Ok task
  pub fits : IsProblemJudged task pieces (Fits (Some value))

-- the instance makes no task by this objective, for a reason that is not want of memory
abbrev pub IsUnmade : TimedData → Problem → Option ℕ → Goal → Type 0
IsUnmade timed problem machines goal =
    (refusal : Refusal)
    × PreparesIn (Err refusal) (prepared_in timed (by_goal problem goal) machines)
    × (refusal ≢ OutOfMemory)

-- there is no such task, or the pieces have no cost on it
abbrev pub HasNoMeasure : TimedData → Problem → Option ℕ → List Piece → Goal → Type 0
HasNoMeasure timed problem machines pieces goal =
    IsUnmade timed problem machines goal
    ⊎ ((task : ProblemData) × (prepared_in timed (by_goal problem goal) machines ≡ Ok task)
    × ((fit : ProblemFit) × IsProblemJudged task pieces fit × (value_in (Some fit) ≡ None)))

abbrev pub IsMeasure : PosedData → List Piece → Goal → Option ℤ → Type 0
IsMeasure posed pieces goal value =
    MatchOption value (HasNoMeasure posed.timed posed.problem posed.machines pieces goal)
    (HasMeasure posed.timed posed.problem posed.machines pieces goal)

-- ---- by each of them

pub record AreMeasures (posed : PosedData) (pieces : List Piece) (m : Measures) : Type 0 where
  pub makespan : IsMeasure posed pieces goals.Cmax m.makespan
  pub lateness : IsMeasure posed pieces goals.Lmax m.lateness
  pub completion : IsMeasure posed pieces goals.SumC m.completion
  pub weighted_completion : IsMeasure posed pieces goals.SumWC m.weighted_completion
  pub tardiness : IsMeasure posed pieces goals.SumT m.tardiness
  pub weighted_tardiness : IsMeasure posed pieces goals.SumWT m.weighted_tardiness
  pub late : IsMeasure posed pieces goals.SumU m.late
  pub weighted_late : IsMeasure posed pieces goals.SumWU m.weighted_late

-- the same where they are asked for, which is where the instance is given
abbrev pub AreMeasuredBy : Option PosedData → List Piece → Option Measures → Type 0
AreMeasuredBy None pieces None = Unit {0}
AreMeasuredBy None pieces (Some m) = ⊥
AreMeasuredBy (Some posed) pieces None = ⊥
AreMeasuredBy (Some posed) pieces (Some m) = AreMeasures posed pieces m

-- ---- as lines

-- the number, or 0 where it is negative
abbrev pub from_zero : ℤ → ℤ
from_zero value = if int_lt value (pos 0) then pos 0 else value

-- the maximum tardiness by the maximum lateness
abbrev pub tardiness : Option ℤ → Option ℤ
tardiness value = option_map from_zero value

-- the line of a value that is known
abbrev pub measure_line : List ℕ → Option ℤ → List ℕ
measure_line name None = []
measure_line name (Some value) = line_text (name ∷ signed_decimal value ∷ [])

-- the lines in the order in which they are told
abbrev pub measure_lines : Measures → List ℕ
measure_lines m =
    measure_line (codes "measure Cmax") m.makespan
    ++ (measure_line (codes "measure Lmax") m.lateness
    ++ (measure_line (codes "measure Tmax") (tardiness m.lateness)
    ++ (measure_line (codes "measure sumC") m.completion
    ++ (measure_line (codes "measure sumwC") m.weighted_completion
    ++ (measure_line (codes "measure sumT") m.tardiness
    ++ (measure_line (codes "measure sumwT") m.weighted_tardiness
    ++ (measure_line (codes "measure sumU") m.late
    ++ measure_line (codes "measure sumwU") m.weighted_late)))))))

-- an evaluation, which ends with a line of four bytes, with the lines of its measures before that
abbrev pub measured_text : List ℕ → Option Measures → List ℕ
measured_text text None = text
measured_text text (Some m) =
    if nat_lt (length text) 4 then text
    else take (length text - 4) text ++ (measure_lines m ++ codes "end\n")

-- ---- as words of one line

-- a number, or `-` where there is none
abbrev pub value_word : Option ℤ → List ℕ
value_word None = codes "-"
value_word (Some value) = signed_decimal value

abbrev pub measure_words : Measures → List (List ℕ)
measure_words m =
    value_word m.makespan ∷ value_word m.lateness ∷ value_word (tardiness m.lateness)
    ∷ value_word m.completion ∷ value_word m.weighted_completion ∷ value_word m.tardiness
    ∷ value_word m.weighted_tardiness ∷ value_word m.late ∷ value_word m.weighted_late ∷ []

-- the same where they are asked for
abbrev pub measured_words : Option Measures → List (List ℕ)
measured_words None = []
measured_words (Some m) = measure_words m
