-- A plan of a task, how good it is, and why there is none.
use Rattle.std.specs.Prelude.{◌≡◌, ◌⊎◌, ◌^◌, ◌≤ℤ◌, ℤ, pos, negsuc}
use Rattle.tf_model.specs.declared.prepare.Refusal.TheVariants.{TotalTooLarge}
use Rattle.tf_model.specs.Timetable.{Timetable}
use Rattle.tf_posed.specs.ProblemData.{ProblemData}
use Rattle.tf_posed.specs.FitsProblem.{FitsProblem}
use Rattle.tf_posed.specs.ProblemCost.{problem_cost}
use Rattle.tf_bound.specs.Sized.{IsSized}
use Rattle.tf_bounding.specs.Feasible.{IsCyclicTask}
use Rattle.tf_engine.specs.Faults.{Refused, ByTask, Stop}
use Rattle.tf_engine.specs.Parts.{StopsBy}
use Rattle.tf_plan.specs.Plan.{IsPlan}
use Rattle.tf_search.specs.Strongest.{IsFound}
use Rattle.tf_planning.specs.declared.made.Made.{Made}

-- the plan fits and costs its value, and no timetable that fits costs less than the bound
pub record IsMade {A : Type 0} (k : ProblemData) (made : Made A) : Type 0 where
  pub plan : IsPlan k made.plan.schedule made.plan.value
  pub found : IsFound k made.found

-- less than -2^63, or 2^63 or more: no answer has such a value
abbrev pub IsBeyond : ℤ → Type 0
IsBeyond value = (value ≤ℤ negsuc (2 ^ 63)) ⊎ (pos (2 ^ 63) ≤ℤ value)

-- there is a timetable that fits, and no answer can say what it costs
pub record IsBeyondAnswers (k : ProblemData) : Type 0 where
  pub rows : Timetable
  pub fits : FitsProblem k rows
  pub beyond : IsBeyond (problem_cost k rows)

-- a number or a total of the task is beyond the limits, or a cost is
abbrev pub IsTooLarge : ProblemData → Type 0
IsTooLarge k = (¬ (IsSized k)) ⊎ IsBeyondAnswers k

-- the arcs have a cycle, so that no timetable fits; or the task is too large
abbrev pub IsUnplannable : ProblemData → Refused → Type 0
IsUnplannable k refused =
    IsCyclicTask k refused ⊎ ((refused ≡ ByTask TotalTooLarge) × IsTooLarge k)

-- why there is no plan: one of these reasons, or memory was wanting
abbrev pub StopsPlanning : ProblemData → Stop → Type 0
StopsPlanning k = StopsBy (IsUnplannable k)
