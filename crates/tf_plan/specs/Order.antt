-- An order of all jobs that keeps the arcs, or why there is none.
use Rattle.std.specs.Prelude.{ℕ, List, [], ◌∷◌, IsTrue}
use Rattle.std.specs.List.{Contains}
use Rattle.tf_model.specs.Timetable.{Timetable}
use Rattle.tf_posed.specs.FitsProblem.{FitsProblem}
use Rattle.tf_posed.specs.ProblemData.{ProblemData}
use Rattle.tf_plan.specs.declared.order.OrderFault.{OrderFault}
use Rattle.tf_plan.specs.declared.order.OrderFault.TheVariants.{Cycle, OutOfMemory}

-- job j precedes the first of the list, each of the list the next, and the last precedes `end`
abbrev pub LeadsBy : List (ℕ × ℕ) → ℕ → List ℕ → ℕ → Type 0
LeadsBy arcs j [] end = Contains arcs (j, end)
LeadsBy arcs j (i ∷ jobs) end = Contains arcs (j, i) × LeadsBy arcs i jobs end

-- each of the jobs precedes the next by an arc, and the last the first
abbrev pub IsCycleOf : List (ℕ × ℕ) → List ℕ → Type 0
IsCycleOf arcs [] = ⊥
IsCycleOf arcs (j ∷ jobs) = LeadsBy arcs j jobs j

-- the problem has arcs, and the jobs are a cycle of them, so that no timetable fits
pub record IsProblemCycle (k : ProblemData) (jobs : List ℕ) : Type 0 where
  pub prec : IsTrue k.problem.prec
  pub cycle : IsCycleOf k.arcs jobs
  pub infeasible : (rows : Timetable) → FitsProblem k rows → ⊥

-- some timetable fits the task
abbrev pub IsFeasible : ProblemData → Type 0
IsFeasible k = (rows : Timetable) × FitsProblem k rows

-- why there is no order
abbrev pub IsNoOrder : {A : Type 0} → ProblemData → OrderFault A → Type 0
IsNoOrder k (Cycle jobs) = IsProblemCycle k jobs
IsNoOrder k OutOfMemory = Unit {0}
