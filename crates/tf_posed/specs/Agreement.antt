-- Of a task of a class the definitions of this crate mean what those of the class mean.
use Rattle.std.specs.Prelude.{◌≡◌, ℕ, ◌-◌, ℤ, ◌≤ℤ◌, ◌↔◌, List, [], ◌∷◌, map, slice_index_or, if◌then◌else◌, IsFalse}
use Rattle.tf_model.specs.declared.problem.Goal.{Goal}
use Rattle.tf_model.specs.declared.problem.Goal.TheVariants as goals
use Rattle.tf_model.specs.declared.problem.Problem.{Problem}
use Rattle.tf_model.specs.ClassTable.{notation_of, IsOfClass, is_shop, is_costed}
use Rattle.tf_model.specs.Steps.{Steps, no_steps, step_value}
use Rattle.tf_model.specs.SchedulingTask.{SchedulingTask, all_jobs, job_data}
use Rattle.tf_model.specs.Timetable.{Timetable, completion}
use Rattle.tf_model.specs.Feasible.{Fits}
use Rattle.tf_model.specs.Cost.{cost, greatest, IsBest}
use Rattle.tf_model.specs.Sound.{IsSound}
use Rattle.tf_posed.specs.ProblemData.{ProblemData, ProblemJobData, IsProblemSound, problem_jobs}
use Rattle.tf_posed.specs.FitsProblem.{FitsProblem}
use Rattle.tf_posed.specs.ProblemCost.{problem_cost, problem_cost_by, IsProblemBest}

-- ---- the task of a class as one of its problem

-- a job with its times: one, or in a shop one for each machine
abbrev pub posed_job : SchedulingTask → ℕ → ProblemJobData
posed_job k j = record {
  times = (job_data k j).first ∷ (if is_shop k.class then (job_data k j).second ∷ [] else []);
  route = [];
  weight = (job_data k j).weight;
  release = (job_data k j).release;
  due = (job_data k j).due;
}

-- the problem is that of the class's notation
abbrev pub posed : SchedulingTask → ProblemData
posed k = record {
  problem = notation_of k.class;
  machines = k.machines;
  jobs = map (posed_job k) (all_jobs k);
  arcs = k.arcs;
}

-- ---- cost functions, one of each job, which are beside the task

abbrev pub costed_by : Goal → ProblemData → List Steps → Timetable → ℤ
costed_by goals.Hmax k costs rows =
    greatest (λ j. step_value (slice_index_or costs (j - 1) no_steps) (completion rows j))
    (problem_jobs k)
costed_by goal k costs rows = problem_cost_by goal k rows

-- for the objective `hmax` the maximum cost by these, and for any other `problem_cost`
abbrev pub costed_cost : ProblemData → List Steps → Timetable → ℤ
costed_cost k costs rows = costed_by k.problem.goal k costs rows

-- the timetable fits and costs v, and no timetable that fits costs less
pub record IsCostedBest (k : ProblemData) (costs : List Steps) (rows : Timetable) (v : ℤ)
    : Type 0 where
  pub fits : FitsProblem k rows
  pub value : costed_cost k costs rows ≡ v
  pub least : (other : Timetable) → FitsProblem k other → v ≤ℤ costed_cost k costs other

-- ---- the law

-- Without cost functions: the task of the problem is one of which the laws of lower bounds speak,
-- the timetables cost the same, and the same are best.
pub record IsSamePlain (k : SchedulingTask) (other : ProblemData) : Type 0 where
  pub sound : IsProblemSound other
  pub costs : (rows : Timetable) → cost k rows ≡ problem_cost other rows
  pub best : (rows : Timetable) (v : ℤ) → IsBest k rows v ↔ IsProblemBest other rows v

-- the same timetables fit, they cost the same, and the same are best
pub record IsSameTask (k : SchedulingTask) (other : ProblemData) : Type 0 where
  pub fits : (rows : Timetable) → Fits k rows ↔ FitsProblem other rows
  pub costs : (rows : Timetable) → cost k rows ≡ costed_cost other k.costs rows
  pub best : (rows : Timetable) (v : ℤ) → IsBest k rows v ↔ IsCostedBest other k.costs rows v
  pub plain : IsFalse (is_costed k.class) → IsSamePlain k other

-- every task of every class that is prepared, however the problem of the class is written
abbrev pub PosedLaw : Type 0
PosedLaw = (k : SchedulingTask) (p : Problem) → IsSound k → IsOfClass p k.class
    → IsSameTask k (record (posed k) { problem = p })
