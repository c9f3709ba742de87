-- A task that grows job by job, as long as nothing is refused.
use Rattle.std.specs.Prelude.{◌≡◌, ℕ, Bool, true, not, ◌&&◌, List, ◌++◌, map, Option, None, Some, Ok}
use Rattle.std.specs.List.{All, list_all}
use Rattle.tf_model.specs.StepFaults.{IsStepCost}
use Rattle.tf_model.specs.JobFields.{JobFields}
use Rattle.tf_model.specs.JobRows.{HasRows}
use Rattle.tf_model.specs.InstanceData.{InstanceData, IsInstance, has_negative, has_beyond}
use Rattle.tf_model.specs.ClassTable.{class_of}
use Rattle.tf_model.specs.Prepare.{data_of, kept_costs, machines_for}
use Rattle.tf_model.specs.Complete.{is_complete}
use Rattle.tf_model.specs.Summed.{HasSummed}
use Rattle.tf_model.specs.declared.problem.Problem.{Problem}
use Rattle.tf_model.specs.declared.task_builder.TaskBuilder.{TaskBuilder}

-- it took these jobs, for a problem and the numbers of machines of the caller and the instance
pub record HasTaken {A : Type 0} (problem : Problem) (argument count : Option ℕ)
    (builder : TaskBuilder A) (jobs : List JobFields) : Type 0 where
  pub class_is : class_of problem ≡ Some builder.class
  pub machines_are : machines_for builder.class problem.count argument count ≡ Ok builder.machines
  pub complete : list_all (is_complete builder.class) jobs ≡ true
  pub rows : HasRows builder.class builder.rows (map (data_of builder.class) jobs)
  pub summed : HasSummed builder.totals (map (data_of builder.class) jobs)
  pub costs : builder.costs.items ≡ kept_costs builder.class jobs
  pub sound : All IsStepCost builder.costs.items

-- the first took these jobs more and became the second
abbrev pub Takes : {A : Type 0} → TaskBuilder A → List JobFields → TaskBuilder A → Type 0
Takes old jobs new = (problem : Problem) (argument count : Option ℕ) (before : List JobFields)
    → HasTaken problem argument count old before
    → HasTaken problem argument count new (before ++ jobs)

-- the jobs that it took make an instance with these arcs
abbrev pub CanFinish : {A : Type 0} → TaskBuilder A → List (ℕ × ℕ) → Type 0
CanFinish builder arcs = (problem : Problem) × (argument : Option ℕ) × (i : InstanceData)
    × HasTaken problem argument i.machines builder i.jobs × (i.arcs ≡ arcs) × IsInstance i

-- no number of the job is negative or beyond the limit
abbrev pub is_within_limits : JobFields → Bool
is_within_limits job = not (has_negative job) && not (has_beyond job)

-- it took such jobs alone, and no number of machines of an instance
abbrev pub HasJudged : {A : Type 0} → TaskBuilder A → Type 0
HasJudged builder = (problem : Problem) × (argument : Option ℕ) × (jobs : List JobFields)
    × HasTaken problem argument None builder jobs × (list_all is_within_limits jobs ≡ true)
