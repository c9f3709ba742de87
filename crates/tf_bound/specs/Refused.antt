-- For what a task of a problem is refused: the first of these conditions that it does not satisfy,
-- in this order. All of them together are `IsSized`.
use Rattle.std.specs.Prelude.{◌≡◌, ◌⊎◌, ℕ, ◌+◌, ◌≤◌, ◌<◌, List, length, take, slice_index_or, IsTrue, IsFalse}
use Rattle.std.specs.List.{All, sum_by}
use Rattle.tf_model.specs.declared.problem.Problem.{Problem}
use Rattle.tf_model.specs.ClassTable.{is_single_env}
use Rattle.tf_model.specs.Limit.{limit, most_jobs, most_machines}
use Rattle.tf_posed.specs.ProblemData.{ProblemData, ProblemJobData, IsProblemJob, is_covered, no_problem_job}
use Rattle.tf_bound.specs.Sized.{IsSizedJob, work, all_work}
use Rattle.tf_bound.specs.declared.fault.TaskFault.{TaskFault}
use Rattle.tf_bound.specs.declared.fault.TaskFault.TheVariants.{NotCovered, Jobs, Machines, Times, TooLarge, Arc}

-- at least one job, and no more than the most
abbrev pub HasJobs : ProblemData → Type 0
HasJobs k = (1 ≤ length k.jobs) × (length k.jobs ≤ most_jobs)

-- at least one machine, no more than the most, and one where the problem has one
pub record HasMachines (k : ProblemData) : Type 0 where
  pub some : 1 ≤ k.machines
  pub few : k.machines ≤ most_machines
  pub single : IsTrue (is_single_env k.problem.env) → k.machines ≡ 1

-- ---- the jobs and their time

-- the job is as the problem asks, and its time is within the limit
abbrev pub IsFitJob : Problem → ℕ → ProblemJobData → Type 0
IsFitJob p machines x = IsSizedJob p machines x × (work x ≤ limit)

-- the first n jobs are as the problem asks, and their time together is within the limit
pub record AreFit (p : Problem) (machines : ℕ) (jobs : List ProblemJobData) (n : ℕ) : Type 0 where
  pub sized : All (IsSizedJob p machines) (take n jobs)
  pub total : sum_by work (take n jobs) ≤ limit

-- those before this place, counted from 0, are so, and the job there is not, by itself
pub record IsUnfitAt (p : Problem) (machines : ℕ) (jobs : List ProblemJobData) (i : ℕ)
    : Type 0 where
  pub before : AreFit p machines jobs i
  pub place : i < length jobs
  pub unfit : ¬ (IsFitJob p machines (slice_index_or jobs i no_problem_job))

-- the job there is too, but its time and that of those before it are together beyond the limit
pub record IsTooMuchAt (p : Problem) (machines : ℕ) (jobs : List ProblemJobData) (i : ℕ)
    : Type 0 where
  pub before : AreFit p machines jobs i
  pub place : i < length jobs
  pub fit : IsFitJob p machines (slice_index_or jobs i no_problem_job)
  pub beyond : limit < sum_by work (take (i + 1) jobs)

-- what is wrong with the jobs by themselves
abbrev pub IsJobsFault : Problem → ℕ → List ProblemJobData → TaskFault → Type 0
IsJobsFault p machines jobs (Times i) = IsUnfitAt p machines jobs i
IsJobsFault p machines jobs TooLarge = (i : ℕ) × IsTooMuchAt p machines jobs i
IsJobsFault p machines jobs _ = ⊥

-- ---- the task

-- the conditions before those on the jobs
pub record IsCounted (k : ProblemData) : Type 0 where
  pub taken : IsTrue (is_covered k.problem)
  pub jobs : HasJobs k
  pub machines : HasMachines k

-- the work after any release date is within the limit
abbrev pub IsInHorizon : ProblemData → Type 0
IsInHorizon k = All (λ x. x.release + all_work k ≤ limit) k.jobs

-- the conditions before that on the arcs
pub record IsFilled (k : ProblemData) : Type 0 where
  pub counted : IsCounted k
  pub fit : AreFit k.problem k.machines k.jobs (length k.jobs)
  pub horizon : IsInHorizon k

abbrev pub AreArcsIn : ProblemData → Type 0
AreArcsIn k = All (λ arc. IsProblemJob k arc.0 × IsProblemJob k arc.1) k.arcs

-- the work of all jobs is within the limit, but not after some release date
pub record IsTooLate (k : ProblemData) : Type 0 where
  pub fit : AreFit k.problem k.machines k.jobs (length k.jobs)
  pub late : ¬ (IsInHorizon k)

-- A fault is of one condition, and all before it are satisfied; so a task has one fault at most.
abbrev pub IsTaskFault : ProblemData → TaskFault → Type 0
IsTaskFault k NotCovered = IsFalse (is_covered k.problem)
IsTaskFault k Jobs = IsTrue (is_covered k.problem) × (¬ (HasJobs k))
IsTaskFault k Machines = IsTrue (is_covered k.problem) × HasJobs k × (¬ (HasMachines k))
IsTaskFault k (Times i) =
    IsCounted k × IsJobsFault k.problem k.machines k.jobs (Times i)
IsTaskFault k TooLarge =
    IsCounted k
    × (IsJobsFault k.problem k.machines k.jobs TooLarge ⊎ IsTooLate k)
IsTaskFault k Arc = IsFilled k × (¬ (AreArcsIn k))
