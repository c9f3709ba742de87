-- When a timetable fits the task of a problem.
use Rattle.std.specs.Prelude.{◌≡◌, ℕ, ◌≤◌, ◌<◌, List, length, IsTrue, IsFalse}
use Rattle.std.specs.List.{All, AllPairs}
use Rattle.std.specs.List.Sorted.{IsPermutation}
use Rattle.tf_model.specs.ClassTable.{is_shop_env}
use Rattle.tf_model.specs.Timetable.{Timetable, cell, units, all_units}
use Rattle.tf_model.specs.Feasible.{EachJob, IsOnce, IsKept}
use Rattle.tf_posed.specs.ProblemData.{ProblemData, problem_jobs, problem_job, problem_time, problem_time_on, route_of}

-- ---- what is asked of a job

-- the job is processed for all its time, in a shop on each machine
pub record HasProblemTime (k : ProblemData) (rows : Timetable) (j : ℕ) : Type 0 where
  pub in_all : IsFalse (is_shop_env k.problem.env) → all_units rows j ≡ problem_time k j
  pub on_each : IsTrue (is_shop_env k.problem.env) → (i : ℕ) → i < k.machines
      → units rows j i ≡ problem_time_on k j i

-- the job runs on a machine without a gap, and where it has one time, on one machine
pub record IsProblemUnbroken (k : ProblemData) (rows : Timetable) (j : ℕ) : Type 0 where
  pub no_gap : (i s t u : ℕ) → s ≤ t → t ≤ u → cell rows s i ≡ j → cell rows u i ≡ j
      → cell rows t i ≡ j
  pub one_machine : IsFalse (is_shop_env k.problem.env) → (s t a b : ℕ) → cell rows s a ≡ j
      → cell rows t b ≡ j → a ≡ b

-- no row before its release has the job
abbrev pub IsProblemReleased : ProblemData → Timetable → ℕ → Type 0
IsProblemReleased k rows j = (t i : ℕ) → cell rows t i ≡ j → (problem_job k j).release ≤ t

-- every row with the job on machine a comes before every row with it on machine b
abbrev pub VisitsFirst : Timetable → ℕ → ℕ → ℕ → Type 0
VisitsFirst rows j a b = (s t : ℕ) → cell rows s a ≡ j → cell rows t b ≡ j → s < t

-- the job visits the machines of its route in their order
abbrev pub IsOnRoute : ProblemData → Timetable → ℕ → Type 0
IsOnRoute k rows j = AllPairs (VisitsFirst rows j) (route_of k j)

-- no row between two rows with the job is without it
abbrev pub IsWithoutWait : Timetable → ℕ → Type 0
IsWithoutWait rows j = (s t u a b : ℕ) → s ≤ t → t ≤ u → cell rows s a ≡ j → cell rows u b ≡ j
    → (i : ℕ) × (cell rows t i ≡ j)

-- ---- and of two

-- on each machine, every row with job i comes before every row with job j
abbrev pub GoesFirst : Timetable → ℕ → ℕ → Type 0
GoesFirst rows i j = (a s t : ℕ) → cell rows s a ≡ i → cell rows t a ≡ j → s < t

-- there is an order of all jobs in which they pass each machine
abbrev pub IsInOneOrder : ProblemData → Timetable → Type 0
IsInOneOrder k rows =
    (order : List ℕ) × IsPermutation (problem_jobs k) order × AllPairs (GoesFirst rows) order

-- ---- and of the timetable

pub record FitsProblem (k : ProblemData) (rows : Timetable) : Type 0 where
  -- each row has a cell for each machine, and each cell is empty or a job of the task
  pub width : All (λ row. length row ≡ k.machines) rows
  pub jobs_only : All (λ row. All (λ j. j ≤ length k.jobs) row) rows
  pub single_place : EachJob (length k.jobs) (IsOnce rows)
  pub amount : EachJob (length k.jobs) (HasProblemTime k rows)
  -- and what the problem's conditions ask
  pub unbroken : IsFalse k.problem.prmp → EachJob (length k.jobs) (IsProblemUnbroken k rows)
  pub released : IsTrue k.problem.release → EachJob (length k.jobs) (IsProblemReleased k rows)
  pub in_order : IsTrue k.problem.prec → All (IsKept rows) k.arcs
  pub on_route : EachJob (length k.jobs) (IsOnRoute k rows)
  pub one_order : IsTrue k.problem.prmu → IsInOneOrder k rows
  pub without_wait : IsTrue k.problem.nwt → EachJob (length k.jobs) (IsWithoutWait rows)
