-- What is asked of each job, told in the tables of extents and in the rows of a timetable.
use Rattle.std.specs.Prelude.{◌≡◌, ℕ, ◌<◌, ◌≤◌, Bool, true, false, not, ◌||◌, ◌&&◌, nat_lt, List, length, slice_index, Option, MatchOption, IsTrue, IsFalse}
use Rattle.tf_model.specs.declared.problem.Problem.{Problem}
use Rattle.tf_model.specs.ClassTable.{is_shop_env, is_flow_env}
use Rattle.tf_model.specs.Timetable.{Timetable}
use Rattle.tf_model.specs.Feasible.{EachJob}
use Rattle.tf_posed.specs.ProblemData.{ProblemData, problem_job, problem_time, is_job_shop, route_of}
use Rattle.tf_posed.specs.FitsProblem.{HasProblemTime, IsProblemUnbroken, IsProblemReleased, IsOnRoute, IsWithoutWait}
use Rattle.tf_schedule.specs.Extent.{extent_at, IsGapless}
use Rattle.tf_schedule.specs.Lanes.{LanesData, IsOnOne}
use Rattle.tf_schedule.specs.Misfit.{IsSmallestNot}
use Rattle.tf_schedule.specs.Operation.{first_operation, extent_behind}
use Rattle.tf_schedule.specs.declared.condition.Condition.{Condition}
use Rattle.tf_schedule.specs.declared.condition.Condition.TheVariants.{Amount, Unbroken, Released, OnRoute, WithoutWait}

-- whether the problem asks for it
abbrev pub is_asked : Condition → Problem → Bool
is_asked Amount p = true
is_asked Unbroken p = not p.prmp
is_asked Released p = p.release
is_asked OnRoute p = is_flow_env p.env || is_job_shop p.env
is_asked WithoutWait p = p.nwt

-- ---- by the extents of job j

-- so many operations behind the first ones have these times
abbrev pub HaveTimes : LanesData → ℕ → ℕ → List ℕ → Type 0
HaveTimes l first count times =
    (i : ℕ) → i < count → (extent_behind l first i).work ≡ slice_index times i

-- and have no gap
abbrev pub AreGapless : LanesData → ℕ → ℕ → Type 0
AreGapless l first count = (i : ℕ) → i < count → IsGapless (extent_behind l first i)

-- and of those on the machines of this route each starts after those before it are over
abbrev pub AreInOrder : LanesData → ℕ → List ℕ → Type 0
AreInOrder l first route = (a b : ℕ) → a < b → b < length route
    → (extent_behind l first (slice_index route a)).stop
    ≤ (extent_behind l first (slice_index route b)).start

-- a job that has to stay on one machine might be on several
abbrev pub is_movable : ProblemData → Bool
is_movable k = not k.problem.prmp && not (is_shop_env k.problem.env) && nat_lt 1 k.machines

-- the table has the machines of the jobs, where they are judged by them
abbrev pub KeepsMachines : ProblemData → LanesData → Type 0
KeepsMachines k jobs = IsTrue (is_movable k) → length jobs.machines ≡ length k.jobs

-- outside shops P holds, in shops Q
pub record InEnv (shop : Bool) (P Q : Type 0) : Type 0 where
  pub plain : IsFalse shop → P
  pub in_shop : IsTrue shop → Q

abbrev pub IsMet : Condition → ProblemData → LanesData → LanesData → ℕ → Type 0
IsMet Amount k jobs operations j =
    InEnv (is_shop_env k.problem.env) ((extent_at jobs.extents j).work ≡ problem_time k j)
    (HaveTimes operations (first_operation k.machines j) k.machines (problem_job k j).times)
IsMet Unbroken k jobs operations j =
    InEnv (is_shop_env k.problem.env) (IsGapless (extent_at jobs.extents j) × IsOnOne jobs j)
    (AreGapless operations (first_operation k.machines j) k.machines)
IsMet Released k jobs operations j = (problem_job k j).release ≤ (extent_at jobs.extents j).start
IsMet OnRoute k jobs operations j =
    AreInOrder operations (first_operation k.machines j) (route_of k j)
IsMet WithoutWait k jobs operations j = IsGapless (extent_at jobs.extents j)

-- its time, gaps and release date are right, as far as the problem asks for it
abbrev pub is_plain : Condition → Bool
is_plain Amount = true
is_plain Unbroken = true
is_plain Released = true
is_plain OnRoute = false
is_plain WithoutWait = false

abbrev pub IsPlainMet : ProblemData → LanesData → LanesData → ℕ → Type 0
IsPlainMet k jobs operations j = (c : Condition) → IsTrue (is_plain c)
    → IsTrue (is_asked c k.problem) → IsMet c k jobs operations j

-- ---- by the rows

abbrev pub Holds : Condition → ProblemData → Timetable → ℕ → Type 0
Holds Amount k rows = HasProblemTime k rows
Holds Unbroken k rows = IsProblemUnbroken k rows
Holds Released k rows = IsProblemReleased k rows
Holds OnRoute k rows = IsOnRoute k rows
Holds WithoutWait k rows = IsWithoutWait rows

-- ---- of arcs, and of all jobs

-- the first job of the arc stops before the second starts
abbrev pub StartsAfter : LanesData → ℕ × ℕ → Type 0
StartsAfter l arc = (extent_at l.extents arc.0).stop ≤ (extent_at l.extents arc.1).start

-- where the class asks for P, it holds of each of the jobs 1 to n, or this is the smallest job of
-- which it does not
abbrev pub FindsSmallestNot : Bool → ℕ → (ℕ → Type 0) → Option ℕ → Type 0
FindsSmallestNot asked n P found = MatchOption found (IsTrue asked → EachJob n P)
    (λ j. IsTrue asked × IsSmallestNot n P j)
