-- Lower bounds by the jobs of a list that rises by due date. Of the number of late jobs (Moore 1968): the
-- times of those that are kept are held in a list that rises. Where their sum is more than there is room
-- for up to the job's due date, the longest is crossed out. As many jobs as are crossed out are late in
-- every timetable. Of the total weight of late jobs (Lawler and Moore 1969): the least weight of jobs
-- whose loss leaves room for each of the others.
use Rattle.std.specs.Prelude.{◌≡◌, ℕ, ◌+◌, ◌-◌, ◌*◌, ◌≤◌, pos, nat_lt, min, sum, List, [], ◌∷◌, length, if◌then◌else◌, IsTrue, IsFalse}
use Rattle.std.specs.List.{All}
use Rattle.std.specs.List.Sorted.{IsPermutation}
use Rattle.tf_model.specs.declared.problem.Goal.TheVariants as goals
use Rattle.tf_model.specs.ClassTable.{is_single_env}
use Rattle.tf_model.specs.Distinct.{IsDistinct}
use Rattle.tf_model.specs.Timetable.{Timetable}
use Rattle.tf_model.specs.Whole.{as_time}
use Rattle.tf_check.specs.Bound.{least_number}
use Rattle.tf_posed.specs.ProblemData.{ProblemData, IsProblemSound, IsProblemJob, problem_jobs, problem_job, problem_time, problem_release, problem_weight}
use Rattle.tf_posed.specs.ProblemCost.{IsLowerBound, IsProblemBest}
use Rattle.tf_problem.specs.ProblemBounds.{is_alike}

-- a number put into a list that rises
abbrev pub put : ℕ → List ℕ → List ℕ
put p [] = p ∷ []
put p (a ∷ times) = if nat_lt a p then a ∷ put p times else p ∷ a ∷ times

-- a list without its last element
abbrev pub without_last : List ℕ → List ℕ
without_last [] = []
without_last (a ∷ []) = []
without_last (a ∷ b ∷ times) = a ∷ without_last (b ∷ times)

-- without the last where the sum is more than there is room for
abbrev pub within_room : ℕ → List ℕ → List ℕ
within_room room times = if nat_lt room (sum times) then without_last times else times

-- the times that are kept of the jobs of a list, behind those that are kept before them
abbrev pub kept_by : (ℕ → ℕ) → (ℕ → ℕ) → List ℕ → List ℕ → List ℕ
kept_by p room times [] = times
kept_by p room times (j ∷ jobs) = kept_by p room (within_room (room j) (put (p j) times)) jobs

-- f rises along the list, and is at least t
abbrev pub IsRisingBy : (ℕ → ℕ) → ℕ → List ℕ → Type 0
IsRisingBy f t [] = Unit {0}
IsRisingBy f t (j ∷ jobs) = (t ≤ f j) × IsRisingBy f (f j) jobs

-- the due date of a job as a time, 0 where it is negative
abbrev pub due_time : ProblemData → ℕ → ℕ
due_time k j = as_time (problem_job k j).due

-- how much of these jobs the machines can do up to the due date of a job
abbrev pub room_by_due : ProblemData → List ℕ → ℕ → ℕ
room_by_due k jobs j = k.machines * (due_time k j - least_number (problem_release k) jobs)

-- the times that are kept of the jobs
abbrev pub kept : ProblemData → List ℕ → List ℕ
kept k jobs = kept_by (problem_time k) (room_by_due k jobs) [] jobs

-- how many of the jobs are crossed out
abbrev pub kept_value : ProblemData → List ℕ → ℕ
kept_value k jobs = length jobs - length (kept k jobs)

-- The least of what remains with a job that is late and, where there is room up to its due date behind
-- jobs that take t units, with it on time.
abbrev pub least_choice : ℕ → ℕ → ℕ → ℕ → ℕ → ℕ → ℕ
least_choice time weight room t late on =
    if nat_lt room (t + time) then weight + late else min (weight + late) on

-- the least weight of late jobs of a list, behind jobs on time that take t units
abbrev pub least_late : (ℕ → ℕ) → (ℕ → ℕ) → (ℕ → ℕ) → List ℕ → ℕ → ℕ
least_late p w room [] t = 0
least_late p w room (j ∷ jobs) t =
    least_choice (p j) (w j) (room j) t (least_late p w room jobs t) (least_late p w room jobs (t + p j))

-- the least weight of late jobs
abbrev pub kept_weight : ProblemData → List ℕ → ℕ
kept_weight k jobs = least_late (problem_time k) (problem_weight k) (room_by_due k jobs) jobs 0

-- one machine or identical machines in parallel, whatever the conditions: the number of late jobs
abbrev pub KeptLaw : Type 0
KeptLaw = (k : ProblemData) → IsProblemSound k → IsTrue (is_alike k.problem.env)
    → k.problem.goal ≡ goals.SumU → (jobs : List ℕ) → IsDistinct jobs → All (IsProblemJob k) jobs
    → IsRisingBy (due_time k) 0 jobs → IsLowerBound k (pos (kept_value k jobs))

-- One machine without release dates, precedence constraints and the like: the list of all jobs gives
-- the least number of late jobs.
abbrev pub KeptBestLaw : Type 0
KeptBestLaw = (k : ProblemData) → IsProblemSound k → IsTrue (is_single_env k.problem.env)
    → k.problem.goal ≡ goals.SumU → IsFalse k.problem.release → IsFalse k.problem.prec
    → IsFalse k.problem.prmu → IsFalse k.problem.nwt → (jobs : List ℕ)
    → IsPermutation (problem_jobs k) jobs → IsRisingBy (due_time k) 0 jobs
    → (rows : Timetable) × IsProblemBest k rows (pos (kept_value k jobs))

-- The same for the weighted number of late jobs.
abbrev pub KeptWeightLaw : Type 0
KeptWeightLaw = (k : ProblemData) → IsProblemSound k → IsTrue (is_alike k.problem.env)
    → k.problem.goal ≡ goals.SumWU → (jobs : List ℕ) → IsDistinct jobs → All (IsProblemJob k) jobs
    → IsRisingBy (due_time k) 0 jobs → IsLowerBound k (pos (kept_weight k jobs))

-- On one machine without release dates, precedence constraints and the like it is the least weight.
abbrev pub KeptWeightBestLaw : Type 0
KeptWeightBestLaw = (k : ProblemData) → IsProblemSound k → IsTrue (is_single_env k.problem.env)
    → k.problem.goal ≡ goals.SumWU → IsFalse k.problem.release → IsFalse k.problem.prec
    → IsFalse k.problem.prmu → IsFalse k.problem.nwt → (jobs : List ℕ)
    → IsPermutation (problem_jobs k) jobs → IsRisingBy (due_time k) 0 jobs
    → (rows : Timetable) × IsProblemBest k rows (pos (kept_weight k jobs))
