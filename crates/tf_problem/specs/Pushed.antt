-- Release dates and due dates that follow from the arcs.
use Rattle.std.specs.Prelude.{◌≡◌, ℕ, ◌⊎◌, ◌+◌, ◌-◌, ◌≤◌, ℤ, pos, ◌-ℤ◌, ◌≤ℤ◌, Bool, true, false, List, map, slice_index, slice_index_or}
use Rattle.std.specs.List.{Contains}
use Rattle.tf_model.specs.declared.problem.Goal.{Goal}
use Rattle.tf_model.specs.declared.problem.Goal.TheVariants as goals
use Rattle.tf_posed.specs.ProblemData.{ProblemData, ProblemJobData, IsProblemJob, problem_jobs, problem_job, problem_release, problem_due}
use Rattle.tf_problem.specs.ProblemBounds.{is_max_goal, problem_work}

abbrev pub release_in : List ℕ → ℕ → ℕ
release_in r j = slice_index r (j - 1)

abbrev pub due_in : List ℤ → ℕ → ℤ
due_in d j = slice_index_or d (j - 1) (pos 0)

abbrev pub pushed_job : ProblemData → List ℕ → List ℤ → ℕ → ProblemJobData
pushed_job k r d j = record (problem_job k j) { release = release_in r j; due = due_in d j }

-- the task with this objective, and these release dates and due dates in the order of the jobs
abbrev pub with_dates : ProblemData → Goal → List ℕ → List ℤ → ProblemData
with_dates k goal r d = record k {
  problem = record k.problem { release = true; goal = goal };
  jobs = map (pushed_job k r d) (problem_jobs k);
}

-- the makespan of jobs with due dates is their maximum lateness; other objectives stay
abbrev pub dated_goal : Goal → Goal
dated_goal goals.Cmax = goals.Lmax
dated_goal goal = goal

abbrev pub pushed : ProblemData → List ℕ → List ℤ → ProblemData
pushed k r d = with_dates k (dated_goal k.problem.goal) r d

-- each release date is at most the job's own, or follows by an arc from that of the job before
abbrev pub AreReleases : ProblemData → List ℕ → Type 0
AreReleases k r = (j : ℕ) → IsProblemJob k j
    → (release_in r j ≤ problem_release k j)
    ⊎ ((i : ℕ) × Contains k.arcs (i, j) × (release_in r j ≤ release_in r i + problem_work k i))

-- each due date is at least the job's own, or follows by an arc from that of the job behind
abbrev pub AreDues : ProblemData → List ℤ → Type 0
AreDues k d = (i : ℕ) → IsProblemJob k i
    → (problem_due k i ≤ℤ due_in d i)
    ⊎ ((j : ℕ) × Contains k.arcs (i, j) × ((due_in d j -ℤ pos (problem_work k j)) ≤ℤ due_in d i))

-- each due date is the job's own
abbrev pub AreOwnDues : ProblemData → List ℤ → Type 0
AreOwnDues k d = (j : ℕ) → IsProblemJob k j → due_in d j ≡ (problem_job k j).due

-- The due dates of a maximum may follow from the arcs. Those of a sum are the jobs' own: in a sum a
-- job counts by its own lateness, whatever comes behind it.
abbrev pub serving_by : Bool → ProblemData → List ℤ → Type 0
serving_by true k d = AreDues k d
serving_by false k d = AreOwnDues k d

abbrev pub AreServingDues : ProblemData → List ℤ → Type 0
AreServingDues k d = serving_by (is_max_goal k.problem.goal) k d
