-- The work that some jobs have to do in one interval, if none is to be late by l or more.
use Rattle.std.specs.Prelude.{ℕ, ◌-◌, ◌*◌, ◌<◌, min, max, ℤ, pos, ◌+ℤ◌, ◌-ℤ◌, List, IsTrue, if◌then◌else◌}
use Rattle.std.specs.List.{All, sum_by}
use Rattle.tf_model.specs.Distinct.{IsDistinct}
use Rattle.tf_model.specs.Whole.{as_time}
use Rattle.tf_posed.specs.ProblemData.{ProblemData, IsProblemSound, IsProblemJob, problem_time, problem_release, problem_due}
use Rattle.tf_posed.specs.ProblemCost.{IsLowerBound}
use Rattle.tf_problem.specs.ProblemBounds.{is_alike, is_max_goal}

-- the last completion at which the job is late by l - 1, and not by l
abbrev pub latest : ProblemData → ℤ → ℕ → ℤ
latest k l j = (problem_due k j +ℤ l) -ℤ pos 1

-- how much of its time a job can do between its release date and a, and between b and that last
-- completion
abbrev pub time_before : ProblemData → ℕ → ℕ → ℕ
time_before k a j = a - problem_release k j

abbrev pub time_behind : ProblemData → ℕ → ℤ → ℕ → ℕ
time_behind k b l j = as_time (latest k l j -ℤ pos b)

-- what it then has to do from a to b
abbrev pub part_within : ProblemData → ℕ → ℕ → ℤ → ℕ → ℕ
part_within k a b l j = problem_time k j - time_before k a j - time_behind k b l j

-- What a job that is not preempted has to do from a to b: the least of what is left of it at a if it
-- begins at its release date, of what it does before b if it ends at that last completion, and of
-- the whole interval.
abbrev pub part_unbroken : ProblemData → ℕ → ℕ → ℤ → ℕ → ℕ
part_unbroken k a b l j =
    min (b - a) (min (problem_time k j - time_before k a j) (problem_time k j - time_behind k b l j))

-- the greater of both, where both hold
abbrev pub part_of : ProblemData → ℕ → ℕ → ℤ → ℕ → ℕ
part_of k a b l j =
    if k.problem.prmp then part_within k a b l j
    else max (part_within k a b l j) (part_unbroken k a b l j)

-- the machines have no room for that
abbrev pub IsMoreThanRoom : ProblemData → ℕ → ℕ → ℤ → List ℕ → Type 0
IsMoreThanRoom k a b l jobs = k.machines * (b - a) < sum_by (part_of k a b l) jobs

-- so the maximum lateness, or the makespan, is at least l, whatever the conditions
abbrev pub PartsLaw : Type 0
PartsLaw = (k : ProblemData) → IsProblemSound k → IsTrue (is_alike k.problem.env)
    → IsTrue (is_max_goal k.problem.goal) → (jobs : List ℕ) → IsDistinct jobs
    → All (IsProblemJob k) jobs → (a b : ℕ) (l : ℤ) → IsMoreThanRoom k a b l jobs
    → IsLowerBound k l
