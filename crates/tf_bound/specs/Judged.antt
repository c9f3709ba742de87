-- The task on which a certificate is judged.
use Rattle.std.specs.Prelude.{◌≡◌, ℕ, ◌⊎◌, ◌+◌, ◌≤◌, ◌<◌, Bool, true, false, ℤ, pos, ◌-ℤ◌, ◌≤ℤ◌, List, length, IsTrue}
use Rattle.std.specs.List.{All}
use Rattle.tf_model.specs.Whole.{IsWithin}
use Rattle.tf_posed.specs.ProblemData.{ProblemData, IsProblemJob, problem_release, problem_due}
use Rattle.tf_problem.specs.ProblemBounds.{is_max_goal, problem_work}
use Rattle.tf_problem.specs.Pushed.{release_in, due_in, pushed, AreReleases, AreDues, AreOwnDues}
use Rattle.tf_bound.specs.Sized.{IsSized}

-- the least release dates that are at least the jobs' own, and along each arc at least that of the
-- job before and its time
pub record AreHeads (k : ProblemData) (r : List ℕ) : Type 0 where
  pub len : length r ≡ length k.jobs
  pub from_own : (j : ℕ) → IsProblemJob k j → problem_release k j ≤ release_in r j
  pub along : All (λ arc. release_in r arc.0 + problem_work k arc.0 ≤ release_in r arc.1) k.arcs
  pub least : AreReleases k r

-- the greatest due dates that are at most the jobs' own, and along each arc at most that of the job
-- after, less its time
pub record AreDeadlines (k : ProblemData) (d : List ℤ) : Type 0 where
  pub len : length d ≡ length k.jobs
  pub from_own : (j : ℕ) → IsProblemJob k j → due_in d j ≤ℤ problem_due k j
  pub along : All (λ arc. due_in d arc.0 ≤ℤ (due_in d arc.1 -ℤ pos (problem_work k arc.1))) k.arcs
  pub greatest : AreDues k d

-- no due date is beyond the limit before or after 0
abbrev pub AreDuesWithin : List ℤ → Type 0
AreDuesWithin d = (j : ℕ) → IsWithin (due_in d j)

-- the jobs' own due dates
pub record AreKeptDues (k : ProblemData) (d : List ℤ) : Type 0 where
  pub len : length d ≡ length k.jobs
  pub own : AreOwnDues k d

-- for a maximum the due dates that follow by the arcs, and for a sum the jobs' own
abbrev pub moved_by : Bool → ProblemData → List ℤ → Type 0
moved_by true k d = AreDeadlines k d
moved_by false k d = AreKeptDues k d

abbrev pub AreMovedDues : ProblemData → List ℤ → Type 0
AreMovedDues k d = moved_by (is_max_goal k.problem.goal) k d

-- The task has arcs, and the other is the same with the dates that follow by them, all within the
-- limits. There are no such dates where the arcs form a cycle.
pub record IsPushedTask (k other : ProblemData) : Type 0 where
  pub moved : IsTrue k.problem.prec
  pub some_arc : 0 < length k.arcs
  pub r : List ℕ
  pub d : List ℤ
  pub heads : AreHeads k r
  pub dues : AreMovedDues k d
  pub is : other ≡ pushed k r d
  pub sized : IsSized other

-- the one whose dates follow by the arcs, and the task itself where there is none
abbrev pub IsDatedTask : ProblemData → ProblemData → Type 0
IsDatedTask k other =
    IsPushedTask k other ⊎ ((other ≡ k) × ((it : ProblemData) → ¬ (IsPushedTask k it)))

-- that one for a maximum, and the task itself for a sum
abbrev pub judged_by : Bool → ProblemData → ProblemData → Type 0
judged_by true k other = IsDatedTask k other
judged_by false k other = other ≡ k

abbrev pub IsJudgedTask : ProblemData → ProblemData → Type 0
IsJudgedTask k other = judged_by (is_max_goal k.problem.goal) k other
