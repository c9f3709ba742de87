-- The bound of sums by each job by itself.
use Rattle.std.proofs.Common.{ℕ, ◌+◌, ◌-◌, ◌≤◌, ⊎_elim, arith, sum_by, ℤ, pos, ◌≤ℤ◌, IsTrue}
use Rattle.std.proofs.lemmas.Int.{ints}
use Rattle.tf_model.specs.Timetable.{Timetable, completion}
use Rattle.tf_model.proofs.Sums.{sum_by_le_all}
use Rattle.tf_model.proofs.Units.{completion-le-row}
use Rattle.tf_posed.specs.ProblemData.{ProblemData, IsProblemSound, IsProblemJob, problem_jobs, problem_release}
use Rattle.tf_posed.specs.FitsProblem.{FitsProblem}
use Rattle.tf_posed.specs.ProblemCost.{problem_cost, penalty, IsLowerBound}
use Rattle.tf_problem.specs.ProblemBounds.{is_sum_goal, problem_work, alone_cost}
use Rattle.tf_posed.proofs.Conditions.{All-problem_jobs}
use Rattle.tf_problem.proofs.Relaxing.{problem_release-le-row}
use Rattle.tf_problem.proofs.Routes.{timed-or-free}
use Rattle.tf_problem.proofs.Pushed.{work-le-rows, some_work}
use Rattle.tf_problem.proofs.Prices.{sum-cost}
use Rattle.tf_problem.proofs.Rising.{penalty-rises}

-- a job is released and then has all its time before it completes
pub work-le-completion : (k : ProblemData) → IsProblemSound k → (rows : Timetable)
    → FitsProblem k rows → (j : ℕ) → IsProblemJob k j
    → problem_release k j + problem_work k j ≤ completion rows j
work-le-completion k sound rows fits j h =
    ⊎_elim (λ timed. omega (arith, timed, room)) (λ free. omega (arith, free, room))
    (timed-or-free k j (problem_work k j) (λ needed. some_work k sound rows fits needed j h))
  where
    room : problem_work k j ≤ completion rows j - problem_release k j
    room = work-le-rows k sound rows fits j h (problem_release k j) (completion rows j)
        (λ s i e. (
          problem_release-le-row k rows fits j h s i e,
          completion-le-row j h.0 rows s i e,
        ))

pub alone-bound : (k : ProblemData) → IsProblemSound k → IsTrue (is_sum_goal k.problem.goal)
    → IsLowerBound k (pos (alone_cost k))
alone-bound k sound sums rows fits =
    let own : ℕ → ℕ = λ j. penalty k.problem.goal k j (problem_release k j + problem_work k j) in
    let f : ℕ → ℕ = λ j. penalty k.problem.goal k j (completion rows j) in
    let le : sum_by own (problem_jobs k) ≤ sum_by f (problem_jobs k) =
    sum_by_le_all own f (problem_jobs k)
    (All-problem_jobs k (λ j. own j ≤ f j)
    (λ j h. penalty-rises k.problem.goal k j (problem_release k j + problem_work k j)
    (completion rows j) (work-le-completion k sound rows fits j h))) in
    chain (sum_by own (problem_jobs k)) (sum_by f (problem_jobs k)) (problem_cost k rows) le
    (sum-cost k.problem.goal sums k rows)
  where
    chain : (a b : ℕ) (c : ℤ) → a ≤ b → pos b ≤ℤ c → pos a ≤ℤ c
    chain a b c p r = omega (arith, ints)
