-- Potentials of jobs that wait nowhere in a flow shop. From the start of one job to the start of the
-- next there is at least the delay of the two, so the makespan is that of a tour through all jobs
-- (Wismer 1972), and numbers for the rows and columns of an assignment bound it (Kuhn 1955).
use Rattle.std.specs.Prelude.{◌≢◌, ℕ, ◌+◌, ◌-◌, ◌*◌, ◌≤◌, ◌<◌, max, ℤ, pos, ◌+ℤ◌, ◌-ℤ◌, ◌≤ℤ◌, List, map, slice_index_or, IsTrue}
use Rattle.std.specs.List.{fold, range_with_len}
use Rattle.tf_model.specs.ClassTable.{is_flow_env}
use Rattle.tf_posed.specs.ProblemData.{ProblemData, IsProblemSound, IsProblemJob, problem_jobs, problem_time_on, time_over, problem_release, problem_due}
use Rattle.tf_posed.specs.ProblemCost.{IsLowerBound}
use Rattle.tf_problem.specs.ProblemBounds.{int_sum, is_max_goal, problem_work}

-- The first number is for the end of the last job. Then each job has two, in the order of the jobs:
-- one towards the job after it, and one towards the job before it.
abbrev pub potential_of_end : List ℤ → ℤ
potential_of_end p = slice_index_or p 0 (pos 0)

abbrev pub potential_after : List ℤ → ℕ → ℤ
potential_after p j = slice_index_or p (2 * j - 1) (pos 0)

abbrev pub potential_before : List ℤ → ℕ → ℤ
potential_before p j = slice_index_or p (2 * j) (pos 0)

-- how much later than job i job j begins at least, if it begins no earlier: on each machine it is
-- there only when i has left it
abbrev pub start_delay : ProblemData → ℕ → ℕ → ℕ
start_delay k i j =
    fold max 0 (map (λ a. time_over k i 0 (a + 1) - time_over k j 0 a) (range_with_len 0 k.machines))

-- The first job of all begins at its release date or later, each other one after the job before it,
-- and the last one still has all its time to go.
pub record ArePotentials (k : ProblemData) (p : List ℤ) : Type 0 where
  pub by_release : (j : ℕ) → IsProblemJob k j → potential_before p j ≤ℤ pos (problem_release k j)
  pub by_end : (j : ℕ) → IsProblemJob k j
      → (potential_after p j +ℤ potential_of_end p) ≤ℤ (pos (problem_work k j) -ℤ problem_due k j)
  pub between : (i j : ℕ) → IsProblemJob k i → IsProblemJob k j → i ≢ j
      → (potential_after p i +ℤ potential_before p j) ≤ℤ pos (start_delay k i j)

-- both numbers of all jobs, and that for the end
abbrev pub potentials_value : ProblemData → List ℤ → ℤ
potentials_value k p =
    potential_of_end p
    +ℤ int_sum (λ j. potential_after p j +ℤ potential_before p j) (problem_jobs k)

-- each job has time on each machine
abbrev pub HaveTimeOnAll : ProblemData → Type 0
HaveTimeOnAll k =
    (j : ℕ) → IsProblemJob k j → (a : ℕ) → a < k.machines → 1 ≤ problem_time_on k j a

-- so the makespan or the maximum lateness is at least that
abbrev pub PotentialsLaw : Type 0
PotentialsLaw = (k : ProblemData) → IsProblemSound k → IsTrue (is_flow_env k.problem.env)
    → IsTrue k.problem.nwt → IsTrue (is_max_goal k.problem.goal) → HaveTimeOnAll k → (p : List ℤ)
    → ArePotentials k p → IsLowerBound k (potentials_value k p)
