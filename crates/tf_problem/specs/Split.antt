-- A lower bound of the makespan or the maximum lateness of a permutation flow shop by two of its
-- machines (Mitten 1959; Lenstra, Rinnooy Kan and Lageweg 1977). The jobs of a side count by their time
-- on the first of them, the others by their time on the second; delta is how long at least one machine
-- waits for the other.
use Rattle.std.specs.Prelude.{ℕ, ◌+◌, ◌-◌, ◌<◌, nat_lt, nat_le, Bool, true, false, not, ◌&&◌, ◌||◌, ℤ, pos, ◌+ℤ◌, ◌-ℤ◌, if◌then◌else◌, IsTrue}
use Rattle.std.specs.List.{sum_by}
use Rattle.tf_model.specs.ClassTable.{is_flow_env}
use Rattle.tf_check.specs.Bound.{least_number, least}
use Rattle.tf_posed.specs.ProblemData.{ProblemData, IsProblemSound, IsProblemJob, problem_jobs, problem_time_on, time_over, problem_due}
use Rattle.tf_posed.specs.ProblemCost.{IsLowerBound}
use Rattle.tf_problem.specs.ProblemBounds.{head, tail, is_max_goal}

-- the time lag of a job: its time on the machines between machine a and machine b
abbrev pub lag : ProblemData → ℕ → ℕ → ℕ → ℕ
lag k a b j = time_over k j (a + 1) (b - (a + 1))

-- the job has time on both machines, and on machine i and between them at least delta
abbrev pub reaches : ProblemData → ℕ → ℕ → ℕ → ℕ → ℕ → Bool
reaches k a b i delta j =
    nat_lt 0 (problem_time_on k j a)
    && (nat_lt 0 (problem_time_on k j b) && nat_le delta (problem_time_on k j i + lag k a b j))

-- Whether the job is of those that have to reach delta, and does: by the first machine it is the others
-- that have to, by the second it is the side.
abbrev pub reaches_delta : ProblemData → ℕ → ℕ → (ℕ → Bool) → ℕ → Bool → ℕ → Bool
reaches_delta k a b side delta true j = not (side j) && reaches k a b a delta j
reaches_delta k a b side delta false j = side j && reaches k a b b delta j

-- a job of the side has no more time on the first machine, another job no more on the second
abbrev pub counts_less : ProblemData → ℕ → ℕ → (ℕ → Bool) → ℕ → Bool
counts_less k a b side j =
    if side j then nat_le (problem_time_on k j a) (problem_time_on k j b)
    else nat_le (problem_time_on k j b) (problem_time_on k j a)

-- the job keeps the condition of its side
abbrev pub keeps_side : ProblemData → ℕ → ℕ → (ℕ → Bool) → ℕ → Bool → ℕ → Bool
keeps_side k a b side delta first j =
    reaches_delta k a b side delta first j || counts_less k a b side j

-- the time of a job on the machine on which it counts
abbrev pub counted : ProblemData → ℕ → ℕ → (ℕ → Bool) → ℕ → ℕ
counted k a b side j =
    if side j then problem_time_on k j a else problem_time_on k j b

-- of all jobs the least head on the first machine, the times on the machines on which they count, delta,
-- and the least tail behind the second machine, less the due date
abbrev pub split_value : ProblemData → ℕ → ℕ → (ℕ → Bool) → ℕ → ℤ
split_value k a b side delta =
    pos (least_number (head k a) (problem_jobs k) + sum_by (counted k a b side) (problem_jobs k) + delta)
    +ℤ least (λ j. pos (tail k b j) -ℤ problem_due k j) (problem_jobs k)

-- each job keeps the condition of its side, and some job reaches delta
pub record IsSplit (k : ProblemData) (a b : ℕ) (side : ℕ → Bool) (delta : ℕ) (first : Bool) : Type 0 where
  pub sides : (j : ℕ) → IsProblemJob k j → IsTrue (keeps_side k a b side delta first j)
  pub reached : (j : ℕ) × IsProblemJob k j × IsTrue (reaches_delta k a b side delta first j)

-- a flow shop whose machines all have the jobs in one order, whatever the other conditions
abbrev pub SplitLaw : Type 0
SplitLaw = (k : ProblemData) → IsProblemSound k → IsTrue (is_flow_env k.problem.env)
    → IsTrue k.problem.prmu → IsTrue (is_max_goal k.problem.goal) → (a b : ℕ) → a < b
    → b < k.machines → (side : ℕ → Bool) (delta : ℕ) (first : Bool) → IsSplit k a b side delta first
    → IsLowerBound k (split_value k a b side delta)
