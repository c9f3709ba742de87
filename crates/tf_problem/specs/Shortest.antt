-- A lower bound of the sum of completion times on one machine with release dates, whether or not jobs
-- are preempted. The jobs of a list that rises by release date are gone through; the times that those
-- released still need are held in a list that rises, and the shortest is always worked on. The
-- completions of that come to the bound (Schrage 1968).
use Rattle.std.specs.Prelude.{◌≡◌, ℕ, ◌+◌, ◌-◌, pos, nat_le, sum, List, [], ◌∷◌, if◌then◌else◌, IsTrue, IsFalse}
use Rattle.std.specs.List.{All}
use Rattle.tf_model.specs.declared.problem.Goal.TheVariants as goals
use Rattle.std.specs.List.Sorted.{IsPermutation}
use Rattle.tf_model.specs.Timetable.{Timetable}
use Rattle.tf_model.specs.ClassTable.{is_single_env}
use Rattle.tf_model.specs.Distinct.{IsDistinct}
use Rattle.tf_posed.specs.ProblemData.{ProblemData, IsProblemSound, IsProblemJob, problem_jobs, problem_time, problem_release}
use Rattle.tf_posed.specs.ProblemCost.{IsLowerBound, IsProblemBest}
use Rattle.tf_problem.specs.Kept.{put, IsRisingBy}

-- what remains of times that rise when the first are worked on for d
abbrev pub remaining : ℕ → List ℕ → List ℕ
remaining d [] = []
remaining d (a ∷ times) = if nat_le a d then remaining (d - a) times else (a - d) ∷ times

-- the sum of the completions of those that are completed so, if that begins at now
abbrev pub completions : ℕ → ℕ → List ℕ → ℕ
completions now d [] = 0
completions now d (a ∷ times) = if nat_le a d then (now + a) + completions (now + a) (d - a) times else 0

-- the same of the times that remain at now and of the jobs that are released from then on
abbrev pub shortest_first : (ℕ → ℕ) → (ℕ → ℕ) → ℕ → List ℕ → List ℕ → ℕ
shortest_first p r now times [] = completions now (sum times) times
shortest_first p r now times (j ∷ jobs) =
    completions now (r j - now) times
    + shortest_first p r (r j) (put (p j) (remaining (r j - now) times)) jobs

abbrev pub shortest_value : ProblemData → List ℕ → ℕ
shortest_value k jobs = shortest_first (problem_time k) (problem_release k) 0 [] jobs

-- one machine, whatever the conditions: the sum of completion times
abbrev pub ShortestLaw : Type 0
ShortestLaw = (k : ProblemData) → IsProblemSound k → IsTrue (is_single_env k.problem.env)
    → k.problem.goal ≡ goals.SumC → (jobs : List ℕ) → IsDistinct jobs → All (IsProblemJob k) jobs
    → IsRisingBy (problem_release k) 0 jobs → IsLowerBound k (pos (shortest_value k jobs))

-- One machine with release dates, where jobs may be preempted and nothing else is asked: the list of
-- all jobs gives the least sum of completion times.
abbrev pub ShortestBestLaw : Type 0
ShortestBestLaw = (k : ProblemData) → IsProblemSound k → IsTrue (is_single_env k.problem.env)
    → k.problem.goal ≡ goals.SumC → IsTrue k.problem.prmp → IsFalse k.problem.prec
    → IsFalse k.problem.prmu → IsFalse k.problem.nwt → (jobs : List ℕ)
    → IsPermutation (problem_jobs k) jobs → IsRisingBy (problem_release k) 0 jobs
    → (rows : Timetable) × IsProblemBest k rows (pos (shortest_value k jobs))
