-- Job by job, the multipliers of the arcs that have it at one end.
use Rattle.std.specs.Prelude.{◌≡◌, ℕ, ◌*◌, ◌-◌, ◌^◌, ◌≤◌, Bool, ◌==◌, List, length, slice_index, if◌then◌else◌}
use Rattle.tf_posed.specs.ProblemData.{ProblemData, IsProblemJob}
use Rattle.tf_problem.specs.ProblemBounds.{over_arcs, problem_arcs}

-- the job after an arc, or the one before it
abbrev pub end_of : Bool → ℕ × ℕ → ℕ
end_of is_after arc = if is_after then arc.1 else arc.0

-- 1 where the arc has the job at that end, and 0 where it has not
abbrev pub given_at : Bool → ℕ → ℕ × ℕ → ℕ
given_at is_after j arc = if end_of is_after arc == j then 1 else 0

pub record AreArcSums (k : ProblemData) (l : List ℕ) (is_after : Bool) (sums : List ℕ) : Type 0 where
  pub len : length sums ≡ length k.jobs
  pub each : (j : ℕ) → IsProblemJob k j
      → slice_index sums (j - 1) ≡ over_arcs (given_at is_after j) (problem_arcs k) l
  pub small : (i : ℕ) → slice_index sums i ≤ length l * 2 ^ 64
