-- Arcs counted at both of their jobs.
use Rattle.std.specs.Prelude.{◌≡◌, ℕ, ◌==◌, List, length}
use Rattle.std.specs.List.{count_by}
use Rattle.tf_model.specs.SchedulingTask.{SchedulingTask, IsJob}
use Rattle.tf_single.specs.Progress.{of_job}

-- the list has for each job how many arcs have it on this side
pub record AreCounts (k : SchedulingTask) (side : ℕ × ℕ → ℕ) (arcs : List (ℕ × ℕ)) (counts : List ℕ)
    : Type 0 where
  pub len : length counts ≡ length k.jobs
  pub each : (j : ℕ) → IsJob k j → of_job counts j ≡ count_by (λ arc. side arc == j) arcs

-- how many arcs lead from each job
abbrev pub AreArcsFrom : SchedulingTask → List ℕ → Type 0
AreArcsFrom k counts = AreCounts k (λ arc. arc.0) k.arcs counts

-- how many arcs lead to each job
abbrev pub AreArcsTo : SchedulingTask → List ℕ → Type 0
AreArcsTo k counts = AreCounts k (λ arc. arc.1) k.arcs counts
