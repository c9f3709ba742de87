-- Arcs in one list, by the job that they lead to.
use Rattle.std.specs.Prelude.{◌≡◌, ℕ, ◌-◌, ◌≤◌, ◌==◌, ◌&&◌, nat_lt, if◌then◌else◌, List, length, take, slice_range}
use Rattle.std.specs.List.{All, count_by}
use Rattle.tf_model.specs.SchedulingTask.{SchedulingTask, IsJob}
use Rattle.tf_single.specs.Progress.{of_job}

-- how many arcs lead to jobs before job j
abbrev pub arcs_before : List (ℕ × ℕ) → ℕ → ℕ
arcs_before arcs j = count_by (λ arc. nat_lt arc.1 j) arcs

-- how many of the first n arcs lead to job j and come from job i
abbrev pub arcs_between : List (ℕ × ℕ) → ℕ → ℕ → ℕ → ℕ
arcs_between arcs n j i = count_by (λ arc. (arc.1 == j) && (arc.0 == i)) (take n arcs)

-- where the list of job j begins: that of the job before it ends there
abbrev pub begin_of : List ℕ → ℕ → ℕ
begin_of ends j = if j == 1 then 0 else of_job ends (j - 1)

-- the list of job j
abbrev pub list_of : List ℕ → List ℕ → ℕ → List ℕ
list_of ends froms j = slice_range froms (begin_of ends j) (of_job ends j)

-- the list of each job has each job as often as arcs lead from it
pub record AreFound (k : SchedulingTask) (ends froms : List ℕ) : Type 0 where
  pub jobs : length ends ≡ length k.jobs
  pub in_order : (j : ℕ) → IsJob k j → begin_of ends j ≤ of_job ends j
  pub within : (j : ℕ) → IsJob k j → of_job ends j ≤ length froms
  pub known : All (IsJob k) froms
  pub each : (j i : ℕ) → IsJob k j
      → count_by (λ b. b == i) (list_of ends froms j) ≡ arcs_between k.arcs (length k.arcs) j i
