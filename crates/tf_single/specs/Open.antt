-- How many arcs lead from each job to jobs that are left, and which of those that are left have
-- none.
use Rattle.std.specs.Prelude.{◌≡◌, ℕ, ◌+◌, ◌==◌, ◌&&◌, not, true, if◌then◌else◌, List, length}
use Rattle.std.specs.List.{All, count_by, sum_by}
use Rattle.tf_model.specs.SchedulingTask.{SchedulingTask, IsJob, time_of}
use Rattle.tf_model.specs.Bounds.{stands_in}
use Rattle.tf_single.specs.Backward.{AreChosen, rest_of}
use Rattle.tf_single.specs.Progress.{of_job}

-- how many arcs lead from job j to jobs that are not taken
abbrev pub arcs_left : SchedulingTask → List ℕ → ℕ → ℕ
arcs_left k taken j = count_by (λ arc. (arc.0 == j) && not (stands_in taken arc.1)) k.arcs

-- the counts are those of the arcs that are left and of those that are pending for the job; the free
-- are the jobs that are left and have count 0, each once
pub record IsOpen (k : SchedulingTask) (taken : List ℕ) (pending : ℕ → ℕ) (counts free : List ℕ) : Type 0 where
  pub len : length counts ≡ length k.jobs
  pub counted : (j : ℕ) → IsJob k j
      → of_job counts j ≡ arcs_left k taken j + pending j
  pub over : (j : ℕ) → IsJob k j → stands_in taken j ≡ true → of_job counts j ≡ 0
  pub known : All (IsJob k) free
  pub frees : (j : ℕ) → IsJob k j
      → count_by (λ i. i == j) free
      ≡ (if stands_in taken j then 0 else (if of_job counts j == 0 then 1 else 0))

-- the jobs were chosen one after another, and of those that are left these are free, and this is
-- the work
pub record AreTaken (k : SchedulingTask) (taken counts free : List ℕ) (work : ℕ) : Type 0 where
  pub chosen : AreChosen k taken
  pub now : IsOpen k taken (λ _. 0) counts free
  pub left : work ≡ sum_by (time_of k) (rest_of k taken)
