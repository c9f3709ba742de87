-- Orders that are built from the back, the last job first (Lawler 1973).
use Rattle.std.specs.Prelude.{◌≡◌, ℕ, ◌<◌, ◌≤◌, ℤ, ◌≤ℤ◌, ◌<ℤ◌, not, true, List, length, take, slice_index, filter}
use Rattle.std.specs.List.{All, Contains, sum_by}
use Rattle.tf_model.specs.SchedulingTask.{SchedulingTask, IsJob, all_jobs, time_of}
use Rattle.tf_model.specs.Bounds.{stands_in}
use Rattle.tf_model.specs.Cost.{price}
use Rattle.tf_model.specs.Distinct.{IsDistinct}
use Rattle.tf_check.specs.Bound.{is_free}
use Rattle.tf_single.specs.declared.backward.Step.{Step}

-- the jobs that are left when those of the list are taken, in rising order
abbrev pub rest_of : SchedulingTask → List ℕ → List ℕ
rest_of k taken = filter (λ j. not (stands_in taken j)) (all_jobs k)

-- what the job costs if it completes when all work of the list is done
abbrev pub price_behind : SchedulingTask → List ℕ → ℕ → ℤ
price_behind k jobs j = price k j (sum_by (time_of k) jobs)

-- the job is one of the list, has no successor in it, and is the cheapest such job for last, the
-- greatest number among equals
pub record IsLastChoice (k : SchedulingTask) (jobs : List ℕ) (j : ℕ) : Type 0 where
  pub here : Contains jobs j
  pub free : is_free k jobs j ≡ true
  pub cheapest : (i : ℕ) → Contains jobs i → is_free k jobs i ≡ true
      → price_behind k jobs j ≤ℤ price_behind k jobs i
  pub ties : (i : ℕ) → Contains jobs i → is_free k jobs i ≡ true
      → price_behind k jobs i ≡ price_behind k jobs j → i ≤ j

-- what the job costs that is taken at this place
abbrev pub step_price : SchedulingTask → List ℕ → ℕ → ℤ
step_price k taken n = price_behind k (rest_of k (take n taken)) (slice_index taken n)

-- the step costs this, none of the steps costs more, and those before it cost less
pub record IsDearest (k : SchedulingTask) (taken : List ℕ) (step : Step) : Type 0 where
  pub within : step.place < length taken
  pub value : step.value ≡ step_price k taken step.place
  pub dearest : (n : ℕ) → n < length taken → step_price k taken n ≤ℤ step.value
  pub first : (n : ℕ) → n < step.place → step_price k taken n <ℤ step.value

-- jobs were taken one after another, each the choice for last among those that were left
pub record AreChosen (k : SchedulingTask) (taken : List ℕ) : Type 0 where
  pub jobs : All (IsJob k) taken
  pub distinct : IsDistinct taken
  pub choice : (i : ℕ) → i < length taken
      → IsLastChoice k (rest_of k (take i taken)) (slice_index taken i)
