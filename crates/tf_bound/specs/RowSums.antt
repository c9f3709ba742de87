-- Prices of unit rows summed up, and what a start costs by them.
use Rattle.std.specs.Prelude.{◌≡◌, ℕ, ◌+◌, ◌*◌, ◌≤◌, Bool, ℤ, pos, ◌-ℤ◌, List, length, sum, take, slice_index, int_lt, if◌then◌else◌}
use Rattle.tf_model.specs.Limit.{limit}
use Rattle.tf_model.specs.Whole.{as_time}
use Rattle.tf_problem.specs.ProblemBounds.{price_of_rows}

-- each sum is that of the prices before its place, and all are within the limit
pub record AreSums (prices sums : List ℕ) : Type 0 where
  pub len : length sums ≡ length prices + 1
  pub at : (t : ℕ) → t ≤ length prices → slice_index sums t ≡ sum (take t prices)
  pub small : sum prices ≤ limit

-- how often a job that completes at c pays its slope: for each step after its due date, or once if it
-- is late at all
abbrev pub late_steps : Bool → ℤ → ℕ → ℕ
late_steps by_unit due c =
    if by_unit then (if int_lt due (pos c) then 1 else 0) else as_time (pos c -ℤ due)

-- the price is at most what the job costs from any start between two
abbrev pub IsCheapest : List ℕ → ℕ × ℕ → ℕ → Bool → ℕ → ℤ → ℕ → Type 0
IsCheapest prices starts time by_unit slope due price =
    (s : ℕ) → starts.0 ≤ s → s ≤ starts.1
    → price ≤ slope * late_steps by_unit due (s + time) + price_of_rows prices s time

-- the price is what the job costs from this start, which is between the two
pub record IsReached (prices : List ℕ) (starts : ℕ × ℕ) (time : ℕ) (by_unit : Bool) (slope : ℕ)
    (due : ℤ) (price start : ℕ) : Type 0 where
  pub released : starts.0 ≤ start
  pub within : start ≤ starts.1
  pub paid : price
      ≡ slope * late_steps by_unit due (start + time) + price_of_rows prices start time
