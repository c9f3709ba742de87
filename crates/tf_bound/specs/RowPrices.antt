-- What a row costs a job, by the job's numbers.
use Rattle.std.specs.Prelude.{ℕ, ◌+◌, ◌-◌, ◌*◌, List, length, slice_index}
use Rattle.std.specs.List.{range_with_len}
use Rattle.tf_check.specs.Bound.{least_number}

-- the slope for each row before, and the time as often as the price of the row
abbrev pub priced_row : List ℕ → ℕ → ℕ → ℕ → ℕ
priced_row prices slope time t = slope * t + time * slice_index prices t

-- the least of them from a row on
abbrev pub least_row : List ℕ → ℕ → ℕ → ℕ → ℕ
least_row prices release slope time =
    least_number (priced_row prices slope time)
    (range_with_len release (length prices - release + 1))
