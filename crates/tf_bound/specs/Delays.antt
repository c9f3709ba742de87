-- The delay of two jobs by their times on the machines.
use Rattle.std.specs.Prelude.{ℕ, ◌+◌, ◌-◌, max, List, length, map, slice_index}
use Rattle.std.specs.List.{fold, range_with_len, sum_by}

-- how much longer the first job is on the machines up to one than the second on those before it
abbrev pub delay_on : List ℕ → List ℕ → ℕ → ℕ
delay_on first second a =
    sum_by (slice_index first) (range_with_len 0 (a + 1))
    - sum_by (slice_index second) (range_with_len 0 a)

-- the greatest of that
abbrev pub delay_of : List ℕ → List ℕ → ℕ
delay_of first second =
    fold max 0 (map (delay_on first second) (range_with_len 0 (length first)))
