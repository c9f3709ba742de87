-- Signed numbers that are read, and the times among them.
use Rattle.std.specs.Prelude.{ℕ, ℤ, pos, negsuc, ◌≤ℤ◌, ◌+ℤ◌}
use Rattle.tf_model.specs.Limit.{limit}

-- a signed number as a time: itself, or 0 if it is negative
abbrev pub as_time : ℤ → ℕ
as_time (pos n) = n
as_time (negsuc n) = 0

-- its absolute value is at most the limit
abbrev pub IsWithin : ℤ → Type 0
IsWithin z = (pos 0 ≤ℤ (z +ℤ pos limit)) × (z ≤ℤ pos limit)
