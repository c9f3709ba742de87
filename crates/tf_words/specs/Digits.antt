-- Digits, and the number that a word writes.
use Rattle.std.specs.Prelude.{ℕ, ◌+◌, ◌-◌, ◌*◌, ◌^◌, min, Bool, true, false, ◌&&◌, List, length, drop, nat_lt, ◌==◌, slice_index, ℤ, pos, neg_ℤ, Option, Some, None, if◌then◌else◌}
use Rattle.std.specs.List.{list_all}
use Rattle.std.specs.Char.{is_ascii_digit}
use Rattle.std.specs.Str.Parse.{digits_value}

-- one digit or more, and nothing else
abbrev pub is_numeral : List ℕ → Bool
is_numeral digits = nat_lt 0 (length digits) && list_all is_ascii_digit digits

-- the size with one digit more
abbrev pub more_by : ℕ → ℕ → ℕ
more_by size digit = size * 10 + (digit - 48)

-- the size, or the greatest number of 64 bits if that is less
abbrev pub cut : ℕ → ℕ
cut size = min size (2 ^ 64 - 1)

abbrev pub signed : Bool → ℕ → ℤ
signed negative size = if negative then neg_ℤ (pos size) else pos size

-- the number that digits write, behind a sign or not
abbrev pub written : Bool → List ℕ → Option ℤ
written negative digits =
    if is_numeral digits then Some (signed negative (digits_value 10 digits)) else None

-- The number that a word writes: an optional '-', and one digit or more. Leading zeros are allowed,
-- and the length does not matter.
unfoldable pub numeral : List ℕ → Option ℤ
numeral word = if slice_index word 0 == 45 then written true (drop 1 word) else written false word
