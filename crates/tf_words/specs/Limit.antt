-- The greatest absolute value of a number, and the greatest horizon and total, as a number without
-- a sign.
use Rattle.std.specs.Prelude.{ℕ}

abbrev pub limit : ℕ
limit = 4000000000000000000
