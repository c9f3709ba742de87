-- A piece of work, and the cells that pieces claim (Pinedo, chapter 2). Machines, jobs and times
-- are whole numbers.
use Rattle.std.specs.Prelude.{ℕ, pos, ◌≤ℤ◌, ◌<ℤ◌, Bool, ◌==◌, nat_le, nat_lt, ◌&&◌, List}
use Rattle.std.specs.List.{count_by}
use Rattle.tf_schedule.specs.declared.piece.Piece.{Piece}
use Rattle.tf_model.specs.Limit.{limit}
pub use Rattle.tf_model.specs.Whole.{as_time}

-- job j on machine i from time s up to time e
abbrev pub piece_of : ℕ → ℕ → ℕ → ℕ → Piece
piece_of j i s e = record { job = j; machine = i; start = pos s; stop = pos e }

-- the ends of the piece are times that are allowed
abbrev pub IsInRange : Piece → Type 0
IsInRange p = (pos 0 ≤ℤ p.start) × (p.stop ≤ℤ pos limit)

-- it covers a time
abbrev pub IsNotEmpty : Piece → Type 0
IsNotEmpty p = p.start <ℤ p.stop

-- time t is in the piece
abbrev pub is_during : ℕ → Piece → Bool
is_during t p = nat_le (as_time p.start) t && nat_lt t (as_time p.stop)

-- ---- A piece lies on a line, which is its machine or its job.

abbrev pub machine_of : Piece → ℕ
machine_of p = p.machine

abbrev pub job_of : Piece → ℕ
job_of p = p.job

-- the piece lies on line n, and time t is in it
abbrev pub covers_by : (Piece → ℕ) → ℕ → ℕ → Piece → Bool
covers_by line n t p = (line p == n) && is_during t p

-- how many pieces do
abbrev pub claims_by : (Piece → ℕ) → List Piece → ℕ → ℕ → ℕ
claims_by line ps n t = count_by (covers_by line n t) ps

-- the piece claims the cell of machine i at time t
abbrev pub covers : ℕ → ℕ → Piece → Bool
covers = covers_by machine_of
