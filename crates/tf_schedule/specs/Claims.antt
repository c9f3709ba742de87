-- How often the pieces claim a machine or run a job at one time.
use Rattle.std.specs.Prelude.{Bool, List, int_le, nat_lt, ℕ, ℤ, ◌&&◌, ◌<ℤ◌, ◌==◌, ◌||◌, ◌≡◌}
use Rattle.tf_schedule.specs.Piece.{claims_by, covers_by, job_of, machine_of}
use Rattle.tf_schedule.specs.Schedule.{NoneTwiceBy}
use Rattle.tf_schedule.specs.declared.piece.Piece.{Piece}

-- the piece starts at or before time z of machine i
abbrev pub has_started : ℕ → ℤ → Piece → Bool
has_started i z p = nat_lt p.machine i || ((p.machine == i) && int_le p.start z)

-- q starts before p ends, on the same line
abbrev pub OverlapBy : (Piece → ℕ) → Piece → Piece → Type 0
OverlapBy line p q = (line p ≡ line q) × (q.start <ℤ p.stop)

-- how many pieces claim the cell of machine i at time t
abbrev pub claims : List Piece → ℕ → ℕ → ℕ
claims = claims_by machine_of

-- the piece runs job j at time t, and how many pieces do
abbrev pub runs : ℕ → ℕ → Piece → Bool
runs = covers_by job_of

abbrev pub places : List Piece → ℕ → ℕ → ℕ
places = claims_by job_of

-- no job runs in two places at once
abbrev pub JobsOnce : List Piece → Type 0
JobsOnce = NoneTwiceBy job_of
