-- Semi-active schedules (Pinedo, chapter 2): operations one after another, each started as soon as
-- its machine and its job are free of those before it. An operation of time 0 has no piece.
use Rattle.std.specs.Prelude.{ℕ, zero, suc, ◌+◌, ◌<◌, ◌≤◌, ◌==◌, max, List, [], ◌∷◌, ◌++◌, if◌then◌else◌}
use Rattle.std.specs.List.{fold}
use Rattle.tf_schedule.specs.declared.piece.Piece.{Piece}
use Rattle.tf_schedule.specs.Piece.{machine_of, job_of, piece_of}
use Rattle.tf_schedule.specs.Drawing.{stop_of}
use Rattle.tf_schedule.specs.declared.semi_active.Operation.{Operation}

-- the greatest stop of the pieces on line n, 0 where it has none
abbrev pub line_stop : (Piece → ℕ) → List Piece → ℕ → ℕ
line_stop line [] n = 0
line_stop line (p ∷ ps) n = if line p ==
    n then max (stop_of p) (line_stop line ps n) else line_stop line ps n

-- of the pieces on machine i, and of job j
abbrev pub machine_stop : List Piece → ℕ → ℕ
machine_stop = line_stop machine_of

abbrev pub job_stop : List Piece → ℕ → ℕ
job_stop = line_stop job_of

-- job j on machine i from time s on, for a time: no piece for time 0
abbrev pub stretch : ℕ → ℕ → ℕ → ℕ → List Piece
stretch j i s zero = []
stretch j i s (suc n) = piece_of j i s (s + suc n) ∷ []

-- when the machine and the job of an operation are free of the pieces
abbrev pub start_after : List Piece → Operation → ℕ
start_after ps o = max (machine_stop ps o.machine) (job_stop ps o.job)

-- with one more operation
abbrev pub with_operation : List Piece → Operation → List Piece
with_operation ps o = ps ++ stretch o.job o.machine (start_after ps o) o.time

-- the pieces of all of them
abbrev pub laid : List Operation → List Piece
laid operations = fold with_operation [] operations

-- the operation is of one of the jobs 1 to n, on one of the machines 1 to m
pub record IsOperation (n m : ℕ) (o : Operation) : Type 0 where
  pub job : (0 < o.job) × (o.job ≤ n)
  pub machine : (0 < o.machine) × (o.machine ≤ m)
