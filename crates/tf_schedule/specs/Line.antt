-- The lines of which the code speaks, machines or jobs, and the first clash on one.
use Rattle.std.specs.Prelude.{ℕ, pos, ◌≤ℤ◌, List}
use Rattle.tf_schedule.specs.declared.line.Line.{Line}
use Rattle.tf_schedule.specs.declared.line.Line.TheVariants.{Machine, Job}
use Rattle.tf_schedule.specs.declared.piece.Piece.{Piece}
use Rattle.tf_schedule.specs.Piece.{as_time, machine_of, job_of}
use Rattle.tf_schedule.specs.Schedule.{IsFirstClashBy}

-- the line on which a piece lies
abbrev pub line_of : Line → Piece → ℕ
line_of Machine = machine_of
line_of Job = job_of

-- the first clash is where the piece lies and starts
abbrev pub StartsFirstClashBy : (Piece → ℕ) → List Piece → Piece → Type 0
StartsFirstClashBy line ps p =
    (pos 0 ≤ℤ p.start) × IsFirstClashBy line ps (line p) (as_time p.start)
