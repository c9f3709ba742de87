-- The dates of jobs, and how late a piece is.
use Rattle.std.specs.Prelude.{ℕ, ℤ, ◌-◌, ◌-ℤ◌, List, slice_get, Option, None, Some}
use Rattle.std.specs.Option.{option_and_then}
use Rattle.tf_model.specs.Whole.{as_time}
use Rattle.tf_schedule.specs.declared.piece.Piece.{Piece}
use Rattle.tf_picture.specs.declared.dates.JobDates.{JobDates}

-- the dates of a job, counted from 1, where there are any
abbrev pub release_of : List JobDates → ℕ → Option ℤ
release_of dates job = option_and_then (λ d. d.release) (slice_get dates (job - 1))

abbrev pub due_of : List JobDates → ℕ → Option ℤ
due_of dates job = option_and_then (λ d. d.due) (slice_get dates (job - 1))

-- how long after this date the time is, or 0
abbrev pub after : Option ℤ → ℤ → ℕ
after None time = 0
after (Some date) time = as_time (time -ℤ date)

-- how many time steps after its job's due date a piece stops
abbrev pub tardiness : List JobDates → Piece → ℕ
tardiness dates p = after (due_of dates p.job) p.stop
