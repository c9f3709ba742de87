-- The timetable that pieces draw (Pinedo, chapter 2, draws it as a Gantt chart).
use Rattle.std.specs.Prelude.{◌≡◌, ◌↔◌, length, ℕ, ◌+◌, ◌-◌, ◌<◌, ◌≤◌, List, [], ◌∷◌, max, map, if◌then◌else◌}
use Rattle.std.specs.List.{range_with_len, All, Any}
use Rattle.tf_schedule.specs.declared.piece.Piece.{Piece}
use Rattle.tf_schedule.specs.Piece.{as_time, covers}
use Rattle.tf_schedule.specs.Schedule.{NoneTwice}
use Rattle.tf_model.specs.Timetable.{Timetable, cell}

-- the job of the piece that claims the cell of machine i, counted from 1, at time t: 0 where none
-- does
abbrev pub job_at : List Piece → ℕ → ℕ → ℕ
job_at [] i t = 0
job_at (p ∷ ps) i t = if covers i t p then p.job else job_at ps i t

-- the greatest stop, 0 without pieces
abbrev pub greatest_stop : List Piece → ℕ
greatest_stop [] = 0
greatest_stop (p ∷ ps) = max (as_time p.stop) (greatest_stop ps)

-- what the pieces draw on machines 1 to m
unfoldable pub drawing : ℕ → List Piece → Timetable
drawing m ps =
    map (λ t. map (λ i. job_at ps i t) (range_with_len 1 m)) (range_with_len 0 (greatest_stop ps))

-- how long a piece is
abbrev pub duration : Piece → ℕ
duration p = as_time p.stop - as_time p.start

abbrev pub stop_of : Piece → ℕ
stop_of p = as_time p.stop

-- the piece names one of the machines 1 to m
abbrev pub IsOnMachine : ℕ → Piece → Type 0
IsOnMachine m p = (0 < p.machine) × (p.machine ≤ m)

-- the piece is of job j, on machine i, and going at time t
pub record IsGoing (i t j : ℕ) (p : Piece) : Type 0 where
  pub job : p.job ≡ j
  pub machine : p.machine ≡ i
  pub started : as_time p.start ≤ t
  pub going : t < as_time p.stop

-- the pieces draw the rows on machines 1 to m: no cell is claimed twice, each piece names a job
-- from 1 and one of the machines, the rows end
-- with the last piece, and a cell has a job exactly where a piece of the job on the machine is
-- going
pub record Draws (m : ℕ) (ps : List Piece) (rows : Timetable) : Type 0 where
  pub none_twice : NoneTwice ps
  pub numbered : All (λ p. 0 < p.job) ps
  pub on_machines : All (IsOnMachine m) ps
  pub ends : length rows ≡ greatest_stop ps
  pub width : All (λ row. length row ≡ m) rows
  pub cells : (i t j : ℕ) → i < m → 0 < j → (cell rows t i ≡ j) ↔ Any (IsGoing (i + 1) t j) ps
