-- Lists of last stops, and their weighted sums.
use Rattle.std.specs.List.{range_with_len, sum_by}
use Rattle.std.specs.Prelude.{List, if◌then◌else◌, length, max, slice_index, ℕ, ◌&&◌, ◌*◌, ◌+◌, ◌<◌, ◌==◌, ◌≡◌}
use Rattle.tf_model.specs.SchedulingTask.{SchedulingTask, job_data}
use Rattle.tf_schedule.specs.Amounts.{last_stop}
use Rattle.tf_schedule.specs.Cost.{is_known}
use Rattle.tf_schedule.specs.Drawing.{stop_of}
use Rattle.tf_schedule.specs.SemiActive.{line_stop}
use Rattle.tf_schedule.specs.declared.piece.Piece.{Piece}

-- the weighted sum of the jobs 1 to n, of which job j completes at f j
abbrev pub total_of : SchedulingTask → (ℕ → ℕ) → ℕ → ℕ
total_of k f n = sum_by (λ j. (job_data k j).weight * f j) (range_with_len 1 n)

-- of which each completes at its last stop
abbrev pub total_to : SchedulingTask → List Piece → ℕ → ℕ
total_to k ps = total_of k (last_stop ps)

-- the list has the last stops of the jobs from first + 1 on
abbrev pub HasStops : List Piece → ℕ → List ℕ → Type 0
HasStops ps first stops = (i : ℕ) → i < length stops
    → slice_index stops i ≡ last_stop ps (first + i + 1)

-- the last stop of job j with one more piece
abbrev pub with_stop : SchedulingTask → Piece → ℕ → ℕ → ℕ
with_stop k p j stop = if is_known k p && (p.job == j) then max (stop_of p) stop else stop

-- the list has the stops of the lines from 1 on
abbrev pub HasStopsBy : (Piece → ℕ) → List Piece → List ℕ → Type 0
HasStopsBy line ps stops = (k : ℕ) → k < length stops
    → slice_index stops k ≡ line_stop line ps (k + 1)
