-- Machines that are filled one after another, each up to one time.
use Rattle.std.specs.Prelude.{◌≡◌, ℕ, ◌+◌, ◌*◌, ◌<◌, ◌≤◌, List}
use Rattle.std.specs.List.{All, sum_by, range_with_len}
use Rattle.tf_schedule.specs.declared.piece.Piece.{Piece}
use Rattle.tf_schedule.specs.Piece.{as_time}
use Rattle.tf_schedule.specs.Claims.{claims, places, JobsOnce}
use Rattle.tf_schedule.specs.Schedule.{IsPiece, IsSchedule}
use Rattle.tf_schedule.specs.Amounts.{work}

-- the piece is of one of the jobs 1 to n, ends by v, and lies before time t of machine i
pub record IsPlaced (v n i t : ℕ) (p : Piece) : Type 0 where
  pub sound : IsPiece p
  pub job : (0 < p.job) × (p.job ≤ n)
  pub machine : (0 < p.machine) × (p.machine ≤ i)
  pub stop : as_time p.stop ≤ v
  pub before : p.machine ≡ i → as_time p.stop ≤ t

-- the jobs 1 to n, each in its time, fill the machines before machine i up to v, and machine i up
-- to t
pub record IsFilled (v : ℕ) (times : ℕ → ℕ) (n : ℕ) (ps : List Piece) (i t : ℕ) : Type 0 where
  pub placed : All (IsPlaced v n i t) ps
  pub schedule : IsSchedule ps
  pub before_front : (h u : ℕ) → 0 < claims ps h u → (h ≤ i) × (h ≡ i → u < t)
  -- no job runs in two places at once, each of the n has its time, and no other job runs
  pub one_place : JobsOnce ps
  pub no_later_job : (j u : ℕ) → n < j → places ps j u ≡ 0
  pub amounts : (j : ℕ) → 0 < j → j ≤ n → work ps j ≡ times j
  pub no_later_work : (j : ℕ) → n < j → work ps j ≡ 0
  -- all that is filled is the time of the n jobs, and a machine is begun only where a job needs it
  pub position : i * v + t ≡ sum_by times (range_with_len 1 n) + v
  pub front : (0 < i) × (t ≤ v) × (1 < i → 0 < t)
