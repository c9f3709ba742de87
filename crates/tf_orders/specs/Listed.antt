-- List scheduling (Graham 1966): each job of a list goes to the machine that is free first.
use Rattle.std.specs.Prelude.{◌≡◌, ℕ, ◌<◌, ◌≤◌, List, length, take, slice_index, slice_index_or}
use Rattle.tf_schedule.specs.declared.piece.Piece.{Piece}
use Rattle.tf_schedule.specs.SemiActive.{machine_stop}
use Rattle.tf_orders.specs.declared.order.Turn.{Turn}
use Rattle.tf_orders.specs.Orders.{jobs_of}

-- of the machines 1 to m none is free before machine i, and none of a smaller number as soon
pub record IsFirstFree (ps : List Piece) (m i : ℕ) : Type 0 where
  pub machine : (1 ≤ i) × (i ≤ m)
  pub first : (other : ℕ) → 1 ≤ other → other ≤ m → machine_stop ps i ≤ machine_stop ps other
  pub smallest : (other : ℕ) → 1 ≤ other → other < i → machine_stop ps i < machine_stop ps other

-- the jobs in their order, each on the first of the machines 1 to m to be free of those before it
pub record AreListed (laid : List Turn → List Piece) (m : ℕ) (jobs : List ℕ) (turns : List Turn)
    : Type 0 where
  pub jobs_are : jobs_of turns ≡ jobs
  pub free : (k : ℕ) (d : Turn) → k < length turns
      → IsFirstFree (laid (take k turns)) m (slice_index_or turns k d).machine

-- ---- within the crate

-- of the first n numbers none is below that at place k, and none before it as low
pub record IsFirstLeast (numbers : List ℕ) (n k : ℕ) : Type 0 where
  pub within : k < n
  pub least : (i : ℕ) → i < n → slice_index numbers k ≤ slice_index numbers i
  pub first : (i : ℕ) → i < k → slice_index numbers k < slice_index numbers i
