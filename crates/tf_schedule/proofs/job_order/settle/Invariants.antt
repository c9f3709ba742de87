use Rattle.std.proofs.Common.{◌≡◌, ℕ, ◌-◌, ◌*◌, length}
use Rattle.std.specs.List.{sum_by}
use Rattle.tf_schedule.specs.Passing.{ArePlaced, AreBelow, AreRanks}
use Rattle.tf_schedule.proofs.job_order.settle.Given as goal

abbrev pub invariant-loop : goal.invariant-loop
invariant-loop l = record {
  len : length l.ranks ≡ length l.initial.ranks;
  small : AreRanks l.ranks;
  below : (place : ℕ → ℕ) → ArePlaced place l.pieces → AreBelow l.initial.ranks place
      → AreBelow l.ranks place;
}

abbrev pub decreases-loop : goal.decreases-loop
decreases-loop l = length l.ranks * length l.ranks - sum_by (λ r. r) l.ranks
