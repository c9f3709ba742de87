use Rattle.std.proofs.Common.{◌≡◌, ◌⊎◌, ℕ, ◌<◌, ◌≤◌, slice_index}
use Rattle.tf_posed.specs.ProblemData.{route_of}
use Rattle.tf_schedule.specs.declared.extent.Extent.{Extent}
use Rattle.tf_schedule.specs.Operation.{extent_behind}
use Rattle.tf_schedule.proofs.condition.are_in_order.Given as goal

abbrev on_route : (g : _) → goal.Live-loop-i g → ℕ → Extent
on_route g l a =
    extent_behind l.operations l.first (slice_index (route_of (g.T.Asks.posed l.task) l.job) a)

abbrev pub invariant-loop-i : goal.invariant-loop-i
invariant-loop-i g l = record {
  so_far : (a b : ℕ) → a < b → b < l.i → (on_route g l a).stop ≤ (on_route g l b).start;
  above : (a : ℕ) → a < l.i → (on_route g l a).stop ≤ l.latest;
  reached : (l.latest ≡ 0) ⊎ ((a : ℕ) × (a < l.i) × (l.latest ≡ (on_route g l a).stop));
}
