use Rattle.std.proofs.Common.{◌≡◌, ℕ, ◌+◌, ◌<◌, ◌≤◌, [], length, slice_index}
use Rattle.std.specs.List.{All}
use Rattle.tf_model.specs.Limit.{limit}
use Rattle.tf_orders.specs.Operations.{free_from}
use Rattle.tf_orders.proofs.operations.releases.Given as goal

abbrev pub invariant-loop-k : goal.invariant-loop-k
invariant-loop-k g l = record {
  len : length l.free.items ≡ l.k;
  from : (i : ℕ) → i < l.k → slice_index l.free.items i ≡ free_from l.task [] (i + 1);
  small : All (λ time. time ≤ limit) l.free.items;
}
