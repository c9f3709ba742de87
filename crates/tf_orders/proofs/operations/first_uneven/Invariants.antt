use Rattle.std.proofs.Common.{◌≡◌, ℕ, ◌+◌, ◌<◌, length, slice_index}
use Rattle.tf_bound.specs.Steps.{steps_of}
use Rattle.tf_orders.proofs.operations.first_uneven.Given as goal

abbrev pub invariant-loop-k : goal.invariant-loop-k
invariant-loop-k g l =
    (i : ℕ) → i < l.k → slice_index l.named i ≡ length (steps_of l.task (i + 1))
