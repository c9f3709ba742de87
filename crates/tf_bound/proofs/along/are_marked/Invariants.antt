use Rattle.std.proofs.Common.{◌≡◌, false, true, ℕ, ◌<◌, slice_index, slice_index_or}
use Rattle.tf_bound.proofs.along.are_marked.Given as goal

abbrev pub invariant-loop-place : goal.invariant-loop-place
invariant-loop-place l =
    (l.is_waiting ≡ true → (i : ℕ) × (0 < slice_index l.waits i))
    × ((i : ℕ) → i < l.place → 0 < slice_index l.waits i
    → slice_index_or l.marks i false ≡ true)
