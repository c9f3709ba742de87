use Rattle.std.proofs.Common.{◌≡◌, ℕ, ◌<◌, slice_index, get_or, true, false}
use Rattle.tf_bound.proofs.routed_times.has_all.Given as goal

abbrev pub invariant-loop-machine : goal.invariant-loop-machine
invariant-loop-machine l =
    (a : ℕ) → a < l.machine → 0 < slice_index l.times a → get_or l.seen a false ≡ true
