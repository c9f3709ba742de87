use Rattle.std.proofs.Common.{◌≡◌, ℕ, ◌<◌, slice_index}
use Rattle.tf_single.proofs.cycle.first_left.Given as goal

abbrev pub invariant-loop-k : goal.invariant-loop-k
invariant-loop-k g l = (n : ℕ) → n < l.k → slice_index l.counts n ≡ 0
