use Rattle.std.proofs.Common.{◌≡◌, false, true, ℕ, get_or}
use Rattle.tf_bound.proofs.RaisedDates.{HasWaiting}
use Rattle.tf_bound.proofs.along.is_endless.Given as goal

abbrev pub invariant-loop-before : goal.invariant-loop-before
invariant-loop-before g l =
    (i : ℕ) → get_or l.marks.items i false ≡ true → HasWaiting l.waits l.arcs i
