use Rattle.std.proofs.Common.{◌<◌, length}
use Rattle.tf_search.proofs.sequence.first_free.Given as goal

abbrev pub invariant-loop-machine : goal.invariant-loop-machine
invariant-loop-machine l = l.first < length l.free
