use Rattle.std.proofs.Common.{◌<◌, length}
use Rattle.tf_search.proofs.sequence.most_urgent.Given as goal

abbrev pub invariant-loop-k : goal.invariant-loop-k
invariant-loop-k g l = l.best < length l.task.jobs
