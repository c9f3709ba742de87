use Rattle.std.proofs.Common.{length}
use Rattle.tf_orders.proofs.flaw.suspect.Given as goal

abbrev pub decreases-loop-word : goal.decreases-loop-word
decreases-loop-word g l = length l.rest
