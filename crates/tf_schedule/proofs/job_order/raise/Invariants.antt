use Rattle.tf_schedule.proofs.Passing.{IsWalking}
use Rattle.tf_schedule.proofs.job_order.raise.Given as goal

abbrev pub invariant-loop-k : goal.invariant-loop-k
invariant-loop-k l = IsWalking l.pieces l.k l.initial.ranks l.ranks l.walk
