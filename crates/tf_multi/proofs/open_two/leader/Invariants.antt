use Rattle.tf_multi.proofs.Leader.{IsLeaderOf}
use Rattle.tf_multi.proofs.open_two.leader.Given as goal

-- of the jobs so far
abbrev pub invariant-loop-k : goal.invariant-loop-k
invariant-loop-k g l = IsLeaderOf l.task l.k l.leader
