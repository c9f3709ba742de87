use Rattle.std.proofs.Common.{◌≡◌, take}
use Rattle.tf_plan.proofs.order.are_same.Given as goal

abbrev pub invariant-loop-k : goal.invariant-loop-k
invariant-loop-k l = take l.k l.one ≡ take l.k l.other
