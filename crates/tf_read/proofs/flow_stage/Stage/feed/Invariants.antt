use Rattle.std.proofs.Common.{ℕ, List, ◌+◌, ◌-◌, ◌≤◌, ◌++◌, length, take}
use Rattle.tf_read.specs.FlowStage.{line_of, HasTakenShop}
use Rattle.tf_read.proofs.flow_stage.Stage.feed.Given as goal

abbrev pub invariant-loop-k : goal.invariant-loop-k
invariant-loop-k g l = record {
  taken : (fed : List ℕ) → HasTakenShop l.wanted.name.now l.wanted.pair l.fn.self fed
      → HasTakenShop l.wanted.name.now l.wanted.pair l.self (fed ++ take l.k l.piece);
  line : line_of l.self ≤ line_of l.fn.self + l.k;
  within : l.k ≤ length l.piece;
}

abbrev pub decreases-loop-k : goal.decreases-loop-k
decreases-loop-k g l = length l.piece - l.k
