use Rattle.std.proofs.Common.{◌≡◌, map}
use Rattle.std.specs.List.{All, range_with_len}
use Rattle.tf_check.specs.RatioRank.{job_in}
use Rattle.tf_multi.specs.FlowShop.{IsRanked}
use Rattle.tf_multi.proofs.johnson.order.johnson_order.Given as goal

-- the jobs so far, with their ranks
abbrev pub invariant-loop-k : goal.invariant-loop-k
invariant-loop-k g l = record {
  jobs : map job_in l.ranks.items ≡ range_with_len 1 l.k;
  ranks : All (IsRanked l.task) l.ranks.items;
}
