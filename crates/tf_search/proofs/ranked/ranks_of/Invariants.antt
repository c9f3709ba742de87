use Rattle.std.specs.List.{All}
use Rattle.tf_check.specs.RatioRank.{IsOfJob}
use Rattle.tf_search.proofs.ranked.ranks_of.Given as goal

abbrev pub invariant-loop-k : goal.invariant-loop-k
invariant-loop-k g l = All IsOfJob l.ranks.items
