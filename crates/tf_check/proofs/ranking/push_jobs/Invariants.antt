use Rattle.std.proofs.Common.{◌≡◌, ◌++◌, map, take}
use Rattle.tf_check.specs.RatioRank.{job_in}
use Rattle.tf_check.proofs.ranking.push_jobs.Given as goal

abbrev pub invariant-loop-rank : goal.invariant-loop-rank
invariant-loop-rank g l =
    l.jobs.items ≡ l.fn.jobs.items ++ map job_in (take l.rank-index l.ranks)
