use Rattle.std.proofs.lemmas.List.Sorted.{All-permutation}
use Rattle.tf_check.specs.RatioRank.{IsOfJob}
use Rattle.tf_search.proofs.ranked.jobs_by_rank.Goals as goal

pub push_jobs-requires : goal.push_jobs-requires
push_jobs-requires g c =
    rw c.deref.ensures.value
    (All-permutation IsOfJob c.in_ok-ranks.ranks.items c.sort_unstable.new.self.items
    c.sort_unstable.ensures.permutation c.in_ok-ranks.ensures)
