use Rattle.std.proofs.Common.{ap, subst, sym, ◌∙◌, ◌++◌, map}
use Rattle.std.proofs.lemmas.List.Sorted.{All-permutation}
use Rattle.tf_check.specs.Ratio.{AreJobsByRatio}
use Rattle.tf_check.specs.RatioRank.{IsRankIn, job_in}
use Rattle.tf_check.proofs.RatioRank.{by_rank_from_sort}
use Rattle.tf_check.proofs.ratio.jobs_by_rank.Goals as goal

pub push_jobs-requires : goal.push_jobs-requires
push_jobs-requires g c =
    rw c.deref.ensures.value
    (λ i d lt. (All-permutation (IsRankIn c.args.task.now c.args.scale) c.in_ok-ranks.ranks.items
    c.sort_unstable.new.self.items c.sort_unstable.ensures.permutation
    c.in_ok-ranks.ensures.ranks i d lt).job.0)

pub returns-clause-by_ratio : goal.returns-clause-by_ratio
returns-clause-by_ratio g c =
    subst (AreJobsByRatio c.args.task.now)
    (sym (c.in_ok-push_jobs.ensures ∙ ap (λ js. js ++ map job_in c.deref.result.now)
    c.in_ok-jobs.ensures.items ∙ ap (map job_in) c.deref.ensures.value))
    (by_rank_from_sort c.args.task.now c.args.scale c.ranks_of.ensures.sound c.requires.sum
    c.requires.scale c.in_ok-ranks.ranks.items c.sort_unstable.new.self.items
    c.in_ok-ranks.ensures.jobs c.in_ok-ranks.ensures.ranks c.sort_unstable.ensures.permutation
    c.sort_unstable.ensures.sorted)
