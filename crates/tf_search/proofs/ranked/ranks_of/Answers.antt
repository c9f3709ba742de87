use Rattle.std.proofs.Common.{arith}
use Rattle.std.proofs.lemmas.List.Elements.{All-push}
use Rattle.tf_check.specs.RatioRank.{IsOfJob}
use Rattle.tf_search.proofs.ranked.ranks_of.Goals as goal
use Rattle.tf_search.proofs.ranked.ranks_of.Goals.{in-Some+in_ok-push, in_default}

pub loop-k-preserved : goal.loop-k-preserved
loop-k-preserved g c =
    elim c.match-place_of.branch [
      | in-Some+in_ok-push w ↦ rw (w.ranks-is, w.in_ok-push.ensures.items)
          (All-push IsOfJob c.loop-k.ranks.items w.rank_at.result c.loop-k.invariant
          (omega (
            arith,
            w.rank_at.ensures,
            c.at-job.ensures,
            c.loop-k-test.true,
            c.len-k-end.ensures.value,
            c.len-k-end.ensures.sized.few_jobs,
          )))
      | in_default w ↦ rw w.ranks-is c.loop-k.invariant
    ]
