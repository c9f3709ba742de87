use Rattle.std.proofs.Common.{◌≡◌, suc, ◌+◌, ◌++◌, ◌∷◌, [], map, sym, ap, subst, ◌∙◌, arith}
use Rattle.std.specs.List.{range_with_len, All}
use Rattle.std.specs.List.Sorted.{IsPermutation}
use Rattle.std.proofs.lemmas.List.{map_push}
use Rattle.std.proofs.lemmas.List.Elements.{All-push}
use Rattle.std.proofs.lemmas.List.Sorted.{All-permutation, IsPermutation-map}
use Rattle.tf_model.specs.SchedulingTask.{all_jobs, time_of}
use Rattle.tf_model.proofs.Costs.{term-le-all_jobs}
use Rattle.tf_check.specs.RatioRank.{job_in}
use Rattle.tf_multi.specs.FlowShop.{IsRanked}
use Rattle.tf_multi.specs.Johnson.{IsJohnsonOrder}
use Rattle.tf_multi.proofs.Numbers.{apart_in_order, range_push}
use Rattle.tf_multi.proofs.Ranking.{ranks_in_order, order_from_ranks}
use Rattle.tf_multi.proofs.johnson.order.johnson_order.Goals as goal

pub rank_in-requires-clause-within : goal.rank_in-requires-clause-within
rank_in-requires-clause-within g c =
    let task = c.args.task.now in
    let sound = c.len-k-end.ensures.sound in
    omega (
      arith,
      term-le-all_jobs task (time_of task) c.at.result
          (omega (arith, c.at.ensures), omega (arith, c.at.ensures, c.len-k-end.ensures.value)),
      sound.total,
    )

pub loop-k-preserved : goal.loop-k-preserved
loop-k-preserved g c =
    let task = c.args.task.now in
    let k = c.loop-k.k in
    let r = c.rank_in.result in
    let before = c.loop-k.ranks.items in
    let number : job_in r ≡ 1 + k = c.rank_in.ensures.job ∙ c.at.ensures ∙ omega arith in
    let next : suc k ≡ k + 1 = omega arith in
    let jobs : map job_in (before ++ r ∷ []) ≡ range_with_len 1 (k + 1) =
    map_push job_in before r
    ∙ ap (λ xs. xs ++ job_in r ∷ []) c.loop-k.invariant.jobs
    ∙ ap (λ x. range_with_len 1 k ++ x ∷ []) number
    ∙ sym (range_push 1 k)
    ∙ ap (range_with_len 1) next in
    let ranks : All (IsRanked task) (before ++ r ∷ []) =
    All-push (IsRanked task) before r c.loop-k.invariant.ranks c.rank_in.ensures.ranked in
    rw c.in_ok-push.ensures.items (record { jobs = jobs; ranks = ranks })

pub push_jobs-requires : goal.push_jobs-requires
push_jobs-requires g c =
    rw c.deref.ensures.value
    (λ i d lt. (All-permutation (IsRanked c.args.task.now) c.loop-k.ranks.items
    c.sort_unstable.new.self.items c.sort_unstable.ensures.permutation
    c.loop-k.invariant.ranks i d lt).job)

pub returns : goal.returns
returns g c =
    let task = c.args.task.now in
    let items = c.sort_unstable.new.self.items in
    let from_all : IsPermutation (all_jobs task) (map job_in items) =
    subst (λ xs. IsPermutation xs (map job_in items))
    (c.loop-k.invariant.jobs
    ∙ ap (range_with_len 1)
    (omega (arith, c.len-k-end.ensures.value, c.loop-k-test.false, c.loop-k.auto.k-end)))
    (IsPermutation-map job_in c.loop-k.ranks.items items
    c.sort_unstable.ensures.permutation) in
    let ranks : All (IsRanked task) items =
    All-permutation (IsRanked task) c.loop-k.ranks.items items
    c.sort_unstable.ensures.permutation c.loop-k.invariant.ranks in
    let is_order : IsJohnsonOrder task (map job_in items) = record {
      all = from_all;
      in_order = order_from_ranks task items ranks
          (ranks_in_order items c.sort_unstable.ensures.sorted)
          (apart_in_order task (map job_in items) from_all);
    } in
    subst (IsJohnsonOrder task)
    (sym (c.in_ok-push_jobs.ensures
    ∙ ap (λ jobs. jobs ++ map job_in c.deref.result.now) c.in_ok-order.ensures.items
    ∙ ap (map job_in) c.deref.ensures.value))
    is_order
