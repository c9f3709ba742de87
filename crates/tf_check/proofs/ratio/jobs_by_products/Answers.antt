use Rattle.std.proofs.Common.{rules, ap, ◌∙◌}
use Rattle.std.proofs.lemmas.List.Sorted.{answers_always}
use Rattle.std.proofs.lemmas.Result.{IfOk-weaker}
use Rattle.tf_check.specs.GoesBefore.{goes_before}
use Rattle.tf_check.specs.Ratio.{jobs_of}
use Rattle.tf_check.proofs.RatioOrder.{by_ratio-order, by_ratio_from_sort}
use Rattle.tf_check.proofs.ratio.jobs_by_products.Goals as goal

pub returns-clause-by_ratio : goal.returns-clause-by_ratio
returns-clause-by_ratio g c =
    IfOk-weaker c.numbers.result _ _
    (λ jobs is. record {
      jobs = c.sort_unstable_by.new.self.items;
      by_ratio = by_ratio_from_sort c.args.task.now _ _ c.in_ok-jobs.ensures.all
          c.sort_unstable_by.ensures.permutation
          (c.sort_unstable_by.ensures.sorted goes_before by_ratio-order
          (answers_always _ _ _ (λ f a r g called. search rules)));
      are = is ∙ ap jobs_of c.deref.ensures.value;
    })
    c.numbers.ensures
