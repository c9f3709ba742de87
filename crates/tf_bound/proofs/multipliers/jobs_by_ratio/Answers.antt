use Rattle.std.proofs.Common.{rules}
use Rattle.std.proofs.lemmas.List.Sorted.{answers_always}
use Rattle.tf_check.specs.GoesBefore.{goes_before}
use Rattle.tf_check.proofs.RatioOrder.{by_ratio-order, by_ratio_from_sort}
use Rattle.tf_problem.specs.ProblemBounds.{numerator}
use Rattle.tf_problem.specs.Relaxed.{weighed_task}
use Rattle.tf_bound.specs.Faulted.{timed_machine}
use Rattle.tf_bound.proofs.multipliers.jobs_by_ratio.Goals as goal

pub returns-clause-jobs : goal.returns-clause-jobs
returns-clause-jobs g c =
    by_ratio_from_sort
    (weighed_task c.args.task.now (timed_machine c.args.task.now c.args.machine) (numerator c.args.u.now))
    _ _ c.in_ok-jobs.ensures.jobs
    c.sort_unstable_by.ensures.permutation
    (c.sort_unstable_by.ensures.sorted goes_before by_ratio-order
    (answers_always _ _ _ (λ f a r g called. search rules)))
