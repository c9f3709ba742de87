use Rattle.std.proofs.Common.{◌≡◌, ℕ, ◌-◌, List, length, slice_index, ap, sym, ◌∙◌, subst, arith}
use Rattle.std.specs.List.{range_with_len}
use Rattle.std.specs.List.Sorted.{IsPermutation}
use Rattle.std.proofs.lemmas.List.Sorted.{IsPermutation-refl}
use Rattle.tf_check.proofs.RatioOrder.{weighted_more}
use Rattle.tf_check.specs.Ratio.{jobs_of}
use Rattle.tf_model.specs.SchedulingTask.{all_jobs}
use Rattle.tf_posed.specs.ProblemData.{IsProblemJob}
use Rattle.tf_problem.specs.ProblemBounds.{numerator}
use Rattle.tf_problem.specs.Relaxed.{weighed_task}
use Rattle.tf_bound.specs.Faulted.{timed_machine}
use Rattle.tf_bound.proofs.Weighed.{told, jobs_are}
use Rattle.tf_bound.proofs.multipliers.weighed_jobs.Goals as goal

pub loop-k-preserved : goal.loop-k-preserved
loop-k-preserved g c =
    let k = c.args.task.now in
    let a : ℕ = timed_machine k c.args.machine in
    let w : ℕ → ℕ = numerator c.args.u.now in
    let job : IsProblemJob k c.at-job.result = (
      omega (arith, c.at-job.ensures),
      omega (arith, c.at-job.ensures, c.loop-k-test.true, c.len-k-end.ensures.value),
    ) in
    let place : c.loop-k.k ≡ c.at-job.result - 1 = omega (arith, c.at-job.ensures) in
    weighted_more (weighed_task k a w) c.loop-k.jobs.items c.push.new.self.items _ c.loop-k.k
    c.loop-k.invariant c.in-Ok-push.ensures.items c.at-job.ensures
    (told k a w _ job (ap (slice_index c.args.u.now) place) c.time_at-time.ensures)

pub returns-clause-jobs : goal.returns-clause-jobs
returns-clause-jobs g c =
    let k = c.args.task.now in
    let a : ℕ = timed_machine k c.args.machine in
    let w : ℕ → ℕ = numerator c.args.u.now in
    let all : length k.jobs ≡ c.loop-k.k =
    omega (arith, c.len-k-end.ensures.value, c.loop-k-test.false, c.loop-k.auto.k-end) in
    let same : all_jobs (weighed_task k a w) ≡ jobs_of c.loop-k.jobs.items =
    jobs_are k a w ∙ ap (range_with_len 1) all ∙ sym c.loop-k.invariant.jobs in
    record {
      all = subst (λ (js : List ℕ). IsPermutation (all_jobs (weighed_task k a w)) js) same
          (IsPermutation-refl (all_jobs (weighed_task k a w)));
      told = c.loop-k.invariant.told;
    }
