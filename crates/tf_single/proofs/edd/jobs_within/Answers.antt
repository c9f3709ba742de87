use Rattle.std.proofs.Common.{◌≡◌, ℕ, ◌-◌, Bool, ◌&&◌, nat_le, get_or, sym, ap, ◌∙◌, arith}
use Rattle.tf_model.specs.SchedulingTask.{job_data}
use Rattle.tf_single.specs.Ends.{is_within}
use Rattle.tf_single.proofs.Ranges.{filter_range_keeps, filter_range_skips}
use Rattle.tf_single.proofs.edd.jobs_within.Goals as goal
use Rattle.tf_single.proofs.edd.jobs_within.Goals.{then-is_within+in_ok-push, else-is_within}

pub loop-k-preserved : goal.loop-k-preserved
loop-k-preserved g c =
    let task = c.args.task.now in
    let ends = c.args.ends.now in
    let k : ℕ = c.loop-k.k in
    let job : ℕ = c.at-job.result in
    let its : ℕ → Bool = is_within task ends c.args.start c.args.end in
    let place : job - 1 ≡ k = omega (arith, c.at-job.ensures) in
    let judged : its job ≡ c.is_within.result =
    ap (λ n. nat_le c.args.start (job_data task job).release && nat_le (get_or ends n 0) c.args.end)
    place ∙ sym c.is_within.ensures in
    elim c.if-is_within.branch [
      | then-is_within+in_ok-push w ↦ rw (w.jobs-is, w.in_ok-push.ensures.items)
          (filter_range_keeps its k job _ c.at-job.ensures (judged ∙ w.if-is_within.true)
          c.loop-k.invariant)
      | else-is_within w ↦ rw w.jobs-is
          (filter_range_skips its k job _ c.at-job.ensures (judged ∙ w.if-is_within.false)
          c.loop-k.invariant)
    ]
