use Rattle.std.proofs.Common.{◌≡◌, ◌+◌, ◌*◌, ◌<◌, length, ap, sym, ◌∙◌, arith}
use Rattle.tf_model.specs.SchedulingTask.{job_data}
use Rattle.tf_schedule.specs.declared.extent.Extent.{Extent}
use Rattle.tf_schedule.specs.Lanes.{stop_by}
use Rattle.tf_schedule.specs.Stops.{total_of}
use Rattle.tf_schedule.proofs.Costing.{total_more, total_fits}
use Rattle.tf_schedule.proofs.cost.total_by.Goals as goal

-- the sum with the job of this turn
more : (g : _) (c : goal.After-weighted-sum g)
    → c.loop-k.sum + c.weighted-sum.result
    ≡ total_of c.args.task.now (stop_by c.args.extents.now) (c.loop-k.k + 1)
more g c =
    let k = c.args.task.now in
    let stop = stop_by c.args.extents.now in
    let own : c.weighted-sum.result ≡ (job_data k (c.loop-k.k + 1)).weight * stop (c.loop-k.k + 1) =
    c.weighted-sum.ensures
    ∙ ap (λ (e : Extent). (job_data k c.at-job.result).weight * e.stop) c.extent_at.ensures
    ∙ ap (λ j. (job_data k j).weight * stop j) c.at-job.ensures in
    ap (λ s. s + c.weighted-sum.result) c.loop-k.invariant
    ∙ ap (λ x. total_of k stop c.loop-k.k + x) own ∙ sym (total_more k stop c.loop-k.k)

pub overflow_add-sum : goal.overflow_add-sum
overflow_add-sum g c =
    let inside : c.loop-k.k < length c.args.task.now.jobs =
    omega (arith, c.loop-k-test.true, c.len-k-end.ensures.value) in
    omega (
      arith,
      more g c,
      total_fits c.args.task.now (stop_by c.args.extents.now) c.requires.task c.requires.class
          c.requires.stops (c.loop-k.k + 1) (omega (arith, inside)),
    )

pub loop-k-preserved : goal.loop-k-preserved
loop-k-preserved g c = more g c
