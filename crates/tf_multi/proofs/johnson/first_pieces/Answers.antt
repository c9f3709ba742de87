use Rattle.std.proofs.Common.{refl, ap, ◌∙◌, arith}
use Rattle.tf_multi.specs.TwoMachines.{time_at, operation_of}
use Rattle.tf_multi.proofs.Certified.{line_total}
use Rattle.tf_multi.proofs.Numbers.{apart_in_order}
use Rattle.tf_multi.proofs.OneByOne.{left_more}
use Rattle.tf_multi.proofs.Turning.{order_job}
use Rattle.tf_multi.proofs.johnson.first_pieces.Goals as goal

pub loop-job-init : goal.loop-job-init
loop-job-init g c =
    rw c.in_ok-pieces.ensures.items (record {
      pieces = refl;
      within = omega (arith, line_total _ c.len.ensures.sound c.requires.flow _ c.requires.order);
      machine = refl;
      jobs = λ k d h. refl;
      apart = apart_in_order c.args.task.now c.args.order.now c.requires.order;
    })

pub operation-requires : goal.operation-requires
operation-requires g c =
    order_job c.args.task.now c.args.order.now c.requires.order c.loop-job.job-index
    c.job-item.result c.loop-job-test.true c.job-item.is

pub loop-job-preserved : goal.loop-job-preserved
loop-job-preserved g c =
    left_more (λ j. time_at c.args.task.now j 1) 1 c.args.order.now c.loop-job.job-index
    c.job-item.result c.operation.result c.loop-job.invariant c.loop-job-test.true c.job-item.is
    (c.operation.ensures
    ∙ ap (operation_of (time_at c.args.task.now) c.job-item.result) c.machine_of.ensures)
    c.in_ok-now.ensures.pieces c.in_ok-now.ensures.end
