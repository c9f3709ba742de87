use Rattle.std.proofs.Common.{sym, ap, ◌∙◌, arith}
use Rattle.tf_model.specs.SchedulingTask.{JobData, job_data}
use Rattle.tf_multi.specs.OpenShop.{goes_ahead}
use Rattle.tf_multi.proofs.Leader.{first_leader, leader_taken, leader_kept, leader_of_all}
use Rattle.tf_multi.proofs.open_two.leader.Goals as goal
use Rattle.tf_multi.proofs.open_two.leader.Goals.{then-goes_ahead, else-goes_ahead}

pub loop-k-init : goal.loop-k-init
loop-k-init g c = first_leader c.args.task.now c.at-leader.result c.at-leader.ensures

pub loop-k-preserved : goal.loop-k-preserved
loop-k-preserved g c =
    let task = c.args.task.now in
    let ahead = c.goes_ahead.ensures
    ∙ ap (λ (d : JobData). goes_ahead d.first d.second c.job-in-loop-k.result.first
    c.job-in-loop-k.result.second) c.job.ensures.value
    ∙ ap (λ (d : JobData). goes_ahead (job_data task c.at-job.result).first
    (job_data task c.at-job.result).second d.first d.second) c.job-in-loop-k.ensures.value in
    elim c.if-goes_ahead.branch [
      | then-goes_ahead w ↦ rw w.leader-is
          (leader_taken task c.loop-k.k c.loop-k.leader c.at-job.result c.at-job.ensures
          c.loop-k.invariant (sym ahead ∙ w.if-goes_ahead.true))
      | else-goes_ahead w ↦ rw w.leader-is
          (leader_kept task c.loop-k.k c.loop-k.leader c.at-job.result c.at-job.ensures
          c.loop-k.invariant (sym ahead ∙ w.if-goes_ahead.false))
    ]

pub returns : goal.returns
returns g c =
    leader_of_all c.args.task.now c.loop-k.k c.loop-k.leader
    (omega (
      arith,
      c.loop-k.auto.k-end,
      c.loop-k-test.false,
      c.len-k-end.ensures.value,
      c.len-k-end.ensures.sound.some_job,
    ))
    c.loop-k.invariant
