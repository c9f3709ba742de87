use Rattle.std.proofs.Common.{get_or, ◌∙◌, arith}
use Rattle.std.proofs.lemmas.List.{get_or_default}
use Rattle.tf_orders.proofs.Added.{job_more, job_done}
use Rattle.tf_orders.proofs.laying.Laying.add_job.Goals as goal

pub loop-time-preserved : goal.loop-time-preserved
loop-time-preserved g c = record {
  pieces = rw (c.in_ok-free.ensures.pieces, c.in_ok-free.ensures.stop, c.next-machine.ensures)
      (job_more _ c.args.job c.loop-time.machine c.loop-time.free c.args.times.now
      c.loop-time.time-index (get_or c.args.times.now c.loop-time.time-index 0)
      c.loop-time-test.true
      (get_or_default c.args.times.now c.loop-time.time-index 0
      (get_or c.args.times.now c.loop-time.time-index 0) c.loop-time-test.true)
      ∙ c.loop-time.invariant.pieces);
  machine = omega (arith, c.next-machine.ensures, c.loop-time.invariant.machine);
  small = c.in_ok-free.ensures.small;
  machines = c.add.ensures.machines ∙ c.loop-time.invariant.machines;
}

pub returns-clause-pieces : goal.returns-clause-pieces
returns-clause-pieces g c =
    job_done _ _ _ _ c.args.times.now c.loop-time.time-index c.loop-time-test.false
    ∙ c.loop-time.invariant.pieces
