use Rattle.std.proofs.Common.{arith}
use Rattle.std.proofs.lemmas.List.Elements.{All-push}
use Rattle.tf_posed.specs.ProblemData.{IsProblemJob}
use Rattle.tf_search.proofs.machine_search.jobs_on.Goals as goal
use Rattle.tf_search.proofs.machine_search.jobs_on.Goals.{then-time_on-gt0+in_ok-push, else-time_on-gt0}

pub loop-k-preserved : goal.loop-k-preserved
loop-k-preserved g c =
    let job : IsProblemJob c.args.task.now c.at-job.result = (
      omega (arith, c.at-job.ensures),
      omega (arith, c.at-job.ensures, c.loop-k-test.true, c.len-k-end.ensures.value),
    ) in
    elim c.if-time_on-gt0.branch [
      | then-time_on-gt0+in_ok-push w ↦ rw (w.jobs-is, w.in_ok-push.ensures.items)
          (All-push (IsProblemJob c.args.task.now) c.loop-k.jobs.items c.at-job.result
          c.loop-k.invariant job)
      | else-time_on-gt0 w ↦ rw w.jobs-is c.loop-k.invariant
    ]
