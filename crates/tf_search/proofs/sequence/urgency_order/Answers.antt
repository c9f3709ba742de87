use Rattle.std.proofs.Common.{◌∙◌, arith}
use Rattle.std.proofs.lemmas.List.{length-set}
use Rattle.std.proofs.lemmas.List.Elements.{All-push}
use Rattle.tf_posed.specs.ProblemData.{IsProblemJob}
use Rattle.tf_search.proofs.sequence.urgency_order.Goals as goal

pub loop-preserved : goal.loop-preserved
loop-preserved g c =
    let job : IsProblemJob c.args.task.now c.at-job.result = (
      omega (arith, c.at-job.ensures),
      omega (arith, c.at-job.ensures, c.most_urgent-place.ensures),
    ) in
    record {
      taken = length-set c.loop.taken.items c.most_urgent-place.result _ ∙ c.loop.invariant.taken;
      jobs = rw c.in-Ok-push.ensures.items
          (All-push (IsProblemJob c.args.task.now) c.loop.order.items c.at-job.result
          c.loop.invariant.jobs job);
    }
