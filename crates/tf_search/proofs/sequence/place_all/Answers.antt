use Rattle.std.proofs.Common.{◌∙◌, sym, subst}
use Rattle.std.proofs.lemmas.List.{length-set}
use Rattle.std.proofs.lemmas.List.Elements.{All-push}
use Rattle.tf_posed.specs.ProblemData.{IsProblemJob}
use Rattle.tf_search.specs.declared.sequence.Placed.{Placed}
use Rattle.tf_search.proofs.sequence.place_all.Goals as goal

pub loop-job-preserved : goal.loop-job-preserved
loop-job-preserved g c =
    let task = c.args.task.now in
    let job : IsProblemJob task c.job-item.result =
    subst (IsProblemJob task) (sym c.job-item.is)
    (c.requires.jobs c.loop-job.job-index c.job-item.result c.loop-job-test.true) in
    record {
      machines = length-set c.loop-job.free.items c.first_free-machine.result _
          ∙ c.loop-job.invariant.machines;
      jobs = rw c.in-Ok-push.ensures.items
          (All-push (λ (p : Placed). IsProblemJob task p.job) c.loop-job.placed.items _
          c.loop-job.invariant.jobs job);
    }
