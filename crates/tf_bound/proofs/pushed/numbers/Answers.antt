use Rattle.tf_bound.specs.JobNumbers.{number_by}
use Rattle.tf_bound.proofs.Dates.{jobs_more}
use Rattle.tf_bound.proofs.pushed.numbers.Goals as goal

pub loop-k-preserved : goal.loop-k-preserved
loop-k-preserved g c =
    jobs_more (number_by c.args.number c.args.task.now) c.loop-k.numbers.items c.push.new.self.items
    c.number_of.result c.loop-k.k c.at.result c.in_ok-push.ensures.items c.loop-k.invariant
    c.number_of.ensures c.at.ensures
