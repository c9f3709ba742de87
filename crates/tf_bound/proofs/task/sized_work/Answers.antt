use Rattle.std.proofs.Common.{refl}
use Rattle.tf_bound.proofs.task.sized_work.Goals as goal

pub returns-then-is_unrouted-clause-unfit : goal.returns-then-is_unrouted-clause-unfit
returns-then-is_unrouted-clause-unfit g c = c.if-is_unrouted.ensures.unfit refl c.args.machines
