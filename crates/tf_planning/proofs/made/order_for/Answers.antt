use Rattle.tf_planning.proofs.Running.{cyclic_stops}
use Rattle.tf_planning.proofs.made.order_for.Goals as goal

pub returns-in-Err : goal.returns-in-Err
returns-in-Err g c =
    cyclic_stops c.args.task.now _ (c.unordered.ensures c.args.task.now c.in-Err.ensures)
