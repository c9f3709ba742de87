use Rattle.tf_orders.proofs.Scheduling.{laid_alone}
use Rattle.tf_orders.proofs.schedules.scheduled.Goals as goal

pub returns-in-Optimum : goal.returns-in-Optimum
returns-in-Optimum g c =
    rw c.in-Optimum.is (laid_alone c.in-Optimum.task c.args.text.now c.laid.result c.laid.ensures)
