use Rattle.tf_orders.proofs.Operating.{flaw_kept}
use Rattle.tf_orders.proofs.operations.operation_flaw.Goals as goal

pub returns : goal.returns
returns g c =
    flaw_kept c.args.task.now c.args.text.now c.len.result c.in_ok-found.found c.len.ensures.value
    c.in_ok-found.ensures
