use Rattle.tf_orders.proofs.Scheduling.{flawed_alone}
use Rattle.tf_orders.proofs.schedules.flaw_of.Goals as goal

pub returns-in_ok-found-in-Optimum : goal.returns-in_ok-found-in-Optimum
returns-in_ok-found-in-Optimum g c =
    rw c.in-Optimum.is
    (flawed_alone c.in-Optimum.task c.args.text.now c.in_ok-found-in-Optimum.found _ _
    c.len.ensures.value c.orders.ensures.value c.in_ok-found-in-Optimum.ensures)
