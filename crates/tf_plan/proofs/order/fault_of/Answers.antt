use Rattle.tf_plan.proofs.Named.{named_cycle}
use Rattle.tf_plan.proofs.Forbidden.{no_cycle}
use Rattle.tf_plan.proofs.order.fault_of.Goals as goal

pub returns-in-Cycle : goal.returns-in-Cycle
returns-in-Cycle g c = λ k t sized same asked not_solved.
    let cycle = named_cycle k t c.in-Cycle.jobs same (rw c.in-Cycle.is at not_solved) in
    record {
      prec = asked;
      cycle = cycle;
      infeasible = λ rows fits. no_cycle k sized rows fits asked c.in-Cycle.jobs cycle;
    }
