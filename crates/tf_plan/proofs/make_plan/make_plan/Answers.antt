use Rattle.tf_plan.specs.Plan.{IsTooDear}
use Rattle.tf_plan.proofs.Cheaper.{none_left}
use Rattle.tf_plan.proofs.make_plan.make_plan.Goals as goal

pub returns-in-None-clause-plan : goal.returns-in-None-clause-plan
returns-in-None-clause-plan g c =
    none_left (IsTooDear c.args.task.now) _ c.in_ok-serial.serial c.in_ok-serial.ensures
    c.in-None.ensures.second
