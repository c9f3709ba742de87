use Rattle.std.proofs.Common.{rules, refl}
use Rattle.tf_model.proofs.task_builder.TaskBuilder.new.Goals as goal

pub returns : goal.returns
returns g c = record {
  class_is = (search rules);
  machines_are = (search rules);
  complete = refl;
  rows = (search rules);
  summed = c.new.ensures.summed;
  costs = (search rules);
  sound = (search rules);
}
