use Rattle.tf_model.proofs.TaskBuilder.{judged_instance}
use Rattle.tf_model.proofs.task_builder.TaskBuilder.finish_judged.Goals as goal

pub finish-requires : goal.finish-requires
finish-requires g c =
    judged_instance c.args.self _ c.requires c.new-arcs.ensures.items c.if-self-eq0.false
    c.args.self.totals.few
