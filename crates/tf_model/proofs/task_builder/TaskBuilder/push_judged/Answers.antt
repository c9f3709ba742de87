use Rattle.std.proofs.Common.{◌∙◌, sym}
use Rattle.tf_model.proofs.TaskBuilder.{judged_more}
use Rattle.tf_model.proofs.task_builder.TaskBuilder.push_judged.Goals as goal

pub returns : goal.returns
returns g c =
    judged_more c.args.self.now c.push.new.self c.args.job c.push.result c.push.ensures
    (sym c.has_negative.ensures ∙ c.if-has_negative.false)
    (sym c.has_beyond.ensures ∙ c.if-has_beyond.false)
