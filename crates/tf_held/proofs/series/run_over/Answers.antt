use Rattle.std.proofs.Common.{sym, ◌∙◌}
use Rattle.tf_held.specs.Texts.{beside_of}
use Rattle.tf_held.proofs.Told.{ran}
use Rattle.tf_held.proofs.series.run_over.Goals as goal

pub returns : goal.returns
returns c =
    let done = c.work_over-status.ensures in
    ran c.args.series.now _ c.args.held.instance.now _ (beside_of c.args.held.beside) c.args.number
    c.work_over-status.result done.0 c.memory-kept.result c.work_over-status.new.kept c.requires.name
    c.requires.bound
    done.1 c.memory-kept.ensures.blank c.memory-kept.ensures.silent done.2
    (sym c.failed.ensures ∙ c.if-failed.false) (sym c.failed-else-failed.ensures ∙ c.if-failed-2.false)
