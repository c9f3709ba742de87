use Rattle.tf_command.specs.Wrote.{Wrote}
use Rattle.tf_text.specs.Counted.{use_of}
use Rattle.tf_command.proofs.Kept.{printed}
use Rattle.tf_held.specs.Program.{EndsWork}
use Rattle.tf_held.proofs.program.perform_formatted.Goals as goal

pub returns : goal.returns
returns g c =
    printed (EndsWork (g.S.Sources.text_of c.args.sources.now) c.args.work) c.args.format
    c.memory-kept.result c.perform_work-status.new.console c.perform_work-status.result
    (use_of g.W.Write.contents c.args.console.now.writer c.print_kept.new.console.writer)
    (Wrote g.E.Write.contents c.args.console.now.errors c.print_kept.new.console.errors)
    c.print_kept.result c.memory-kept.ensures.blank c.memory-kept.ensures.silent
    c.perform_work-status.ensures c.print_kept.ensures
