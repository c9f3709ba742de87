use Rattle.std.proofs.Common.{false, inl, subst, ◌∙◌}
use Rattle.tf_text.specs.Counted.{use_of}
use Rattle.tf_command.specs.Ending.{SaysLine}
use Rattle.tf_command.specs.Performing.{EndsWriting}
use Rattle.tf_command.proofs.problems.list.Goals as goal

pub returns-in-Ok : goal.returns-in-Ok
returns-in-Ok g c = inl (subst
    (λ text. EndsWriting text
    (use_of g.W.Write.contents c.args.console.now.writer c.write_out.new.console.writer)
    (SaysLine g.E.Write.contents false c.args.console.now.errors c.write_out.new.console.errors)
    c.write_out.result) (c.as_bytes.ensures.value ∙ c.in-Ok.ensures) c.write_out.ensures)
