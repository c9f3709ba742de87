use Rattle.std.proofs.KnownBytes.{Keeps-refl}
use Rattle.tf_text.specs.Counted.{use_of}
use Rattle.tf_command.specs.Formatted.{held}
use Rattle.tf_held.proofs.Unread.{unread_again}
use Rattle.tf_held.proofs.series.text_for.Goals as goal

pub returns-clause-unread : goal.returns-clause-unread
returns-clause-unread g c =
    let writer = use_of g.W.Write.contents c.args.console.now.writer c.args.console.now.writer in
    let kept = use_of held c.memory-kept.result.writer c.text_named-2.new.console.writer in
    unread_again g.E.Write.contents (g.S.Sources.text_of c.args.sources.now) c.args.series.now writer
    c.args.console.now.errors c.say_kept.new.errors kept c.memory-kept.result
    c.text_named-2.new.console c.in-Err.status c.say_kept.result c.if-not-series.false
    c.memory-kept.ensures.silent c.in-Err.ensures.unread (Keeps-refl _) c.say_kept.ensures
