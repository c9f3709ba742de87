use Rattle.std.proofs.Common.{[], ◌++◌, ap, sym, subst, ◌∙◌}
use Rattle.tf_command.specs.Wrote.{Gathers}
use Rattle.tf_command.proofs.Writing.{both, waits, flushed, all_sent}
use Rattle.tf_command.proofs.gathered.Gathered.push_after.Goals as goal

pub returns-in-Ok : goal.returns-in-Ok
returns-in-Ok g c = λ start before held.
    let contents = g.W.Write.contents in
    let sent = flushed contents start _ c.write.new.writer _ before c.write.ensures.written held in
    waits contents start c.write.new.writer [] _ before c.args.text.now
    (c.in-Ok.ensures.ok ∙ ap (λ xs. xs ++ c.args.text.now) c.write.ensures.empty)
    (all_sent contents start c.write.new.writer before sent)

pub returns-in-Err : goal.returns-in-Err
returns-in-Err g c = λ start before held.
    let contents = g.W.Write.contents in
    let sent = flushed contents start _ c.write.new.writer _ before c.write.ensures.written held in
    let more = both contents start c.write.new.writer c.send.new.writer before c.args.text.now sent
    c.send.ensures in
    subst (λ items. Gathers contents start c.send.new.writer items (before ++ c.args.text.now))
    (sym (ap (λ v. v.items) c.in-Err.ensures.err ∙ c.write.ensures.empty))
    (all_sent contents start c.send.new.writer (before ++ c.args.text.now) more)
