use Rattle.std.proofs.Common.{[], ◌++◌, append-nil, sym, subst}
use Rattle.tf_command.specs.Wrote.{Gathers, Wrote}
use Rattle.tf_command.proofs.Writing.{begun, flushed, line_of_words}
use Rattle.tf_command.proofs.report.say_line.Goals as goal

pub loop-word-init : goal.loop-word-init
loop-word-init g c =
    let contents = g.W.Write.contents in
    let start = c.args.writer.now in
    let front = c.args.front.now in
    let empty = subst (λ items. Gathers contents start start items []) (sym c.new-line.ensures)
    (begun contents start) in
    subst (Gathers contents start c.push-2.new.writer c.push-2.new.self.bytes.items)
    (sym (append-nil (front ++ c.args.name.now)))
    (c.push-2.ensures start front (c.push.ensures start [] empty))

pub returns : goal.returns
returns g c =
    let contents = g.W.Write.contents in
    let start = c.args.writer.now in
    let all = c.push-3.ensures start _ c.loop-word.invariant in
    let written = flushed contents start _ c.write.new.writer _ _ c.write.ensures.written all in
    subst (Wrote contents start c.write.new.writer)
    (line_of_words _ (λ word. word.now) c.args.front.now c.args.name.now c.args.words.now
    c.loop-word.word-index c.loop-word-test.false) written
