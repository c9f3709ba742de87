use Rattle.std.proofs.Common.{[], append-nil, codes, sym, subst}
use Rattle.std.specs.Fmt.{decimal}
use Rattle.tf_command.specs.Wrote.{Gathers, Wrote}
use Rattle.tf_command.proofs.Writing.{begun, flushed, line_of_words}
use Rattle.tf_command.proofs.report.say_cycle.Goals as goal

pub loop-job-init : goal.loop-job-init
loop-job-init g c =
    let contents = g.W.Write.contents in
    let start = c.args.writer.now in
    let empty = subst (λ items. Gathers contents start start items []) (sym c.new-line.ensures)
    (begun contents start) in
    subst (Gathers contents start c.push.new.writer c.push.new.self.bytes.items)
    (sym (append-nil (codes "threefield: refused: Cycle"))) (c.push.ensures start [] empty)

pub returns : goal.returns
returns g c =
    let contents = g.W.Write.contents in
    let start = c.args.writer.now in
    let all = c.push-2.ensures start _ c.loop-job.invariant in
    let written = flushed contents start _ c.write.new.writer _ _ c.write.ensures.written all in
    subst (Wrote contents start c.write.new.writer)
    (line_of_words _ decimal (codes "threefield: refused: ") (codes "Cycle") c.args.jobs.now
    c.loop-job.job-index c.loop-job-test.false) written
