use Rattle.std.proofs.Common.{◌≡◌, ℕ, ◌+◌, [], ap, arith}
use Rattle.tf_words.specs.Lines.{word_lines_of}
use Rattle.tf_read.specs.JobTable.{arc_line}
use Rattle.tf_read.specs.NextArc.{BeginsWithArc}
use Rattle.tf_read.proofs.Each.{fault_of, each_next, each_faults, each_done}
use Rattle.tf_read.proofs.JobsJudged.{arc_ok}
use Rattle.tf_read.proofs.arc.arcs_from.Goals as goal

pub returns-in-Err : goal.returns-in-Err
returns-in-Err g c =
    let line = c.in-Err.ensures in
    each_faults (arc_line c.args.jobs) _ _ _ _ _ _ _ _ c.loop-fault.invariant.same line.is
    (ap (λ (n : ℕ). n + 1) c.len.ensures) (fault_of _ _ line.read)

pub returns-in-Ok-None : goal.returns-in-Ok-None
returns-in-Ok-None g c =
    let over : word_lines_of c.loop-fault.rest ≡ [] =
    rw c.in-Ok-None.field-0-is at c.in-Ok-None.ensures in
    each_done (arc_line c.args.jobs) _ _ _ _ c.loop-fault.invariant.same over

pub loop-fault-preserved : goal.loop-fault-preserved
loop-fault-preserved g c =
    let push = c.in_ok-push-in-Ok-Some.ensures in
    let next : BeginsWithArc c.args.jobs (c.len.result + 1) (word_lines_of c.loop-fault.rest)
    c.in-Ok-Some.arc (word_lines_of c.in-Ok-Some.after) =
    rw c.in-Ok-Some.field-0-is at c.in-Ok-Some.ensures in
    let few = (arc_ok c.args.jobs _ _ _ next.read).0 in
    record {
      few = omega (arith, push.len, few, c.len.ensures);
      same = each_next (arc_line c.args.jobs) _ _ _ _ _ _ _ _ _ _ push.items push.len
          (ap (λ (n : ℕ). n + 1) c.len.ensures) next.is next.read c.loop-fault.invariant.same;
    }
