use Rattle.std.proofs.Common.{ℕ, ◌+◌, ap, sym, ◌∙◌, arith}
use Rattle.tf_words.specs.Lines.{word_lines_of}
use Rattle.tf_read.specs.JobTable.{is_arc, job_line}
use Rattle.tf_read.specs.NextJob.{HasNoJob, BeginsWithJob}
use Rattle.tf_read.proofs.Each.{each_next, each_faults, each_done}
use Rattle.tf_read.proofs.Firsts.{before_no, from_no}
use Rattle.tf_read.proofs.JobsJudged.{job_ok}
use Rattle.tf_read.proofs.job_table.jobs_of.Goals as goal

pub returns-in-Err-clause-jobs : goal.returns-in-Err-clause-jobs
returns-in-Err-clause-jobs g c =
    let line = c.in-Err.ensures in
    (each_faults job_line _ _ _ _ _ _ _ _ c.loop-fault.invariant.same
    (before_no is_arc _ _ _ line.is line.no_arc)
    (ap (λ (n : ℕ). n + 1) c.len.ensures) line.fails)

pub loop-fault-preserved : goal.loop-fault-preserved
loop-fault-preserved g c =
    let push = c.in_ok-push-in-Ok-Some.ensures in
    let next : BeginsWithJob (c.len.result + 1) (word_lines_of c.loop-fault.rest) c.in-Ok-Some.job
    (word_lines_of c.in-Ok-Some.after) = rw c.in-Ok-Some.field-0-is at c.in-Ok-Some.ensures in
    let few = (job_ok _ _ _ next.read).0 in
    record {
      few = omega (arith, push.len, few, c.len.ensures);
      same = each_next job_line _ _ _ _ _ _ _ _ _ _ push.items push.len
          (ap (λ (n : ℕ). n + 1) c.len.ensures) (before_no is_arc _ _ _ next.is next.no_arc)
          next.read c.loop-fault.invariant.same;
      left = sym (from_no is_arc _ _ _ next.is next.no_arc) ∙ c.loop-fault.invariant.left;
    }

pub returns-in-Ok-None-clause-jobs : goal.returns-in-Ok-None-clause-jobs
returns-in-Ok-None-clause-jobs g c =
    let over : HasNoJob (word_lines_of c.loop-fault.rest) =
    rw c.in-Ok-None.field-0-is at c.in-Ok-None.ensures in
    each_done job_line _ _ _ _ c.loop-fault.invariant.same over.none
