use Rattle.std.proofs.Common.{◌+◌, [], ◌∷◌, ◌++◌, length-append, refl, sym, ◌∙◌, arith}
use Rattle.tf_words.specs.Lines.{word_lines_of}
use Rattle.tf_model.proofs.TaskBuilder.{takes_none, takes_next}
use Rattle.tf_read.specs.JobTable.{is_arc, job_line}
use Rattle.tf_read.specs.NextJob.{HasNoJob, BeginsWithJob}
use Rattle.tf_read.proofs.Each.{each_next, each_done, with_nothing}
use Rattle.tf_read.proofs.Firsts.{before_no, from_no}
use Rattle.tf_read.proofs.JobsJudged.{job_ok}
use Rattle.tf_read.proofs.table_task.take_jobs.Goals as goal

pub loop-rest-init : goal.loop-rest-init
loop-rest-init g c = record {
  few = omega arith;
  taken = ([], takes_none _, refl, with_nothing _);
  left = refl;
}

pub loop-rest-preserved : goal.loop-rest-preserved
loop-rest-preserved g c =
    let (jobs, taken, len, same) = c.loop-rest.invariant.taken in
    let next : BeginsWithJob (c.loop-rest.count + 1) (word_lines_of c.loop-rest.rest)
    c.in-Ok-Some.job (word_lines_of c.in-Ok-Some.after) =
    rw c.in-Ok-Some.field-0-is at c.in-Ok-Some.ensures in
    let few = (job_ok _ _ _ next.read).0 in
    record {
      few = omega (arith, few);
      taken = (
        jobs ++ c.in-Ok-Some.job ∷ [],
        takes_next _ _ _ jobs _ taken c.in_ok-push-in-Ok-Some.ensures,
        omega (arith, len, length-append jobs (c.in-Ok-Some.job ∷ [])),
        each_next job_line _ _ _ c.loop-rest.count _ _ _ _ _ _ refl refl refl
            (before_no is_arc _ _ _ next.is next.no_arc) next.read same,
      );
      left = sym (from_no is_arc _ _ _ next.is next.no_arc) ∙ c.loop-rest.invariant.left;
    }

pub returns-in-Ok-None : goal.returns-in-Ok-None
returns-in-Ok-None g c =
    let (jobs, taken, len, same) = c.loop-rest.invariant.taken in
    let over : HasNoJob (word_lines_of c.loop-rest.rest) =
    rw c.in-Ok-None.field-0-is at c.in-Ok-None.ensures in (
      jobs,
      taken,
      len,
      each_done job_line _ _ _ _ same over.none,
      sym over.left ∙ c.loop-rest.invariant.left,
    )
