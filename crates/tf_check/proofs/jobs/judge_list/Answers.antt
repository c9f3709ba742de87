use Rattle.std.proofs.Common.{◌≡◌, ◌+◌, ◌-◌, Bool, true, false, set, take, get_or, ◌∙◌, sym, ap, subst, arith}
use Rattle.tf_model.specs.SchedulingTask.{IsJob}
use Rattle.tf_check.specs.Free.{AreMarks}
use Rattle.tf_check.proofs.JobLists.{judged_in_task, judged_more, marks_more}
use Rattle.tf_check.proofs.jobs.judge_list.Goals as goal

pub returns-clause-known : goal.returns-clause-known
returns-clause-known g c = judged_in_task c.args.task.now c.args.jobs.now c.loop-job.job-index
    c.loop-job-test.false c.loop-job.invariant.judged

pub loop-job-preserved : goal.loop-job-preserved
loop-job-preserved g c =
    let task = c.args.task.now in
    let jobs = c.args.jobs.now in
    let i = c.loop-job.job-index in
    let seen = c.loop-job.seen.items in
    let known : IsJob task c.job-item.result = (
      omega (arith, c.place-place.ensures.value, c.place-place.ensures.from_one),
      omega (
        arith,
        c.place-place.ensures.value,
        c.place-place.ensures.from_one,
        c.if-place-len.false,
        c.len-in-loop-job.ensures,
        c.loop-job.invariant.marks.len,
      ),
    ) in
    let unmarked : get_or seen c.place-place.result false ≡ false =
    sym (subst (λ v. v ≡ get_or seen c.place-place.result v) c.if-index.false c.index.ensures) in
    record {
      judged = judged_more task jobs i c.job-item.result c.loop-job-test.true c.job-item.is
          c.loop-job.invariant.judged known seen c.loop-job.invariant.marks
          (ap (λ n. get_or seen n false) (sym c.place-place.ensures.value) ∙ unmarked);
      marks = subst (λ n. AreMarks task (set seen n true) (take (i + 1) jobs))
          (sym c.place-place.ensures.value)
          (marks_more task jobs i c.job-item.result c.loop-job-test.true c.job-item.is known seen
          c.loop-job.invariant.marks);
    }
