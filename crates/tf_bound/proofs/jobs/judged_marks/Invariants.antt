use Rattle.std.proofs.Common.{take}
use Rattle.tf_bound.proofs.Faults.{IsJudged}
use Rattle.tf_bound.proofs.Marks.{AreMarks}
use Rattle.tf_bound.proofs.jobs.judged_marks.Given as goal

abbrev pub invariant-loop-job : goal.invariant-loop-job
invariant-loop-job g l = record {
  judged : IsJudged l.task l.jobs l.job-index;
  marks : AreMarks l.task l.seen.items (take l.job-index l.jobs);
}
