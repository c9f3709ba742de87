use Rattle.std.proofs.Common.{◌≡◌, ◌+◌, ◌≤◌, length, vec_len}
use Rattle.std.specs.List.{before_first}
use Rattle.tf_words.specs.Lines.{word_lines_of}
use Rattle.tf_model.specs.Limit.{most_jobs}
use Rattle.tf_read.specs.Faults.{each_from}
use Rattle.tf_read.specs.JobTable.{is_arc, since_first, job_line}
use Rattle.tf_read.proofs.Each.{with_front}
use Rattle.tf_read.proofs.job_table.jobs_of.Given as goal

abbrev pub invariant-loop-fault : goal.invariant-loop-fault
invariant-loop-fault g l = record {
  few : vec_len l.jobs ≤ most_jobs;
  same : with_front l.jobs.items
      (each_from job_line (vec_len l.jobs + 1) (before_first is_arc (word_lines_of l.rest)))
      ≡ each_from job_line 1 (before_first is_arc (word_lines_of l.lines));
  left : since_first is_arc (word_lines_of l.rest) ≡ since_first is_arc (word_lines_of l.lines);
}

abbrev pub decreases-loop-fault : goal.decreases-loop-fault
decreases-loop-fault g l = length (word_lines_of l.rest)
