use Rattle.std.proofs.Common.{◌≡◌, ◌+◌, ◌≤◌, List, length}
use Rattle.std.specs.List.{before_first}
use Rattle.tf_words.specs.Lines.{word_lines_of}
use Rattle.tf_model.specs.JobFields.{JobFields}
use Rattle.tf_model.specs.Limit.{most_jobs}
use Rattle.tf_model.specs.TaskBuilder.{Takes}
use Rattle.tf_read.specs.Faults.{each_from}
use Rattle.tf_read.specs.JobTable.{is_arc, since_first, job_line}
use Rattle.tf_read.proofs.Each.{with_front}
use Rattle.tf_read.proofs.table_task.take_jobs.Given as goal

abbrev pub invariant-loop-rest : goal.invariant-loop-rest
invariant-loop-rest g l = record {
  few : l.count ≤ most_jobs;
  taken : (jobs : List JobFields) × Takes l.fn.builder jobs l.builder × (l.count ≡ length jobs)
      × (with_front jobs
      (each_from job_line (l.count + 1) (before_first is_arc (word_lines_of l.rest)))
      ≡ each_from job_line 1 (before_first is_arc (word_lines_of l.lines)));
  left : since_first is_arc (word_lines_of l.rest) ≡ since_first is_arc (word_lines_of l.lines);
}

abbrev pub decreases-loop-rest : goal.decreases-loop-rest
decreases-loop-rest g l = length (word_lines_of l.rest)
