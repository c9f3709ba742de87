use Rattle.std.proofs.Common.{◌≡◌, ◌+◌, ◌≤◌, length, vec_len}
use Rattle.tf_words.specs.Lines.{word_lines_of}
use Rattle.tf_model.specs.Limit.{most_arcs}
use Rattle.tf_read.specs.Faults.{each_from}
use Rattle.tf_read.specs.JobTable.{arc_line}
use Rattle.tf_read.proofs.Each.{with_front}
use Rattle.tf_read.proofs.arc.arcs_from.Given as goal

abbrev pub invariant-loop-fault : goal.invariant-loop-fault
invariant-loop-fault g l = record {
  few : vec_len l.arcs ≤ most_arcs;
  same : with_front l.arcs.items
      (each_from (arc_line l.jobs) (vec_len l.arcs + 1) (word_lines_of l.rest))
      ≡ each_from (arc_line l.jobs) 1 (word_lines_of l.lines);
}

abbrev pub decreases-loop-fault : goal.decreases-loop-fault
decreases-loop-fault g l = length (word_lines_of l.rest)
