use Rattle.std.proofs.Common.{◌≡◌, length, filter}
use Rattle.tf_words.specs.Lines.{word_lines_of}
use Rattle.tf_routes.specs.RoutedTable.{is_job}
use Rattle.tf_routes.proofs.routed_table.next_job_line.Given as goal

abbrev pub invariant-loop-line : goal.invariant-loop-line
invariant-loop-line l = filter is_job (word_lines_of l.rest) ≡ filter is_job (word_lines_of l.lines)

abbrev pub decreases-loop-line : goal.decreases-loop-line
decreases-loop-line l = length (word_lines_of l.rest)
