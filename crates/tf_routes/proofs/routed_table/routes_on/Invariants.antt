use Rattle.std.proofs.Common.{◌≡◌, ◌+◌, length, filter, vec_len}
use Rattle.tf_words.specs.Lines.{word_lines_of}
use Rattle.tf_read.specs.Faults.{each_from}
use Rattle.tf_read.proofs.Each.{with_front}
use Rattle.tf_routes.specs.RoutedTable.{is_job, job_route, routes_on}
use Rattle.tf_routes.proofs.routed_table.routes_on.Given as goal

abbrev pub invariant-loop-line : goal.invariant-loop-line
invariant-loop-line g l =
    with_front l.routes.items
    (each_from (λ k. job_route) (vec_len l.routes + 1) (filter is_job (word_lines_of l.rest)))
    ≡ routes_on (word_lines_of l.lines)

abbrev pub decreases-loop-line : goal.decreases-loop-line
decreases-loop-line g l = length (filter is_job (word_lines_of l.rest))
