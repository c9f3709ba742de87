use Rattle.std.proofs.Common.{◌≡◌, length}
use Rattle.tf_words.specs.Words.{words}
use Rattle.tf_routes.specs.RoutedTable.{times_in}
use Rattle.tf_routes.proofs.routed_table.times_in.Given as goal

abbrev pub invariant-loop-word : goal.invariant-loop-word
invariant-loop-word l = times_in (words l.rest) ≡ times_in (words l.line)

abbrev pub decreases-loop-word : goal.decreases-loop-word
decreases-loop-word l = length l.rest
