use Rattle.std.proofs.Common.{map, length}
use Rattle.tf_words.specs.Words.{words}
use Rattle.tf_export.specs.Json.{scalar}
use Rattle.tf_export.proofs.Adding.{Remains}
use Rattle.tf_export.proofs.json.Json.scalars.Given as goal

abbrev pub invariant-loop-word : goal.invariant-loop-word
invariant-loop-word l = Remains l.fn.self (map scalar (words l.fn.row)) l.self (map scalar (words l.rest))

abbrev pub decreases-loop-word : goal.decreases-loop-word
decreases-loop-word l = length l.rest
