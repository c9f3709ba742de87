use Rattle.std.proofs.Common.{length}
use Rattle.tf_words.specs.Words.{words}
use Rattle.tf_export.specs.Members.{fields}
use Rattle.tf_export.proofs.Adding.{Remains}
use Rattle.tf_export.proofs.json.Json.fields.Given as goal

abbrev pub invariant-loop-name : goal.invariant-loop-name
invariant-loop-name l = Remains l.fn.self (fields (words l.fn.names) l.fn.rest (words l.fn.row)) l.self (fields (words l.names_left) l.fn.rest (words l.left))

abbrev pub decreases-loop-name : goal.decreases-loop-name
decreases-loop-name l = length l.names_left
