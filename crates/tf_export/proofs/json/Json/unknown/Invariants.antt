use Rattle.std.proofs.Common.{length}
use Rattle.tf_words.specs.Words.{words, lines}
use Rattle.tf_export.specs.Documents.{unknown}
use Rattle.tf_export.proofs.Adding.{Remains}
use Rattle.tf_export.proofs.json.Json.unknown.Given as goal

abbrev pub invariant-loop-name : goal.invariant-loop-name
invariant-loop-name l =
    Remains l.fn.self (unknown (words l.fn.names) (lines l.fn.text)) l.self
    (unknown (words l.left) (lines l.fn.text))

abbrev pub decreases-loop-name : goal.decreases-loop-name
decreases-loop-name l = length l.left
