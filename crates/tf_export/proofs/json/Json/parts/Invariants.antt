use Rattle.std.proofs.Common.{length}
use Rattle.tf_words.specs.Words.{lines}
use Rattle.tf_export.specs.Documents.{parts}
use Rattle.tf_export.proofs.Adding.{Remains}
use Rattle.tf_export.proofs.json.Json.parts.Given as goal

abbrev pub invariant-loop-rest : goal.invariant-loop-rest
invariant-loop-rest l =
    Remains l.fn.self (parts l.fn.part (lines l.fn.text)) l.self (parts l.fn.part (lines l.rest))

abbrev pub decreases-loop-rest : goal.decreases-loop-rest
decreases-loop-rest l = length l.rest
