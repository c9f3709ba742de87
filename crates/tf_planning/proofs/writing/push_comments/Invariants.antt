use Rattle.std.proofs.Common.{◌≡◌, ◌++◌, length}
use Rattle.tf_words.specs.Words.{lines}
use Rattle.tf_planning.specs.PlanText.{comments}
use Rattle.tf_planning.proofs.writing.push_comments.Given as goal

abbrev pub invariant-loop-rest : goal.invariant-loop-rest
invariant-loop-rest g l =
    l.text.items ++ comments (lines l.rest) ≡ l.fn.text.items ++ comments (lines l.fn.said)

abbrev pub decreases-loop-rest : goal.decreases-loop-rest
decreases-loop-rest g l = length l.rest
