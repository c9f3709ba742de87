use Rattle.std.proofs.Common.{length, ◌≡◌}
use Rattle.tf_words.specs.Words.{lines}
use Rattle.tf_held.specs.AnswerTexts.{after_kept, first_kept}
use Rattle.tf_held.proofs.answers.next_order.Given as goal

-- no line so far is kept
abbrev pub invariant-loop-rest : goal.invariant-loop-rest
invariant-loop-rest l = record {
  first : first_kept (lines l.text) ≡ first_kept (lines l.rest);
  after : after_kept (lines l.text) ≡ after_kept (lines l.rest);
}

abbrev pub decreases-loop-rest : goal.decreases-loop-rest
decreases-loop-rest l = length l.rest
