use Rattle.std.proofs.Common.{length, drop, ◌-◌, ◌≡◌, ◌≤◌}
use Rattle.tf_words.specs.Words.{lines}
use Rattle.tf_held.specs.AnswerTexts.{after_end}
use Rattle.tf_held.proofs.answers.next_answer.Given as goal

-- no line so far is the last of the answer
abbrev pub invariant-loop-len : goal.invariant-loop-len
invariant-loop-len l = record {
  within : l.len ≤ length l.text;
  after : after_end (lines l.text) ≡ after_end (lines (drop l.len l.text));
}

abbrev pub decreases-loop-len : goal.decreases-loop-len
decreases-loop-len l = length l.text - l.len
