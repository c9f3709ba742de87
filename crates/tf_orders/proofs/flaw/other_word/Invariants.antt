use Rattle.std.proofs.Common.{◌≡◌, ℕ, ◌+◌, ◌≤◌, ◌++◌, List, length}
use Rattle.tf_words.specs.Words.{words}
use Rattle.tf_orders.proofs.flaw.other_word.Given as goal

abbrev pub invariant-loop-word : goal.invariant-loop-word
invariant-loop-word l = record {
  front : (seen : List (List ℕ)) × (words l.text ≡ seen ++ words l.rest) × (length seen ≡ l.place);
  small : l.place + length l.rest ≤ length l.text;
}

abbrev pub decreases-loop-word : goal.decreases-loop-word
decreases-loop-word l = length l.rest
