use Rattle.std.proofs.Common.{◌≡◌, ◌+◌, ◌≤◌, length}
use Rattle.std.specs.List.{count_by}
use Rattle.tf_words.specs.Words.{words}
use Rattle.tf_orders.specs.Orders.{is_named}
use Rattle.tf_orders.proofs.flaw.count.Given as goal

abbrev pub invariant-loop-word : goal.invariant-loop-word
invariant-loop-word l = record {
  value : l.total + count_by (is_named l.jobs l.named) (words l.rest)
      ≡ count_by (is_named l.jobs l.named) (words l.text);
  small : l.total + length l.rest ≤ length l.text;
}

abbrev pub decreases-loop-word : goal.decreases-loop-word
decreases-loop-word l = length l.rest
