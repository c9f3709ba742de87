use Rattle.std.proofs.Common.{◌≡◌, ◌≤◌, length}
use Rattle.std.specs.List.{All}
use Rattle.tf_words.specs.Words.{words}
use Rattle.tf_orders.specs.Orders.{IsTurn, turns_from}
use Rattle.tf_orders.proofs.Turns.{prefixed}
use Rattle.tf_orders.proofs.order.turns_in.Given as goal

abbrev pub invariant-loop-word : goal.invariant-loop-word
invariant-loop-word g l = record {
  says : prefixed l.turns.items (turns_from l.jobs l.machines l.machine (words l.rest))
      ≡ turns_from l.jobs l.machines 1 (words l.text);
  turns : All (IsTurn l.jobs l.machines) l.turns.items;
  within : (1 ≤ l.machine) × (l.machine ≤ l.machines);
}

abbrev pub decreases-loop-word : goal.decreases-loop-word
decreases-loop-word g l = length l.rest
