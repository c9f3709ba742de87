use Rattle.tf_orders.specs.Listed.{IsFirstLeast}
use Rattle.tf_orders.proofs.laying.place_of_least.Given as goal

abbrev pub invariant-loop-k : goal.invariant-loop-k
invariant-loop-k l = IsFirstLeast l.numbers l.k l.place
