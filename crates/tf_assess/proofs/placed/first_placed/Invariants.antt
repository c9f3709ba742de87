use Rattle.tf_assess.proofs.placed.first_placed.Given as goal

abbrev pub invariant-loop-goal : goal.invariant-loop-goal
invariant-loop-goal g l = Unit {0}
