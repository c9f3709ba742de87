use Rattle.tf_bound.proofs.LateTable.{IsChosen}
use Rattle.tf_bound.proofs.kept_weight.choose.Given as goal

-- the entries before are with the job, and the others as they were
abbrev pub invariant-loop-spent : goal.invariant-loop-spent
invariant-loop-spent l =
    IsChosen l.choice.time l.choice.weight l.choice.room l.spent l.initial.table l.table
