use Rattle.tf_search.proofs.windows.Halves.count.Given as goal

abbrev pub decreases-loop-place : goal.decreases-loop-place
decreases-loop-place g l = l.place
