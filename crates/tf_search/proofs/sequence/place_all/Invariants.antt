use Rattle.std.proofs.Common.{◌≡◌, length, All}
use Rattle.tf_posed.specs.ProblemData.{IsProblemJob}
use Rattle.tf_search.specs.declared.sequence.Placed.{Placed}
use Rattle.tf_search.proofs.sequence.place_all.Given as goal

abbrev pub invariant-loop-job : goal.invariant-loop-job
invariant-loop-job g l = record {
  machines : length l.free.items ≡ l.task.machines;
  jobs : All (λ (p : Placed). IsProblemJob l.task p.job) l.placed.items;
}
