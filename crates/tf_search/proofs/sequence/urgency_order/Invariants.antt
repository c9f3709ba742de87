use Rattle.std.proofs.Common.{◌≡◌, length, All}
use Rattle.tf_posed.specs.ProblemData.{IsProblemJob}
use Rattle.tf_search.proofs.sequence.urgency_order.Given as goal

abbrev pub invariant-loop : goal.invariant-loop
invariant-loop g l = record {
  taken : length l.taken.items ≡ length l.task.jobs;
  jobs : All (IsProblemJob l.task) l.order.items;
}
