use Rattle.std.proofs.Common.{take}
use Rattle.tf_bound.proofs.Marks.{AreMarks}
use Rattle.tf_orders.proofs.Distinct.{task_like}
use Rattle.tf_orders.proofs.order.are_distinct.Given as goal

abbrev pub invariant-loop-job : goal.invariant-loop-job
invariant-loop-job g l = AreMarks (task_like l.count) l.seen.items (take l.job-index l.jobs)
