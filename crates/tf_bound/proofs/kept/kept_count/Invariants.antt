use Rattle.std.proofs.Common.{◌≡◌, ◌*◌, ◌≤◌, [], take, sum, heap_items, nat_cmp}
use Rattle.std.specs.BinaryHeap.{IsHeap}
use Rattle.tf_model.specs.Limit.{limit}
use Rattle.tf_posed.specs.ProblemData.{problem_time}
use Rattle.tf_problem.specs.Kept.{kept_by, room_by_due}
use Rattle.tf_bound.specs.InOrder.{in_order}
use Rattle.tf_bound.proofs.kept.kept_count.Given as goal

-- what is kept of the jobs so far
abbrev pub invariant-loop-job : goal.invariant-loop-job
invariant-loop-job g l = record {
  heap : IsHeap nat_cmp (heap_items l.kept);
  total : l.total ≡ sum (heap_items l.kept);
  kept : in_order (heap_items l.kept)
      ≡ kept_by (problem_time l.task) (room_by_due l.task l.jobs) [] (take l.job-index l.jobs);
  small : l.total ≤ l.job-index * limit;
}
