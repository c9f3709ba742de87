use Rattle.std.proofs.Common.{◌≡◌, ◌+◌, ◌≤◌, min, drop, heap_items}
use Rattle.std.specs.BinaryHeap.{IsHeap}
use Rattle.tf_posed.specs.ProblemData.{problem_release, problem_time}
use Rattle.tf_problem.specs.Kept.{IsRisingBy}
use Rattle.tf_problem.specs.Shortest.{shortest_first, shortest_value}
use Rattle.tf_bound.specs.InOrder.{by_shortest, most_total, rising_times}
use Rattle.tf_bound.proofs.shortest.shortest_sum.Given as goal

-- the jobs that are to come follow those so far
abbrev pub invariant-loop-job : goal.invariant-loop-job
invariant-loop-job g l = record {
  heap : IsHeap by_shortest (heap_items l.times);
  order : IsRisingBy (problem_release l.task) l.now (drop l.job-index l.jobs);
  total : min (shortest_value l.task l.jobs) most_total
      ≡ min (l.total + shortest_first (problem_time l.task) (problem_release l.task) l.now
      (rising_times (heap_items l.times)) (drop l.job-index l.jobs)) most_total;
  small : l.total ≤ most_total;
}
