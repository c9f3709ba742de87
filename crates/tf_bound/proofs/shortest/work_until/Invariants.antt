use Rattle.std.proofs.Common.{◌≡◌, ◌+◌, ◌-◌, ◌≤◌, min, heap_items, heap_len}
use Rattle.std.specs.BinaryHeap.{IsHeap}
use Rattle.tf_problem.specs.Shortest.{completions, remaining}
use Rattle.tf_bound.specs.InOrder.{by_shortest, rising_times, most_total}
use Rattle.tf_bound.proofs.shortest.work_until.Given as goal

abbrev pub invariant-loop-time : goal.invariant-loop-time
invariant-loop-time g l = record {
  heap : IsHeap by_shortest (heap_items l.times);
  order : l.now ≤ l.until;
  rest : remaining (l.until - l.from) (rising_times (heap_items l.fn.times))
      ≡ remaining (l.until - l.now) (rising_times (heap_items l.times));
  total : min (l.total + completions l.from (l.until - l.from) (rising_times (heap_items l.fn.times))) most_total
      ≡ min (l.sum + completions l.now (l.until - l.now) (rising_times (heap_items l.times))) most_total;
  small : l.sum ≤ most_total;
}

abbrev pub decreases-loop-time : goal.decreases-loop-time
decreases-loop-time g l = heap_len l.times
