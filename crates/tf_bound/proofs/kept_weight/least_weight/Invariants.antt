use Rattle.std.proofs.Common.{◌≡◌, ◌+◌, ◌-◌, length}
use Rattle.tf_posed.specs.ProblemData.{problem_time, problem_weight}
use Rattle.tf_problem.specs.Kept.{room_by_due}
use Rattle.tf_bound.proofs.LateTable.{IsTable}
use Rattle.tf_bound.proofs.kept_weight.least_weight.Given as goal

-- the table is that of the last jobs
abbrev pub invariant-loop-done : goal.invariant-loop-done
invariant-loop-done g l = record {
  len : length l.table.items ≡ l.time + 1;
  table : IsTable (problem_time l.task) (problem_weight l.task) (room_by_due l.task l.jobs) l.jobs
      (length l.jobs - l.done) l.left l.table.items;
}
