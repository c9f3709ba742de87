use Rattle.std.proofs.Common.{drop}
use Rattle.tf_schedule.specs.SemiActive.{laid}
use Rattle.tf_multi.specs.TwoMachines.{time_at, in_line}
use Rattle.tf_multi.proofs.FlowShop.{IsWaiting}
use Rattle.tf_multi.proofs.Turning.{IsTurned}
use Rattle.tf_multi.proofs.johnson.turning.lay_second.Given as goal

-- the turn is behind the jobs so far, and the others are left
abbrev pub invariant-loop-i : goal.invariant-loop-i
invariant-loop-i g l = record {
  turned : IsTurned (time_at l.task) l.order l.i l.first l.second l.late;
  waiting : IsWaiting (time_at l.task) (laid (in_line (time_at l.task) l.order)) l.pieces.items
      l.first l.second (drop l.i l.order);
}
