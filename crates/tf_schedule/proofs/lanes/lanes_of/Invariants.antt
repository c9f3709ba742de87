use Rattle.std.proofs.Common.{◌≡◌, ◌<◌, ◌≤◌, length, take, IsTrue}
use Rattle.std.specs.List.{All}
use Rattle.tf_schedule.specs.Claims.{JobsOnce}
use Rattle.tf_schedule.specs.Lanes.{HasLanes}
use Rattle.tf_schedule.proofs.lanes.lanes_of.Given as goal

abbrev pub invariant-loop-piece : goal.invariant-loop-piece
invariant-loop-piece g l = record {
  lanes : HasLanes l.jobs (take l.piece-index l.pieces) l.lanes;
  machines : IsTrue l.keeps_machines → length l.lanes.machines ≡ l.jobs;
  once : All (λ p. (0 < p.job) × (p.job ≤ l.jobs)) l.pieces → IsTrue l.are_apart
      → JobsOnce (take l.piece-index l.pieces);
}
