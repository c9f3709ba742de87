use Rattle.std.proofs.Common.{◌≡◌, ℕ, ◌-◌, ◌<◌, None, Some, get_or, slice_index, length, count_by}
use Rattle.tf_model.specs.SchedulingTask.{IsJob}
use Rattle.tf_single.specs.Successors.{HasSuccessor, IsListed}
use Rattle.tf_single.proofs.Walk.{Steps, IsWalk, ArePlaced, is_unmet}
use Rattle.tf_single.proofs.cycle.walk.Given as goal

abbrev pub invariant-walk : goal.invariant-walk
invariant-walk g l = record {
  len : length l.places.items ≡ length l.task.jobs;
  job : IsJob l.task l.job;
  next : HasSuccessor l.next l.job;
  steps : Steps l.task l.path.items l.job;
  met : (j n : ℕ) → IsJob l.task j → get_or l.places.items (j - 1) None ≡ Some n
      → (n < length l.path.items) × (slice_index l.path.items n ≡ j);
  walk : IsWalk l.fn.first (IsListed l.task l.next) l.path.items l.job;
  placed : ArePlaced l.task l.places.items l.path.items;
}

abbrev pub decreases-walk : goal.decreases-walk
decreases-walk g l = count_by is_unmet l.places.items
