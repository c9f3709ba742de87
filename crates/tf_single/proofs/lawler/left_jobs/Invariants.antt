use Rattle.std.proofs.Common.{◌≡◌, not, filter, take}
use Rattle.std.specs.List.{range_with_len}
use Rattle.tf_check.specs.Free.{AreMarks}
use Rattle.tf_model.specs.Bounds.{stands_in}
use Rattle.tf_single.proofs.lawler.left_jobs.Given as goal

abbrev pub invariant-loop-job : goal.invariant-loop-job
invariant-loop-job g l = AreMarks l.task l.is_taken.items (take l.job-index l.taken)

abbrev pub invariant-loop-k : goal.invariant-loop-k
invariant-loop-k g l = l.left.items ≡ filter (λ j. not (stands_in l.taken j)) (range_with_len 1 l.k)
