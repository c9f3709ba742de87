use Rattle.std.proofs.Common.{drop}
use Rattle.tf_schedule.specs.SemiActive.{laid}
use Rattle.tf_multi.specs.TwoMachines.{time_at, on_machine}
use Rattle.tf_multi.proofs.OneByOne.{IsLeft}
use Rattle.tf_multi.proofs.johnson.first_pieces.Given as goal

-- the jobs from the index on are left
abbrev pub invariant-loop-job : goal.invariant-loop-job
invariant-loop-job g l = IsLeft (λ j. time_at l.task j 1) 1
    (laid (on_machine (time_at l.task) 1 l.order)) l.pieces.items l.now (drop l.job-index l.order)
