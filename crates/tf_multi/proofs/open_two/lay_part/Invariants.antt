use Rattle.tf_schedule.specs.SemiActive.{laid}
use Rattle.tf_multi.specs.TwoMachines.{time_at, first_machine, second_machine}
use Rattle.tf_multi.specs.OpenShop.{is_early}
use Rattle.tf_multi.proofs.LedParts.{IsParted, until}
use Rattle.tf_multi.proofs.open_two.lay_part.Given as goal

-- of the pieces of the jobs so far
abbrev pub invariant-loop-job : goal.invariant-loop-job
invariant-loop-job g l =
    let early = is_early l.task l.leader in
    IsParted l.on_first (first_machine early) (second_machine early) l.fn.pieces.items
    l.pieces.items
    (laid (until (time_at l.task) (first_machine early) (second_machine early) l.leader l.followers
    l.job-index))
    l.first_free l.second_free
