use Rattle.std.proofs.Common.{◌≡◌, ◌++◌, filter}
use Rattle.std.specs.List.{range_with_len}
use Rattle.tf_multi.specs.OpenShop.{is_in_group}
use Rattle.tf_multi.proofs.open_two.push_group.Given as goal

-- the jobs so far
abbrev pub invariant-loop-k : goal.invariant-loop-k
invariant-loop-k g l = l.jobs.items ≡ l.initial.jobs.items
    ++ filter (is_in_group l.task l.leader l.early) (range_with_len 1 l.k)
