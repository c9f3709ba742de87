use Rattle.std.proofs.Common.{◌≡◌, ◌++◌}
use Rattle.std.specs.List.{flat_map, range_with_len}
use Rattle.tf_random.specs.Table.{job_line}
use Rattle.tf_random.proofs.table.push_jobs.Given as goal

abbrev pub invariant-loop-place : goal.invariant-loop-place
invariant-loop-place l = l.text.items ≡ l.initial.text.items
    ++ flat_map (job_line l.plan) (range_with_len 1 l.place)
