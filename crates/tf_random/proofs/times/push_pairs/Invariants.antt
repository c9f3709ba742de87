use Rattle.std.proofs.Common.{◌≡◌, ◌++◌}
use Rattle.std.specs.List.{flat_map, range_with_len}
use Rattle.tf_random.specs.Table.{pair}
use Rattle.tf_random.proofs.times.push_pairs.Given as goal

abbrev pub invariant-loop-place : goal.invariant-loop-place
invariant-loop-place l = l.text.items ≡ l.initial.text.items
    ++ flat_map (pair l.plan l.k) (range_with_len 1 l.place)
