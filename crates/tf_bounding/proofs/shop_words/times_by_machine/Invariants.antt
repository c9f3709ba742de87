use Rattle.std.proofs.Common.{◌≡◌, map}
use Rattle.std.specs.List.{range_with_len}
use Rattle.tf_bounding.specs.ShopTimes.{times_on}
use Rattle.tf_bounding.proofs.shop_words.times_by_machine.Given as goal

-- the times on the machines so far
abbrev pub invariant-loop-i : goal.invariant-loop-i
invariant-loop-i g l =
    l.all.items ≡ map (times_on l.name l.machines l.text) (range_with_len 0 l.i)
