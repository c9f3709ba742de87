use Rattle.std.proofs.Common.{◌≡◌, pos, ◌-ℤ◌, map, take}
use Rattle.tf_model.specs.Limit.{limit}
use Rattle.tf_bound.proofs.pushed.before_limit.Given as goal

abbrev pub invariant-loop-tail : goal.invariant-loop-tail
invariant-loop-tail g l =
    l.dates.items ≡ map (λ tail. pos limit -ℤ pos tail) (take l.tail-index l.tails)
