use Rattle.std.proofs.Common.{◌≡◌, map}
use Rattle.std.specs.Int.{int_max}
use Rattle.std.specs.List.{fold, range_with_len}
use Rattle.tf_schedule.specs.Lanes.{stop_in}
use Rattle.tf_fit.specs.CostBy.{price_at}
use Rattle.tf_fit.proofs.cost.greatest.Given as goal

abbrev pub invariant-loop-k : goal.invariant-loop-k
invariant-loop-k g l = l.value
    ≡ fold int_max (price_at l.goal l.task 1 (stop_in l.jobs 1))
    (map (λ j. price_at l.goal l.task j (stop_in l.jobs j)) (range_with_len 1 l.k))
