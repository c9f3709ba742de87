use Rattle.std.proofs.Common.{◌≡◌, filter, take}
use Rattle.tf_model.specs.Cost.{price}
use Rattle.tf_check.specs.Bound.{is_free}
use Rattle.tf_check.specs.Free.{cheapest}
use Rattle.tf_check.proofs.last_of.cheapest_free.Given as goal

abbrev pub invariant-loop-job : goal.invariant-loop-job
invariant-loop-job g l =
    l.least ≡ cheapest (λ j. price l.task j l.end)
    (filter (is_free l.task l.jobs) (take l.job-index l.jobs))
