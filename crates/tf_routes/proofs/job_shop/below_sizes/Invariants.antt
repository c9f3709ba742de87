use Rattle.std.proofs.Common.{◌≡◌, length}
use Rattle.tf_routes.specs.JobShop.{from_sizes}
use Rattle.tf_routes.specs.TextLeft.{lines_of}
use Rattle.tf_routes.proofs.job_shop.below_sizes.Given as goal

abbrev pub invariant-loop-line : goal.invariant-loop-line
invariant-loop-line l =
    from_sizes l.rest.number (lines_of l.rest) ≡ from_sizes l.all.number (lines_of l.all)

abbrev pub decreases-loop-line : goal.decreases-loop-line
decreases-loop-line l = length l.rest.text.now
