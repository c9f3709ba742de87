use Rattle.std.proofs.Common.{◌≡◌, length}
use Rattle.tf_words.specs.Words.{lines}
use Rattle.tf_routes.specs.JobShop.{from_heading}
use Rattle.tf_routes.specs.TextLeft.{lines_of}
use Rattle.tf_routes.proofs.job_shop.below_heading.Given as goal

abbrev pub invariant-loop-line : goal.invariant-loop-line
invariant-loop-line l =
    from_heading l.name l.rest.number (lines_of l.rest) ≡ from_heading l.name 1 (lines l.text)

abbrev pub decreases-loop-line : goal.decreases-loop-line
decreases-loop-line l = length l.rest.text.now
