use Rattle.std.proofs.Common.{◌≡◌, take}
use Rattle.tf_prepare.specs.Preparing.{greatest_named}
use Rattle.tf_prepare.proofs.routed.greatest_named.Given as goal

-- the greatest of the routes so far
abbrev pub invariant-loop-route : goal.invariant-loop-route
invariant-loop-route g l = l.greatest ≡ greatest_named (take l.route-index l.routes)
