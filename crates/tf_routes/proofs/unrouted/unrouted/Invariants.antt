use Rattle.std.proofs.Common.{◌≡◌, ◌++◌, drop}
use Rattle.tf_routes.specs.Unrouted.{unrouted, unrouted_after}
use Rattle.tf_routes.proofs.unrouted.unrouted.Given as goal

abbrev pub invariant-loop-byte : goal.invariant-loop-byte
invariant-loop-byte g l =
    l.bytes.items ++ unrouted_after l.place (drop l.byte-index l.text) ≡ unrouted l.text
