use Rattle.std.proofs.Common.{◌≡◌, ◌++◌, string_bytes, replicate}
use Rattle.tf_listing.proofs.listing.push_column.Given as goal

abbrev pub invariant-loop : goal.invariant-loop
invariant-loop g l =
    string_bytes l.text ≡ string_bytes l.fn.text ++ l.word ++ replicate l.counter 32
