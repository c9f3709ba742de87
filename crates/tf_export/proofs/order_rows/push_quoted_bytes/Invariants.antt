use Rattle.std.proofs.Common.{◌≡◌, ◌++◌, take}
use Rattle.std.specs.List.{flat_map}
use Rattle.tf_export.specs.OrderRows.{quoted_byte}
use Rattle.tf_export.proofs.order_rows.push_quoted_bytes.Given as goal

-- the bytes so far are written
abbrev pub invariant-loop-byte : goal.invariant-loop-byte
invariant-loop-byte l =
    l.csv.items ≡ l.fn.csv.items ++ flat_map quoted_byte (take l.byte-index l.bytes)
