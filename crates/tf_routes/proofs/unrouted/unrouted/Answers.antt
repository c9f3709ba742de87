use Rattle.std.proofs.Common.{sym, arith}
use Rattle.tf_routes.proofs.Bytes.{all_passed, kept, passed}
use Rattle.tf_routes.proofs.unrouted.unrouted.Goals as goal
use Rattle.tf_routes.proofs.unrouted.unrouted.Goals.{then-not-is_of_route+in_ok-push, else-not-is_of_route}

pub loop-byte-preserved : goal.loop-byte-preserved
loop-byte-preserved g c =
    elim c.if-not-is_of_route.branch [
      | then-not-is_of_route+in_ok-push w ↦
          rw w.bytes-is
          (kept c.loop-byte.bytes.items _ c.args.text.now _ c.loop-byte.byte-index c.loop-byte.place
          c.after-place.result (omega arith) c.after-place.ensures
          (sym w.if-not-is_of_route.ensures) w.in_ok-push.ensures.items c.loop-byte.invariant)
      | else-not-is_of_route w ↦
          rw w.bytes-is
          (passed c.loop-byte.bytes.items c.args.text.now _ c.loop-byte.byte-index c.loop-byte.place
          c.after-place.result (omega arith) c.after-place.ensures
          (sym w.if-not-is_of_route.ensures) c.loop-byte.invariant)
    ]

pub returns : goal.returns
returns g c =
    all_passed c.loop-byte.bytes.items c.args.text.now _ c.loop-byte.byte-index c.loop-byte.place
    (omega arith) c.loop-byte.invariant
