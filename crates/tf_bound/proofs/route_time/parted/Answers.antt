use Rattle.std.proofs.Common.{◌+◌, ◌-◌, length, drop, sym, ◌∙◌, arith, length-drop}
use Rattle.std.proofs.lemmas.List.{take_all}
use Rattle.tf_bound.proofs.RouteTime.{walked, walked_past}
use Rattle.tf_bound.proofs.route_time.parted.Goals as goal

pub returns-then-route-place-clause-before : goal.returns-then-route-place-clause-before
returns-then-route-place-clause-before c =
    (walked c.args.machine c.args.route.now c.loop-place.place
    (omega (arith, c.loop-place-test.true)) c.loop-place.invariant
    (λ _. c.if-route-place.true)).0

pub returns-then-route-place-clause-behind : goal.returns-then-route-place-clause-behind
returns-then-route-place-clause-behind c =
    (walked c.args.machine c.args.route.now c.loop-place.place
    (omega (arith, c.loop-place-test.true)) c.loop-place.invariant
    (λ _. c.if-route-place.true)).1
    ∙ sym (take_all (length c.args.route.now - (c.loop-place.place + 1))
    (drop (c.loop-place.place + 1) c.args.route.now)
    (omega (arith, length-drop (c.loop-place.place + 1) c.args.route.now)))

pub returns : goal.returns
returns c =
    let parts = walked_past c.args.machine c.args.route.now
    (λ x lt. c.loop-place.invariant x (omega (arith, lt, c.loop-place-test.false))) in
    record { before = parts.0; behind = parts.1 }
