use Rattle.std.proofs.Common.{sym, arith}
use Rattle.std.proofs.lemmas.Int.{ints}
use Rattle.tf_multi.proofs.Filling.{filled_fits, filled_next, filled_wraps}
use Rattle.tf_multi.proofs.Wrapping.{wraps_next, wraps_fits, wraps_over}
use Rattle.tf_multi.proofs.mcnaughton.place.Goals as goal

-- the machine is full
pub returns-then-room-eq0-clause-filled : goal.returns-then-room-eq0-clause-filled
returns-then-room-eq0-clause-filled g c =
    rw (c.in_ok-push.ensures.items, c.of.ensures, c.next-machine.ensures)
    (filled_next c.args.value _ c.args.job c.time-time.result c.requires.job.0
    (sym c.time-time.ensures.value) (omega (arith, c.time-time.ensures.value))
    (omega (arith, c.time-time.ensures.value)) (omega (arith, ints)) _ _ _ c.requires.filled
    (omega arith))

-- the job fits
pub returns-then-time-room-clause-filled : goal.returns-then-time-room-clause-filled
returns-then-time-room-clause-filled g c =
    rw (c.in_ok-push-2.ensures.items, c.of-then-time-room.ensures)
    (filled_fits c.args.value _ c.args.job c.time-time.result c.requires.job.0
    (sym c.time-time.ensures.value) (omega (arith, c.time-time.ensures.value))
    (omega (arith, c.time-time.ensures.value)) (omega (arith, ints)) _ _ _ c.requires.filled
    (omega arith))

-- the job goes on on the next machine
pub returns-clause-filled : goal.returns-clause-filled
returns-clause-filled g c =
    rw (
      c.in_ok-push-4.ensures.items,
      c.in_ok-push-3.ensures.items,
      c.of-2.ensures,
      c.of-3.ensures,
      c.next-machine-2.ensures,
    )
    (filled_wraps c.args.value _ c.args.job c.time-time.result c.requires.job.0
    (sym c.time-time.ensures.value) (omega (arith, c.time-time.ensures.value))
    (omega (arith, c.time-time.ensures.value)) (omega (arith, ints)) _ _ _ c.requires.filled
    (omega arith) (omega arith))

pub returns-then-room-eq0-clause-wrapped : goal.returns-then-room-eq0-clause-wrapped
returns-then-room-eq0-clause-wrapped g c = λ js.
    rw (c.in_ok-push.ensures.items, c.of.ensures, c.next-machine.ensures)
    (wraps_next c.args.value _ c.args.front.machine c.args.front.at c.args.job
    c.time-time.result js _ c.time-time.ensures.value (omega arith))

pub returns-then-time-room-clause-wrapped : goal.returns-then-time-room-clause-wrapped
returns-then-time-room-clause-wrapped g c = λ js.
    rw (c.in_ok-push-2.ensures.items, c.of-then-time-room.ensures)
    (wraps_fits c.args.value _ c.args.front.machine c.args.front.at c.args.job
    c.time-time.result js _ c.time-time.ensures.value (omega arith) (omega arith))

pub returns-clause-wrapped : goal.returns-clause-wrapped
returns-clause-wrapped g c = λ js.
    rw (
      c.in_ok-push-4.ensures.items,
      c.in_ok-push-3.ensures.items,
      c.of-2.ensures,
      c.of-3.ensures,
      c.next-machine-2.ensures,
    )
    (wraps_over c.args.value _ c.args.front.machine c.args.front.at c.args.job
    c.time-time.result js _ c.time-time.ensures.value (omega arith) (omega arith))
