use Rattle.std.proofs.Common.{refl, rules}
use Rattle.std.proofs.lemmas.Int.{to_z-of_z}
use mir.Syntax.{w64}
use Rattle.tf_single.proofs.BackwardTimetable.{backward_turned}
use Rattle.tf_single.proofs.DearestStep.{chosen_accepted, whole_known, whole_reversed, whole_schedule}
use Rattle.tf_single.proofs.lawler.answer_of.Goals as goal

pub in_sequence-requires-clause-known : goal.in_sequence-requires-clause-known
in_sequence-requires-clause-known g c =
    rw (c.deref-2.ensures.value, c.reversed-sequence.ensures)
    (whole_known c.args.task.now c.args.order.0.items c.requires.sound c.requires.class
    c.requires.chosen c.requires.all)

pub in_sequence-requires-clause-total : goal.in_sequence-requires-clause-total
in_sequence-requires-clause-total g c =
    rw (c.deref-2.ensures.value, c.reversed-sequence.ensures)
    (whole_reversed c.args.task.now c.args.order.0.items c.requires.sound c.requires.class
    c.requires.chosen c.requires.all)

pub returns-clause-schedule : goal.returns-clause-schedule
returns-clause-schedule g c =
    rw (
      c.new.ensures,
      c.in_ok-pieces.ensures,
      c.deref-2.ensures.value,
      c.reversed-sequence.ensures,
      backward_turned c.args.task.now c.args.order.0.items,
    )
    (whole_schedule _ _ c.requires.sound c.requires.class c.requires.chosen c.requires.all)

pub returns-clause-accepted : goal.returns-clause-accepted
returns-clause-accepted g c =
    rw (
      c.new.ensures,
      c.in_ok-pieces.ensures,
      c.deref-2.ensures.value,
      c.reversed-sequence.ensures,
      backward_turned c.args.task.now c.args.order.0.items,
      c.new-2.ensures,
      c.in_ok-left.ensures,
      to_z-of_z w64 c.args.order.1.value (search rules),
      c.deref.ensures.value,
    )
    (chosen_accepted _ _ c.args.order.1 c.requires.sound c.requires.class c.requires.chosen
    c.requires.all c.requires.dearest)

pub returns-clause-rule : goal.returns-clause-rule
returns-clause-rule g c = record {
  taken = c.args.order.0.items;
  chosen = c.requires.chosen;
  all = c.requires.all;
  are = rw (
    c.new.ensures,
    c.in_ok-pieces.ensures,
    c.deref-2.ensures.value,
    c.reversed-sequence.ensures,
  )
      refl;
  dearest = c.args.order.1;
  first = c.requires.dearest;
  certificate = rw (c.new-2.ensures, c.in_ok-left.ensures, c.deref.ensures.value) refl;
}
