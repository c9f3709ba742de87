use Rattle.std.proofs.Common.{rules}
use Rattle.std.proofs.lemmas.List.Sorted.{All-permutation}
use Rattle.tf_schedule.specs.Schedule.{IsPiece}
use Rattle.tf_schedule.proofs.Faults.{clash_fault, no_clash, no_fault}
use Rattle.tf_schedule.proofs.Order.{schedule_from_sort}
use Rattle.tf_schedule.proofs.schedule.Schedule.new.Goals as goal

pub first_overlap-requires-clause-sound : goal.first_overlap-requires-clause-sound
first_overlap-requires-clause-sound g c =
    rw c.deref-2.ensures.value
    (All-permutation IsPiece _ _ c.sort_by_machine.ensures.kept
    (rw c.deref.ensures.value at c.in_ok-judge_each.ensures))

pub first_overlap-requires-clause-in_order : goal.first_overlap-requires-clause-in_order
first_overlap-requires-clause-in_order g c =
    rw c.deref-2.ensures.value c.sort_by_machine.ensures.in_order

pub invariant_of-result : goal.invariant_of-result
invariant_of-result g c =
    schedule_from_sort _ _ c.sort_by_machine.ensures.kept
    (rw c.deref.ensures.value at c.in_ok-judge_each.ensures)
    (rw c.deref-2.ensures.value at c.in-None.ensures) c.sort_by_machine.ensures.in_order

pub returns-in-Some-clause-fault : goal.returns-in-Some-clause-fault
returns-in-Some-clause-fault g c =
    clash_fault _ _ _ _ c.sort_by_machine.ensures.kept
    (rw c.deref.ensures.value at c.in_ok-judge_each.ensures)
    (rw c.deref-2.ensures.value at c.in-Some.ensures) (search rules)

pub returns-in-None-clause-schedule : goal.returns-in-None-clause-schedule
returns-in-None-clause-schedule g c =
    schedule_from_sort _ _ c.sort_by_machine.ensures.kept
    (rw c.deref.ensures.value at c.in_ok-judge_each.ensures)
    (rw c.deref-2.ensures.value at c.in-None.ensures) c.sort_by_machine.ensures.in_order

pub returns-in_err-judge_each-clause-accepted : goal.returns-in_err-judge_each-clause-accepted
returns-in_err-judge_each-clause-accepted g c sound once =
    absurd (no_fault c.args.pieces.items sound once c.in_err-judge_each.field-0.0
    (rw c.deref.ensures.value at c.in_err-judge_each.ensures))

pub returns-in-Some-clause-accepted : goal.returns-in-Some-clause-accepted
returns-in-Some-clause-accepted g c sound once =
    let clash = rw c.deref-2.ensures.value at c.in-Some.ensures in
    absurd (no_clash _ _ _ _ c.sort_by_machine.ensures.kept once clash.1)
