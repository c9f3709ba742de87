use Rattle.std.proofs.lemmas.List.Sorted.{IsPermutation-trans}
use Rattle.tf_schedule.specs.SemiActive.{laid}
use Rattle.tf_schedule.proofs.Parting.{parts_permute}
use Rattle.tf_multi.specs.OpenShop.{is_early, operations_led_by}
use Rattle.tf_multi.proofs.Leading.{led_apart, led_jobs}
use Rattle.tf_multi.proofs.OpenShop.{led_total}
use Rattle.tf_multi.proofs.open_two.pieces_led_by.Goals as goal

pub lay_part-requires-clause-known : goal.lay_part-requires-clause-known
lay_part-requires-clause-known g c =
    rw (c.deref.ensures.value, c.in_ok-followers.ensures)
    (led_jobs c.args.task.now c.args.leader c.requires.leader.job
    (is_early c.args.task.now c.args.leader))

pub lay_part-requires-clause-apart : goal.lay_part-requires-clause-apart
lay_part-requires-clause-apart g c =
    rw (c.deref.ensures.value, c.in_ok-followers.ensures)
    (led_apart c.args.task.now c.args.leader c.requires.leader.job
    (is_early c.args.task.now c.args.leader))

pub lay_part-requires-clause-within : goal.lay_part-requires-clause-within
lay_part-requires-clause-within g c =
    rw (c.deref.ensures.value, c.in_ok-followers.ensures)
    (led_total c.args.task.now c.len.ensures.sound c.requires.shop c.requires.any_order
    c.args.leader c.requires.leader)

pub lay_part-requires-2-clause-known : goal.lay_part-requires-2-clause-known
lay_part-requires-2-clause-known g c =
    rw (c.deref-2.ensures.value, c.in_ok-followers.ensures)
    (led_jobs c.args.task.now c.args.leader c.requires.leader.job
    (is_early c.args.task.now c.args.leader))

pub lay_part-requires-2-clause-apart : goal.lay_part-requires-2-clause-apart
lay_part-requires-2-clause-apart g c =
    rw (c.deref-2.ensures.value, c.in_ok-followers.ensures)
    (led_apart c.args.task.now c.args.leader c.requires.leader.job
    (is_early c.args.task.now c.args.leader))

pub lay_part-requires-2-clause-within : goal.lay_part-requires-2-clause-within
lay_part-requires-2-clause-within g c =
    rw (c.deref-2.ensures.value, c.in_ok-followers.ensures)
    (led_total c.args.task.now c.len.ensures.sound c.requires.shop c.requires.any_order
    c.args.leader c.requires.leader)

pub returns-clause-kept : goal.returns-clause-kept
returns-clause-kept g c =
    let ps = laid (operations_led_by c.args.task.now c.args.leader) in
    IsPermutation-trans ps c.lay_part-2.new.pieces.items c.sort_by_machine.new.pieces.items
    (parts_permute ps c.lay_part.new.pieces.items c.lay_part-2.new.pieces.items
    (rw (c.deref.ensures.value, c.in_ok-followers.ensures, c.in_ok-pieces.ensures.items)
    at c.in_ok-lay_part.ensures)
    (rw (c.deref-2.ensures.value, c.in_ok-followers.ensures) at c.in_ok-lay_part-2.ensures))
    c.sort_by_machine.ensures.kept
