use Rattle.std.proofs.Common.{rules, w64, ◌≡◌, ℤ, true, false, sym, subst, ◌∙◌, arith}
use Rattle.std.proofs.lemmas.Int.{to_z-of_z}
use Rattle.std.proofs.lemmas.List.Sorted.{IsPartitionPoint-from_clause}
use Rattle.tf_schedule.specs.Piece.{as_time, covers}
use Rattle.tf_schedule.specs.Claims.{has_started}
use Rattle.tf_schedule.proofs.Lookup.{started_parts, cell_before_all, cell_going, cell_over}
use Rattle.tf_schedule.proofs.schedule.job_on.Goals as goal

pub returns-then-started-eq0 : goal.returns-then-started-eq0
returns-then-started-eq0 c =
    let parted =
    IsPartitionPoint-from_clause (has_started c.args.machine c.args.t) _ _
    c.partition_point-started.ensures.partitioned
    (started_parts c.args.pieces.now c.args.machine c.args.t c.requires.schedule.in_order)
    (λ a r q k. search rules) in
    sym (cell_before_all c.args.pieces.now c.requires.schedule c.args.machine c.args.t
    c.requires.time c.partition_point-started.result parted c.if-started-eq0.true)

pub returns-then-covers : goal.returns-then-covers
returns-then-covers c =
    let parted =
    IsPartitionPoint-from_clause (has_started c.args.machine c.args.t) _ _
    c.partition_point-started.ensures.partitioned
    (started_parts c.args.pieces.now c.args.machine c.args.t c.requires.schedule.in_order)
    (λ a r q k. search rules) in
    let test = subst
    (λ (z : ℤ). covers c.args.machine (as_time z) c.index-pieces-started.result ≡ true)
    (to_z-of_z w64 c.args.t c.ranges.t) (sym c.covers.ensures ∙ c.if-covers.true) in
    cell_going c.args.pieces.now c.requires.schedule c.args.machine c.args.t c.requires.time
    c.partition_point-started.result parted c.index-pieces-started.result
    (omega (arith, c.if-started-eq0.false)) c.partition_point-started.ensures.bound
    c.index-pieces-started.is test

pub returns-else-covers : goal.returns-else-covers
returns-else-covers c =
    let parted =
    IsPartitionPoint-from_clause (has_started c.args.machine c.args.t) _ _
    c.partition_point-started.ensures.partitioned
    (started_parts c.args.pieces.now c.args.machine c.args.t c.requires.schedule.in_order)
    (λ a r q k. search rules) in
    let test = subst
    (λ (z : ℤ). covers c.args.machine (as_time z) c.index-pieces-started.result ≡ false)
    (to_z-of_z w64 c.args.t c.ranges.t) (sym c.covers.ensures ∙ c.if-covers.false) in
    sym (cell_over c.args.pieces.now c.requires.schedule c.args.machine c.args.t c.requires.time
    c.partition_point-started.result parted c.index-pieces-started.result
    (omega (arith, c.if-started-eq0.false)) c.partition_point-started.ensures.bound
    c.index-pieces-started.is test)
