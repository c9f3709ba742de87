use Rattle.std.proofs.Common.{◌≡◌, pos, true, false, take, ap, subst, sym, ◌∙◌, arith}
use Rattle.std.specs.List.Sorted.{IsPermutation, IsNonDecreasing}
use Rattle.std.proofs.lemmas.List.Sorted.{IsNonDecreasingBy-from_sort}
use Rattle.tf_check.specs.Bound.{split_bound}
use Rattle.tf_check.specs.Claim.{BySplit}
use Rattle.tf_multi.specs.Johnson.{IsTurnSplit}
use Rattle.tf_multi.specs.TwoMachines.{time_at}
use Rattle.tf_multi.proofs.Certified.{turn_within, certified_first, certified_second}
use Rattle.tf_multi.proofs.Numbers.{cast_value}
use Rattle.tf_multi.proofs.Ranking.{may_in_order}
use Rattle.tf_multi.proofs.Turning.{order_job, split_before, split_up_to}
use Rattle.tf_multi.proofs.johnson.split_at.Goals as goal
use Rattle.tf_multi.proofs.johnson.split_at.Goals.{then-on_first-on_second, else-on_first-on_second}

pub time_on-on_first-requires : goal.time_on-on_first-requires
time_on-on_first-requires g c = order_job c.args.task.now c.args.order.now c.requires.order.all
    c.args.turn.late c.index-order-turn.result c.requires.turn.place c.index-order-turn.is

pub time_on-on_second-requires : goal.time_on-on_second-requires
time_on-on_second-requires g c = order_job c.args.task.now c.args.order.now c.requires.order.all
    c.args.turn.late c.index-order-turn.result c.requires.turn.place c.index-order-turn.is

pub returns-clause-bound : goal.returns-clause-bound
returns-clause-bound g c =
    let task = c.args.task.now in
    let order = c.args.order.now in
    let turn = c.args.turn in
    let x = c.index-order-turn.result in
    let side = c.sort_unstable.new.self.items in
    let in_order = may_in_order task order c.requires.order in
    let first : c.time_on-on_first.result ≡ time_at task x 1 = c.time_on-on_first.ensures
    ∙ ap (time_at task x) c.machine_of.ensures in
    let second : c.time_on-on_second.result ≡ time_at task x 2 = c.time_on-on_second.ensures
    ∙ ap (time_at task x) c.machine_of-2.ensures in
    let within = turn_within task c.requires.flow order c.requires.order.all in_order
    turn.second turn.late x c.requires.turn.place c.index-order-turn.is c.requires.end in
    let sorted : IsPermutation (take c.if-on_first-on_second.count.0 order) side =
    subst (λ xs. IsPermutation xs side)
    (c.in_ok-side.ensures.items_if_clones_equal (λ x y e. e)) c.sort_unstable.ensures.permutation in
    elim c.if-on_first-on_second.branch [
      | then-on_first-on_second w ↦ rw (
        c.new.ensures,
        w.count-is,
        cast_value c.time_on-on_first.result (omega (arith, within, first, c.requires.small)),
      )
          (ap (λ d. split_bound task side (pos d) true) first
          ∙ certified_first task c.requires.flow order c.requires.order.all in_order turn.second
          turn.late x c.requires.turn.place c.index-order-turn.is c.requires.end side
          (rw w.count-is at sorted)
          (omega (arith, w.if-on_first-on_second.true, first, second)))
      | else-on_first-on_second w ↦ rw (
        c.new.ensures,
        w.count-is,
        cast_value c.time_on-on_second.result (omega (arith, within, second, c.requires.small)),
      )
          (ap (λ d. split_bound task side (pos d) false) second
          ∙ certified_second task c.requires.flow order c.requires.order.all in_order turn.second
          turn.late x c.requires.turn.place c.index-order-turn.is c.requires.end side
          (rw w.count-is at sorted)
          (omega (arith, w.if-on_first-on_second.false, first, second)))
    ]

pub returns-clause-split : goal.returns-clause-split
returns-clause-split g c =
    let task = c.args.task.now in
    let order = c.args.order.now in
    let turn = c.args.turn in
    let x = c.index-order-turn.result in
    let side = c.sort_unstable.new.self.items in
    let in_order = may_in_order task order c.requires.order in
    let first : c.time_on-on_first.result ≡ time_at task x 1 = c.time_on-on_first.ensures
    ∙ ap (time_at task x) c.machine_of.ensures in
    let second : c.time_on-on_second.result ≡ time_at task x 2 = c.time_on-on_second.ensures
    ∙ ap (time_at task x) c.machine_of-2.ensures in
    let within = turn_within task c.requires.flow order c.requires.order.all in_order
    turn.second turn.late x c.requires.turn.place c.index-order-turn.is c.requires.end in
    let sorted : IsPermutation (take c.if-on_first-on_second.count.0 order) side =
    subst (λ xs. IsPermutation xs side)
    (c.in_ok-side.ensures.items_if_clones_equal (λ x y e. e)) c.sort_unstable.ensures.permutation in
    let rising : IsNonDecreasing side =
    IsNonDecreasingBy-from_sort (λ j. j) _ c.sort_unstable.ensures.sorted in
    elim c.if-on_first-on_second.branch [
      | then-on_first-on_second w ↦ rw (
        c.new.ensures,
        w.count-is,
        cast_value c.time_on-on_first.result (omega (arith, within, first, c.requires.small)),
      )
          (subst (λ d. IsTurnSplit (time_at task) order (BySplit side (pos d) true)) (sym first)
          (split_before (time_at task) order turn.late x c.requires.turn.place
          c.index-order-turn.is c.requires.turn side
          (rw w.count-is at sorted) rising
          (omega (arith, w.if-on_first-on_second.true, first, second))))
      | else-on_first-on_second w ↦ rw (
        c.new.ensures,
        w.count-is,
        cast_value c.time_on-on_second.result (omega (arith, within, second, c.requires.small)),
      )
          (subst (λ d. IsTurnSplit (time_at task) order (BySplit side (pos d) false)) (sym second)
          (split_up_to (time_at task) order turn.late x c.requires.turn.place
          c.index-order-turn.is c.requires.turn side
          (rw w.count-is at sorted) rising
          (omega (arith, w.if-on_first-on_second.false, first, second))))
    ]
