use Rattle.std.proofs.Common.{◌+◌, ◌-◌, List, ℕ, sym, subst, arith}
use Rattle.tf_schedule.specs.declared.job_order.Walk.TheVariants.{Endless}
use Rattle.tf_schedule.specs.Passing.{IsWalked}
use Rattle.tf_schedule.proofs.Passing.{IsWalking, rank_of_piece, walking_same, walking_raised, walking_endless}
use Rattle.tf_schedule.proofs.job_order.raise.Goals.{then-is_passed+in-Settled, then-is_passed+in-Raised, else-is_passed}
use Rattle.tf_schedule.proofs.job_order.raise.Goals as goal

pub returns-in-Endless : goal.returns-in-Endless
returns-in-Endless c =
    let ps = c.args.pieces.now in
    let k : ℕ = c.loop-k.k in
    let old = c.args.ranks.now in
    let now = c.loop-k.ranks in
    let p = c.index-pieces-k.result in
    let q = c.index-pieces-k-in-loop-k.result in
    subst (λ (rs : List ℕ). IsWalked ps old rs Endless) (sym c.in-Endless.ensures.0)
    (walking_endless ps k old now c.loop-k.walk c.loop-k.invariant (omega arith) (omega arith) p q
    c.index-pieces-k.is c.index-pieces-k-in-loop-k.is (c.is_passed.ensures.0 c.if-is_passed.true)
    (rank_of_piece ps old now c.loop-k.invariant.len c.requires.known (k - 1) p (omega arith)
    c.index-pieces-k.is)
    (rank_of_piece ps old now c.loop-k.invariant.len c.requires.known k q (omega arith)
    c.index-pieces-k-in-loop-k.is) c.in-Endless.ensures.1)

pub loop-k-preserved : goal.loop-k-preserved
loop-k-preserved c =
    let ps = c.args.pieces.now in
    let k : ℕ = c.loop-k.k in
    let old = c.args.ranks.now in
    let now = c.loop-k.ranks in
    let p = c.index-pieces-k.result in
    let q = c.index-pieces-k-in-loop-k.result in
    elim c.if-is_passed.branch [
      | then-is_passed+in-Settled w ↦ rw (w.ranks-is, w.walk-is) (
          subst (λ (rs : List ℕ). IsWalking ps (k + 1) old rs c.loop-k.walk)
          (sym w.in-Settled.ensures.0)
          (walking_same ps k old now c.loop-k.walk c.loop-k.invariant (omega arith) (omega arith) p q
          c.index-pieces-k.is c.index-pieces-k-in-loop-k.is (λ passed. w.in-Settled.ensures.1)))
      | then-is_passed+in-Raised w ↦ rw (w.ranks-is, w.walk-is) (
          walking_raised ps k old now c.loop-k.walk c.loop-k.invariant (omega arith) (omega arith) p q
          c.index-pieces-k.is c.index-pieces-k-in-loop-k.is
          (c.is_passed.ensures.0 w.if-is_passed.true)
          (rank_of_piece ps old now c.loop-k.invariant.len c.requires.known (k - 1) p (omega arith)
          c.index-pieces-k.is)
          (rank_of_piece ps old now c.loop-k.invariant.len c.requires.known k q (omega arith)
          c.index-pieces-k-in-loop-k.is) w.raise_above.new.ranks w.in-Raised.ensures)
      | else-is_passed w ↦ rw (w.ranks-is, w.walk-is) (
          walking_same ps k old now c.loop-k.walk c.loop-k.invariant (omega arith) (omega arith) p q
          c.index-pieces-k.is c.index-pieces-k-in-loop-k.is
          (λ passed. absurd (let test = c.is_passed.ensures.1 passed in
          let no = w.if-is_passed.false in cc)))
    ]
