use mir.Val.{SFits, to_z, of_z}
use mir.Syntax.{w128}
use Rattle.std.proofs.Common.{rules, ◌≡◌, ◌⊎◌, ℕ, ◌+◌, List, get_or, take, ℤ, ◌≤ℤ◌, sym, subst, ◌∙◌, arith, inl, inr}
use Rattle.std.specs.List.{All}
use Rattle.std.proofs.lemmas.Int.{to_z-of_z}
use Rattle.std.proofs.lemmas.List.{take_all}
use Rattle.std.proofs.lemmas.List.Elements.{All-more}
use Rattle.tf_model.specs.SchedulingTask.{SchedulingTask}
use Rattle.tf_model.specs.Cost.{price, greatest_price}
use Rattle.tf_schedule.specs.declared.piece.Piece.{Piece}
use Rattle.tf_schedule.specs.Drawing.{drawing, stop_of}
use Rattle.tf_schedule.specs.Misfit.{IsKnown}
use Rattle.tf_schedule.specs.Cost.{known_pieces}
use Rattle.tf_schedule.proofs.Prices.{≤ℤ_trans}
use Rattle.tf_schedule.proofs.Costing.{idle_below, piece_below, greatest_below, same_both}
use Rattle.tf_schedule.proofs.cost.greatest_cost.Goals as goal

pub loop-piece-init : goal.loop-piece-init
loop-piece-init g c =
    let fits : SFits w128 c.greatest_by-value.result = search rules in
    let stored : to_z w128 (of_z w128 c.greatest_by-value.result) ≡ c.greatest_by-value.result =
    to_z-of_z w128 c.greatest_by-value.result fits in
    let (j, job, at) = c.greatest_by-value.ensures.reached in
    record {
      below = subst
          (λ (z : ℤ). z
          ≤ℤ greatest_price c.args.task.now
          (drawing c.args.task.now.machines (known_pieces c.args.task.now c.args.pieces.now)))
          (sym (stored ∙ at))
          (idle_below c.args.task.now c.args.pieces.now c.requires.schedule c.requires.task j job);
      idle = λ i is. subst (λ (z : ℤ). price c.args.task.now i 0 ≤ℤ z) (sym stored)
          (c.greatest_by-value.ensures.all i is);
      over = λ i d h. absurd (omega arith);
    }

-- of either the old value or the price of a piece, both at most the greatest
below_more : (k : SchedulingTask) (ps : List Piece) (i : ℕ) (p : Piece) (v w : ℤ)
    → ((h : IsKnown k p)
    → price k p.job (stop_of p) ≤ℤ greatest_price k (drawing k.machines (known_pieces k ps)))
    → v ≤ℤ greatest_price k (drawing k.machines (known_pieces k ps))
    → (w ≡ v) ⊎ (IsKnown k p × (w ≡ price k p.job (stop_of p)))
    → w ≤ℤ greatest_price k (drawing k.machines (known_pieces k ps))
below_more k ps i p v w own le (inl old) =
    subst (λ (z : ℤ). z ≤ℤ greatest_price k (drawing k.machines (known_pieces k ps))) (sym old) le
below_more k ps i p v w own le (inr (known, new)) =
    subst (λ (z : ℤ). z ≤ℤ greatest_price k (drawing k.machines (known_pieces k ps))) (sym new)
    (own known)

pub loop-piece-preserved : goal.loop-piece-preserved
loop-piece-preserved g c =
    let p = c.piece-item.result in
    let fits : SFits w128 c.raised-value.result = search rules in
    let stored : to_z w128 (of_z w128 c.raised-value.result) ≡ c.raised-value.result =
    to_z-of_z w128 c.raised-value.result fits in
    let more : All
    (λ q. IsKnown c.args.task.now q
    → price c.args.task.now q.job (stop_of q) ≤ℤ c.raised-value.result)
    (take (c.loop-piece.piece-index + 1) c.args.pieces.now) =
    All-more (λ q. IsKnown c.args.task.now q
    → price c.args.task.now q.job (stop_of q) ≤ℤ c.raised-value.result) c.args.pieces.now
    c.loop-piece.piece-index p c.loop-piece-test.true
    (λ i d h known. ≤ℤ_trans _ _ _ (c.loop-piece.invariant.over i d h known)
    c.raised-value.ensures.above)
    (subst (λ (q : Piece). IsKnown c.args.task.now q
    → price c.args.task.now q.job (stop_of q) ≤ℤ c.raised-value.result) c.piece-item.is
    c.raised-value.ensures.own) in
    record {
      below = subst
          (λ (z : ℤ). z
          ≤ℤ greatest_price c.args.task.now
          (drawing c.args.task.now.machines (known_pieces c.args.task.now c.args.pieces.now)))
          (sym stored)
          (below_more c.args.task.now c.args.pieces.now c.loop-piece.piece-index p
          (to_z w128 c.loop-piece.value-bits) c.raised-value.result
          (piece_below c.args.task.now c.args.pieces.now c.requires.schedule c.requires.task
          c.loop-piece.piece-index p c.loop-piece-test.true (sym c.piece-item.is))
          c.loop-piece.invariant.below c.raised-value.ensures.reached);
      idle = λ j job. subst (λ (z : ℤ). price c.args.task.now j 0 ≤ℤ z) (sym stored)
          (≤ℤ_trans _ _ _ (c.loop-piece.invariant.idle j job) c.raised-value.ensures.above);
      over = λ i d h known. subst
          (λ (z : ℤ). price c.args.task.now
          (get_or (take (c.loop-piece.piece-index + 1) c.args.pieces.now) i d).job
          (stop_of (get_or (take (c.loop-piece.piece-index + 1) c.args.pieces.now) i d)) ≤ℤ z)
          (sym stored) (more i d h known);
    }

pub returns : goal.returns
returns g c =
    let over : All
    (λ q. IsKnown c.args.task.now q
    → price c.args.task.now q.job (stop_of q) ≤ℤ to_z w128 c.loop-piece.value-bits)
    c.args.pieces.now =
    subst (All (λ q. IsKnown c.args.task.now q
    → price c.args.task.now q.job (stop_of q) ≤ℤ to_z w128 c.loop-piece.value-bits))
    (take_all c.loop-piece.piece-index c.args.pieces.now c.loop-piece-test.false)
    c.loop-piece.invariant.over in
    same_both _ _ c.loop-piece.invariant.below
    (greatest_below c.args.task.now c.args.pieces.now c.requires.schedule c.requires.task
    (to_z w128 c.loop-piece.value-bits) c.loop-piece.invariant.idle over)
