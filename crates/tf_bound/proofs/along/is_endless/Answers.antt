use Rattle.std.proofs.Common.{◌≡◌, Bool, false, true, ℕ, ◌+◌, ◌-◌, List, Contains, length, replicate, get_or, set, refl, sym, ap, subst, ◌∙◌, ⊎_elim, arith}
use Rattle.std.proofs.lemmas.Bool.{cases_lt, false≢true}
use Rattle.std.proofs.lemmas.List.{get_or_past, get_or-replicate, length-replicate}
use Rattle.tf_bound.proofs.Dates.{marks_more}
use Rattle.tf_bound.proofs.RaisedDates.{HasWaiting}
use Rattle.tf_bound.proofs.along.is_endless.Goals as goal
use Rattle.tf_bound.proofs.along.is_endless.Goals.{then-is_waiting, else-is_waiting}

-- no mark is set at first
none_marked : (marks : List Bool) (n : ℕ) → marks ≡ replicate n false → (i : ℕ)
    → get_or marks i false ≡ true → ⊥
none_marked marks n is i mark =
    ⊎_elim
    (λ within. false≢true (sym (ap (λ xs. get_or xs i false) is
    ∙ get_or-replicate n i false false within) ∙ mark))
    (λ past. false≢true (sym (get_or_past marks i false
    (omega (arith, past, ap length is, length-replicate n false))) ∙ mark))
    (cases_lt i n)

pub loop-before-init : goal.loop-before-init
loop-before-init g c = λ i mark.
    absurd (none_marked c.in_ok-marks.marks.items (length c.args.waits.now)
    (c.in_ok-marks.ensures.items_if_clones_equal (λ y e. e)) i mark)

pub loop-before-preserved : goal.loop-before-preserved
loop-before-preserved g c =
    let waits = c.args.waits.now in
    let arcs = c.args.arcs.now in
    let before : ℕ = c.loop-before-item.result.0 in
    let after : ℕ = c.loop-before-item.result.1 in
    let place : ℕ = after - 1 in
    let AreRight : List Bool → Type 0 =
    λ marks. (i : ℕ) → get_or marks i false ≡ true → HasWaiting waits arcs i in
    elim c.if-is_waiting.branch [
      | then-is_waiting w ↦
          let is : c.if-is_waiting.marks.items ≡ set c.loop-before.marks.items place true =
          ap (λ v. v.items) w.marks-is ∙ w.mark.ensures.marks in
          let next : after ≡ place + 1 = omega (arith, w.mark.ensures.from_one) in
          let has : Contains arcs (before, after) =
          (c.loop-before.before-index, c.loop-before-test.true, sym c.loop-before-item.is) in
          let here : HasWaiting waits arcs place = (
            before,
            subst (λ (j : ℕ). Contains arcs (before, j)) next has,
            w.if-is_waiting.ensures refl,
          ) in
          subst AreRight (sym is)
          (marks_more (HasWaiting waits arcs) c.loop-before.marks.items place
          c.loop-before.invariant here)
      | else-is_waiting w ↦
          subst AreRight (sym (ap (λ v. v.items) w.marks-is)) c.loop-before.invariant
    ]

pub returns : goal.returns
returns g c is = record {
  some = c.are_marked.ensures.some is;
  each = λ i wait.
      c.loop-before.invariant i
      (sym (ap (λ (marks : List Bool). get_or marks i false) c.deref.ensures.value)
      ∙ c.are_marked.ensures.each is i wait);
}
