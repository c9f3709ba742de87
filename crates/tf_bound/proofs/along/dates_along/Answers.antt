use Rattle.std.proofs.Common.{◌≡◌, ℕ, Bool, List, length, take, drop, ◌++◌, ap, ◌∙◌, subst, arith}
use Rattle.std.proofs.Math.Seq.{take-append_seam}
use Rattle.tf_bound.specs.Along.{IsSettled}
use Rattle.tf_bound.proofs.along.dates_along.Goals as goal

front_of : (xs ys : List ℕ) (n : ℕ) → n ≡ length xs → take n (xs ++ ys) ≡ xs
front_of xs ys n e = ap (λ k. take k (xs ++ ys)) e ∙ take-append_seam xs ys

pub returns-then-branch : goal.returns-then-branch
returns-then-branch g c =
    let new = c.raise_all.new.dates in
    let front = front_of new (drop (length new) c.in_ok-dates.dates.items) c.in_ok-dates.dates.len
    (omega (arith, c.in_ok-raise_all.ensures.len, ap length c.as_mut_slice.ensures.value)) in
    rw front (
      subst (λ (b : Bool). IsSettled c.args.own.now c.args.work.now c.args.arcs.now new b)
          c.if-branch.true
          (subst (λ (xs : List ℕ).
          IsSettled xs c.args.work.now c.args.arcs.now new c.in_ok-raise_all.field-0)
          (c.as_mut_slice.ensures.value ∙ c.in_ok-dates.ensures.items)
          c.in_ok-raise_all.ensures.settled),
      c.in_ok-raise_all.ensures.within,
    )

pub returns-else-branch : goal.returns-else-branch
returns-else-branch g c =
    let new = c.raise_all.new.dates in
    subst (λ (b : Bool). IsSettled c.args.own.now c.args.work.now c.args.arcs.now new b)
    c.if-branch.false
    (subst (λ (xs : List ℕ).
    IsSettled xs c.args.work.now c.args.arcs.now new c.in_ok-raise_all.field-0)
    (c.as_mut_slice.ensures.value ∙ c.in_ok-dates.ensures.items) c.in_ok-raise_all.ensures.settled)
