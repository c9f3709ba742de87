-- The marks of the machines that a route has.
use Rattle.std.proofs.Common.{◌≡◌, ◌≢◌, Bool, true, false, ℕ, ◌+◌, ◌≤◌, ◌<◌, List, length, get_or, set, slice_index, sym, ap, ◌∙◌, subst, inl, inr, arith}
use Rattle.std.proofs.lemmas.Bool.{cases_lt, cases_eq, false≢true}
use Rattle.std.proofs.lemmas.List.{length-set, get_or-set_same, get_or-set_other}
use Rattle.tf_bound.specs.Route.{IsRouted}

-- the machines at the first places of a route are marked, they alone, and none twice
pub record AreSeen (times route : List ℕ) (i : ℕ) (seen : List Bool) : Type 0 where
  pub len : length seen ≡ length times
  pub below : (x : ℕ) → x < i → slice_index route x < length times
  pub apart : (x y : ℕ) → x < y → y < i → slice_index route x ≢ slice_index route y
  pub marked : (x : ℕ) → x < i → get_or seen (slice_index route x) false ≡ true
  pub only : (a : ℕ) → get_or seen a false ≡ true → (x : ℕ) × (x < i) × (slice_index route x ≡ a)

pub seen_more : (times route : List ℕ) (i : ℕ) (seen : List Bool) → AreSeen times route i seen
    → slice_index route i < length times → get_or seen (slice_index route i) false ≡ false
    → AreSeen times route (i + 1) (set seen (slice_index route i) true)
seen_more times route i seen are low new = record {
  len = length-set seen (slice_index route i) true ∙ are.len;
  below = λ x lt. elim (cases_lt x i) [
    | inl less ↦ are.below x less
    | inr ge ↦ subst (λ y. slice_index route y < length times) (last x lt ge) low
  ];
  apart = λ x y lt lt'. elim (cases_lt y i) [
    | inl less ↦ are.apart x y lt less
    | inr ge ↦ λ same. absurd
        (false≢true (sym new ∙ ap (λ a. get_or seen a false)
        (ap (slice_index route) (last y lt' ge) ∙ sym same)
        ∙ are.marked x (omega (arith, lt, last y lt' ge))))
  ];
  marked = λ x lt. elim (cases_lt x i) [
    | inl less ↦ kept (slice_index route x) (are.marked x less)
    | inr ge ↦ subst (λ y. get_or (set seen (slice_index route i) true) (slice_index route y) false ≡ true) (last x lt ge)
        (get_or-set_same seen (slice_index route i) true false (omega (arith, low, are.len)))
  ];
  only = λ a is. elim (cases_eq a (slice_index route i)) [
    | inl same ↦ (i, omega arith, sym same)
    | inr other ↦
        let at = are.only a (sym (get_or-set_other seen (slice_index route i) a true false other) ∙ is) in
        (at.0, omega (arith, at.1), at.2)
  ];
}
  where
    last : (x : ℕ) → x < i + 1 → i ≤ x → i ≡ x
    last x lt ge = omega arith

    kept : (a : ℕ) → get_or seen a false ≡ true → get_or (set seen (slice_index route i) true) a false ≡ true
    kept a is = elim (cases_eq a (slice_index route i)) [
      | inl same ↦ subst (λ c. get_or (set seen (slice_index route i) true) c false ≡ true) (sym same)
          (get_or-set_same seen (slice_index route i) true false (omega (arith, low, are.len)))
      | inr other ↦ get_or-set_other seen (slice_index route i) a true false other ∙ is
    ]

-- a machine that is past the last, or marked, makes it no route
pub not_below : (times route : List ℕ) (i : ℕ) → i < length route
    → length times ≤ slice_index route i → IsRouted (length times) times route → ⊥
not_below times route i lt past is = omega (arith, past, is.of_machines i 0 lt)
