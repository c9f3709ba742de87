-- Multipliers of arcs, added up one arc after another.
use Rattle.std.proofs.Common.{◌≡◌, ◌⊎◌, ℕ, ◌+◌, ◌-◌, ◌*◌, ◌^◌, ◌≤◌, min, Bool, List, [], ◌∷◌, length, get_or, drop, refl, ap, ◌∙◌, inl, inr, ⊎_elim, arith}
use Rattle.std.proofs.lemmas.Bool.{cases_lt}
use Rattle.std.proofs.lemmas.List.{drop_all}
use Rattle.tf_problem.specs.ProblemBounds.{over_arcs}
use Rattle.tf_bound.specs.ArcEnds.{given_at}

-- the sum over the arcs from place i on
abbrev pub over_from : (ℕ × ℕ → ℕ) → List (ℕ × ℕ) → List ℕ → ℕ → ℕ
over_from f arcs l i = over_arcs f (drop i arcs) (drop i l)

over-none : (f : ℕ × ℕ → ℕ) (arcs : List (ℕ × ℕ)) → over_arcs f arcs [] ≡ 0
over-none f [] = refl
over-none f (arc ∷ arcs) = refl

-- the shorter of two lists ends
pub ends_at : (a b i : ℕ) → min a b ≤ i → (a ≤ i) ⊎ (b ≤ i)
ends_at a b i h =
    ⊎_elim (λ less. inr (omega (arith, h, less))) (λ le. inl (omega (arith, h, le))) (cases_lt b a)

pub over_ends : (f : ℕ × ℕ → ℕ) (arcs : List (ℕ × ℕ)) (l : List ℕ) (i : ℕ)
    → min (length arcs) (length l) ≤ i → over_from f arcs l i ≡ 0
over_ends f arcs l i end =
    ⊎_elim (λ le. ap (λ xs. over_arcs f xs (drop i l)) (drop_all i arcs le))
    (λ le. ap (λ ns. over_arcs f (drop i arcs) ns) (drop_all i l le) ∙ over-none f (drop i arcs))
    (ends_at (length arcs) (length l) i end)

-- ---- at one end of each arc

-- the multipliers of the first i arcs are added
pub record AreAdded (is_after : Bool) (arcs : List (ℕ × ℕ)) (l : List ℕ) (n i : ℕ) (sums : List ℕ)
    : Type 0 where
  pub len : length sums ≡ n
  pub each : (j : ℕ) → 1 ≤ j
      → get_or sums (j - 1) 0 + over_from (given_at is_after j) arcs l i
      ≡ over_arcs (given_at is_after j) arcs l
  pub small : (x : ℕ) → get_or sums x 0 ≤ i * 2 ^ 64
