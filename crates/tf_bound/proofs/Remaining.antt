-- Working on the first of times that rise, by a heap.
use Rattle.std.proofs.Common.{◌≡◌, Bool, true, false, ℕ, ◌+◌, ◌-◌, ◌≤◌, ◌<◌, nat_lt, nat_le, List, [], ◌∷◌, map, cond, All, refl, sym, ap, ◌∙◌, subst, arith}
use Rattle.std.proofs.lemmas.Bool.{ltb-true, leb-true}
use Rattle.std.proofs.lemmas.List.Sorted.{IsPermutation-map}
use Rattle.std.specs.List.Sorted.{IsPermutation}
use Rattle.std.specs.BinaryHeap.{IsUpperBound}
use Rattle.std.proofs.HeapSift.{at_most}
use Rattle.std.proofs.lemmas.List.Elements.{All-cons, All-nil}
use Rattle.std.specs.declared.cmp.Reverse.{Reverse}
use Rattle.tf_problem.specs.Kept.{put}
use Rattle.tf_problem.specs.Shortest.{remaining, completions}
use Rattle.tf_bound.specs.InOrder.{by_shortest, rising_times, all_completions}
use Rattle.tf_problem.proofs.Piles.{Rising}
use Rattle.tf_bound.proofs.InOrder.{in_order-rising, least-first, pushed}

-- ---- one step

put-front : (x t : ℕ) (times : List ℕ) → x ≤ t → Rising t times → put x times ≡ x ∷ times
put-front x t [] le up = refl
put-front x t (a ∷ times) le up = by (nat_lt a x) refl
  where
    by : (b : Bool) → nat_lt a x ≡ b → cond b (a ∷ put x times) (x ∷ a ∷ times) ≡ x ∷ a ∷ times
    by true e = absurd (omega (arith, ltb-true a x e, le, up.0))
    by false e = refl

-- the first is not completed
pub remaining-part : (d a : ℕ) (times : List ℕ) → d < a → remaining d (a ∷ times) ≡ (a - d) ∷ times
remaining-part d a times less = by (nat_le a d) refl
  where
    by : (b : Bool) → nat_le a d ≡ b
        → cond b (remaining (d - a) times) ((a - d) ∷ times) ≡ (a - d) ∷ times
    by true e = absurd (omega (arith, less, leb-true a d e))
    by false e = refl

pub completions-none : (now d a : ℕ) (times : List ℕ) → d < a → completions now d (a ∷ times) ≡ 0
completions-none now d a times less = by (nat_le a d) refl
  where
    by : (b : Bool) → nat_le a d ≡ b
        → cond b (now + a + completions (now + a) (d - a) times) 0 ≡ 0
    by true e = absurd (omega (arith, less, leb-true a d e))
    by false e = refl

-- ---- by a heap

-- the one that is taken first is no longer than the others
pub le_from_shortest : (x : Reverse ℕ) (xs : List (Reverse ℕ)) → IsUpperBound by_shortest x xs
    → All (λ y. x.0 ≤ y) (map (λ y. y.0) xs)
le_from_shortest x [] h = All-nil (λ y. x.0 ≤ y)
le_from_shortest x (y ∷ ys) h =
    All-cons (λ z. x.0 ≤ z) y.0 (map (λ z. z.0) ys) (at_most y.0 x.0 h.0) (le_from_shortest x ys h.1)

pub least-of : (x : Reverse ℕ) (xs rest : List (Reverse ℕ)) → IsPermutation xs (x ∷ rest)
    → All (λ y. x.0 ≤ y) (map (λ y. y.0) rest) → rising_times xs ≡ x.0 ∷ rising_times rest
least-of x xs rest moved all =
    least-first x.0 (map (λ y. y.0) xs) (map (λ y. y.0) rest)
    (IsPermutation-map (λ y. y.0) xs (x ∷ rest) moved) all

pub added-to : (x : Reverse ℕ) (xs ys : List (Reverse ℕ)) → IsPermutation (x ∷ xs) ys
    → rising_times ys ≡ put x.0 (rising_times xs)
added-to x xs ys moved =
    pushed x.0 (map (λ y. y.0) xs) (map (λ y. y.0) ys)
    (IsPermutation-map (λ y. y.0) (x ∷ xs) ys moved)

module _ (d a : ℕ) (old rest : List (Reverse ℕ)) (first : rising_times old ≡ a ∷ rising_times rest) where
  pub more-none : (now : ℕ) → d < a → completions now d (rising_times old) ≡ 0
  more-none now less = ap (completions now d) first ∙ completions-none now d a (rising_times rest) less

  -- what remains of the first is put back
  pub rest-part : d < a → (new : List (Reverse ℕ)) → rising_times new ≡ put (a - d) (rising_times rest)
      → rising_times new ≡ remaining d (rising_times old)
  rest-part less new added =
      let up : Rising 0 (a ∷ rising_times rest) =
      subst (Rising 0) first (in_order-rising (map (λ y. y.0) old)) in
      added ∙ put-front (a - d) a (rising_times rest) (omega arith) up.1
      ∙ sym (remaining-part d a (rising_times rest) less) ∙ ap (remaining d) (sym first)

-- nothing is left to do
pub all-none : (now : ℕ) (xs : List (Reverse ℕ)) → rising_times xs ≡ [] → all_completions now (rising_times xs) ≡ 0
all-none now xs none = ap (all_completions now) none
