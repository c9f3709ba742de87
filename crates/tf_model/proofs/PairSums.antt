-- Sums over the unordered pairs of places of a list.
use Rattle.std.proofs.Common.{◌≡◌, ℕ, zero, suc, ◌+◌, ◌*◌, ◌≤◌, min, List, [], ◌∷◌, refl, arith, sum_by, All}
use Rattle.std.specs.List.{AllPairs}
use Rattle.std.specs.List.Sorted.{IsPermutation}
use Rattle.std.proofs.lemmas.List.Sums.{sum_by-cons}
use Rattle.std.proofs.lemmas.List.Elements.{All-weaker, All-head, All-tail}
use Rattle.std.proofs.lemmas.List.Sorted.{sum_by-IsPermutation}
use Rattle.tf_model.specs.Bounds.{pair_sum}
use Rattle.tf_model.proofs.Sums.{sum_by_le_all, sum_by-plus, sum_by-same, sum_by-same_all}

-- a sum over all pairs of elements: each with itself, and the others both ways
pub sum_by-square : (f : ℕ → ℕ → ℕ) (xs : List ℕ)
    → sum_by (λ j. sum_by (f j) xs) xs ≡ sum_by (λ j. f j j) xs + pair_sum (λ j i. f j i + f i j) xs
sum_by-square f [] = refl
sum_by-square f (x ∷ xs) =
    omega (
      arith,
      sum_by-cons (λ j. sum_by (f j) (x ∷ xs)) x xs,
      sum_by-cons (f x) x xs,
      sum_by-cons (λ j. f j j) x xs,
      sum_by-same (λ j. sum_by (f j) (x ∷ xs)) (λ j. f j x + sum_by (f j) xs) xs
          (λ j. sum_by-cons (f j) x xs),
      sum_by-plus (λ j. f j x) (λ j. sum_by (f j) xs) xs,
      sum_by-plus (f x) (λ i. f i x) xs,
      sum_by-square f xs,
    )

-- smaller terms at each pair of elements of which P holds
pub pair_sum_le : (P : ℕ → Type 0) (f g : ℕ → ℕ → ℕ) → ((i j : ℕ) → P i → P j → f i j ≤ g i j)
    → (xs : List ℕ) → All P xs → pair_sum f xs ≤ pair_sum g xs
pair_sum_le P f g le [] h = omega arith
pair_sum_le P f g le (x ∷ xs) h =
    omega (
      arith,
      sum_by_le_all (f x) (g x) xs
          (All-weaker P (λ y. f x y ≤ g x y) (λ y p. le x y (All-head P x xs h) p) xs
          (All-tail P x xs h)),
      pair_sum_le P f g le xs (All-tail P x xs h),
    )

-- equal terms at each element and each later one
pub pair_sum-same : (f g : ℕ → ℕ → ℕ) (xs : List ℕ) → AllPairs (λ i j. f i j ≡ g i j) xs
    → pair_sum f xs ≡ pair_sum g xs
pair_sum-same f g [] same = refl
pair_sum-same f g (x ∷ xs) same =
    omega (
      arith,
      sum_by-same_all (f x) (g x) xs (λ n d lt. same zero (suc n) d (omega arith) (omega arith)),
      pair_sum-same f g xs (λ i j d lt within. same (suc i) (suc j) d (omega arith) (omega arith)),
    )

-- both ways a symmetric function counts twice
pair_sum-twice : (f : ℕ → ℕ → ℕ) → ((i j : ℕ) → f i j ≡ f j i) → (xs : List ℕ)
    → pair_sum (λ j i. f j i + f i j) xs ≡ pair_sum f xs + pair_sum f xs
pair_sum-twice f even [] = refl
pair_sum-twice f even (x ∷ xs) =
    omega (
      arith,
      sum_by-plus (f x) (λ i. f i x) xs,
      sum_by-same (λ i. f i x) (f x) xs (λ i. even i x),
      pair_sum-twice f even xs,
    )

-- of a symmetric function the sum does not depend on the order of the list
pub pair_sum-permutation : (f : ℕ → ℕ → ℕ) → ((i j : ℕ) → f i j ≡ f j i) → (xs ys : List ℕ)
    → IsPermutation xs ys → pair_sum f ys ≡ pair_sum f xs
pair_sum-permutation f even xs ys moved =
    let outer : sum_by (λ j. sum_by (f j) ys) ys ≡ sum_by (λ j. sum_by (f j) ys) xs =
    sum_by-IsPermutation (λ j. sum_by (f j) ys) xs ys moved in
    let inner : sum_by (λ j. sum_by (f j) ys) xs ≡ sum_by (λ j. sum_by (f j) xs) xs =
    sum_by-same (λ j. sum_by (f j) ys) (λ j. sum_by (f j) xs) xs
    (λ j. sum_by-IsPermutation (f j) xs ys moved) in
    let own : sum_by (λ j. f j j) ys ≡ sum_by (λ j. f j j) xs =
    sum_by-IsPermutation (λ j. f j j) xs ys moved in
    omega (
      arith,
      sum_by-square f xs,
      sum_by-square f ys,
      outer,
      inner,
      own,
      pair_sum-twice f even
          xs,
      pair_sum-twice f even ys,
    )

lesser : (a b : ℕ) → b ≤ a → min a b ≡ b
lesser a b le = omega arith

-- where no job has a greater weight for its time than one before it, each pair takes the later
-- weight and the earlier time
pub pair_sum-lesser : (w t : ℕ → ℕ) (xs : List ℕ) → AllPairs (λ i j. w j * t i ≤ w i * t j) xs
    → pair_sum (λ i j. min (w i * t j) (w j * t i)) xs ≡ pair_sum (λ i j. w j * t i) xs
pair_sum-lesser w t xs falling =
    pair_sum-same (λ i j. min (w i * t j) (w j * t i)) (λ i j. w j * t i) xs
    (λ i j d lt within. lesser _ _ (falling i j d lt within))
