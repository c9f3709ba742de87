-- Sums and counts over the elements that pass a test.
use Rattle.std.proofs.Common.{◌≡◌, ℕ, ◌+◌, ◌≤◌, Bool, true, false, cond, ◌&&◌, List, [], ◌∷◌, filter, refl, sym, ap, ◌∙◌, arith}
use Rattle.std.specs.List.{count_by, sum_by}
use Rattle.std.proofs.lemmas.List.Sums.{sum_by-cons}
use Rattle.tf_schedule.proofs.Counting.{sum_by-same}

module _ {X : Type 0} (q : X → Bool) where
  filter_step : (f : X → ℕ) (x : X) (xs : List X) (b : Bool)
      → sum_by f (filter q xs) ≡ sum_by (λ y. cond (q y) (f y) 0) xs
      → sum_by f (cond b (x ∷ filter q xs) (filter q xs)) ≡ cond b (f x) 0
      + sum_by (λ y. cond (q y) (f y) 0) xs
  filter_step f x xs true rest = sum_by-cons f x (filter q xs) ∙ ap (λ n. f x + n) rest
  filter_step f x xs false rest = rest ∙ omega arith

  pub sum_by-filter : (f : X → ℕ) (xs : List X)
      → sum_by f (filter q xs) ≡ sum_by (λ y. cond (q y) (f y) 0) xs
  sum_by-filter f [] = refl
  sum_by-filter f (x ∷ xs) = filter_step f x xs (q x) (sum_by-filter f xs)
      ∙ sym (sum_by-cons (λ y. cond (q y) (f y) 0) x xs)

  at_most : (b : Bool) (n : ℕ) → cond b n 0 ≤ n
  at_most true n = omega arith
  at_most false n = omega arith

  pub sum_by-filter-le : (f : X → ℕ) (xs : List X) → sum_by f (filter q xs) ≤ sum_by f xs
  sum_by-filter-le f [] = omega arith
  sum_by-filter-le f (x ∷ xs) =
      omega (
        arith,
        filter_step f x xs (q x) (sum_by-filter f xs),
        sum_by-filter f xs,
        sum_by-filter-le f xs,
        sum_by-cons f x xs,
        at_most (q x) (f x),
      )

  both : (a b : Bool) → ◌≡◌ {A = ℕ} (cond a (cond b 1 0) 0) (cond (a && b) 1 0)
  both true b = refl
  both false b = refl

  pub count_by-filter : (r : X → Bool) (xs : List X)
      → count_by r (filter q xs) ≡ count_by (λ x. q x && r x) xs
  count_by-filter r xs = sum_by-filter (λ x. cond (r x) 1 0) xs
      ∙ sum_by-same (λ x. cond (q x) (cond (r x) 1 0) 0) (λ x. cond (q x && r x) 1 0)
      (λ x. both (q x) (r x)) xs
