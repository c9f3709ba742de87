-- Counts and sums over a range of numbers.
use Rattle.std.proofs.Common.{◌≡◌, ℕ, zero, suc, ◌+◌, ◌-◌, ◌<◌, ◌≤◌, min, max, Bool, true, false, cond, ◌&&◌, ltb, leb, eqb, List, [], ◌∷◌, length, get_or, map, refl, ◌∙◌, arith}
use Rattle.std.specs.List.{count_by, sum_by, range_with_len}
use Rattle.std.proofs.lemmas.List.Sums.{sum_by-cons}
use Rattle.std.proofs.lemmas.Bool.Decides.{nat_tests}

module _ {X : Type 0} (f g : X → ℕ) where
  pub sum_by-same : ((x : X) → f x ≡ g x) → (xs : List X) → sum_by f xs ≡ sum_by g xs
  sum_by-same h [] = refl
  sum_by-same h (x ∷ xs) =
      omega (arith, sum_by-cons f x xs, sum_by-cons g x xs, h x, sum_by-same h xs)

-- a sum of sums
pub sum_by-split : {X : Type 0} (f g h : X → ℕ) → ((x : X) → f x ≡ g x + h x) → (xs : List X)
    → sum_by f xs ≡ sum_by g xs + sum_by h xs
sum_by-split f g h split [] = refl
sum_by-split f g h split (x ∷ xs) =
    omega (
      arith,
      sum_by-cons f x xs,
      sum_by-cons g x xs,
      sum_by-cons h x xs,
      split x,
      sum_by-split f g h split xs,
    )

pub sum_by-none : {X : Type 0} (xs : List X) → sum_by (λ (x : X). 0) xs ≡ 0
sum_by-none [] = refl
sum_by-none {X} (x ∷ xs) = omega (arith, sum_by-cons (λ (y : X). 0) x xs, sum_by-none xs)

-- a sum over a mapped list
pub sum_by-map : {X Y : Type 0} (g : Y → ℕ) (f : X → Y) (xs : List X)
    → sum_by g (map f xs) ≡ sum_by (λ x. g (f x)) xs
sum_by-map g f [] = refl
sum_by-map g f (x ∷ xs) =
    omega (
      arith,
      sum_by-cons g (f x) (map f xs),
      sum_by-cons (λ y. g (f y)) x xs,
      sum_by-map g f xs,
    )

-- two functions that agree on a range
pub sum_range-same : (f g : ℕ → ℕ) (a n : ℕ) → ((x : ℕ) → a ≤ x → x < a + n → f x ≡ g x)
    → sum_by f (range_with_len a n) ≡ sum_by g (range_with_len a n)
sum_range-same f g a zero h = refl
sum_range-same f g a (suc n) h =
    omega (
      arith,
      sum_by-cons f a (range_with_len (a + 1) n),
      sum_by-cons g a (range_with_len (a + 1) n),
      h a (omega arith) (omega arith),
      sum_range-same f g (a + 1) n (λ x low high. h x (omega arith) (omega arith)),
    )

interval_step : (s e a n : ℕ) (b c : Bool) → leb s a ≡ b → ltb a e ≡ c
    → cond (b && c) 1 0 + (min e (a + 1 + n) - max s (a + 1)) ≡ min e (a + suc n) - max s a
interval_step s e a n true true p q =
    let low : s ≤ a = grind (arith, nat_tests) in
    let high : a < e = grind (arith, nat_tests) in
    omega arith
interval_step s e a n true false p q =
    let low : s ≤ a = grind (arith, nat_tests) in
    let high : e ≤ a = grind (arith, nat_tests) in
    omega arith
interval_step s e a n false c p q =
    let low : a < s = grind (arith, nat_tests) in
    omega arith

-- the numbers of a range that lie in [s, e)
pub count_interval : (s e a n : ℕ)
    → count_by (λ t. leb s t && ltb t e) (range_with_len a n) ≡ min e (a + n) - max s a
count_interval s e a zero = omega arith
count_interval s e a (suc n) =
    omega (
      arith,
      sum_by-cons (λ t. cond (leb s t && ltb t e) 1 0) a (range_with_len (a + 1) n),
      count_interval s e (a + 1) n,
      interval_step s e a n (leb s a) (ltb a e) refl refl,
    )

-- only the number k counts
pub sum_single : (k x a n : ℕ)
    → sum_by (λ i. cond (eqb k i) x 0) (range_with_len a n) ≡ cond (leb a k && ltb k (a + n)) x 0
sum_single k x a zero = grind (arith, nat_tests)
sum_single k x a (suc n) =
    grind (
      arith,
      nat_tests,
      sum_by-cons (λ i. cond (eqb k i) x 0) a (range_with_len (a + 1) n),
      sum_single k x (a + 1) n,
    )

pub sum_single_in : (k x m : ℕ) → 0 < k → k ≤ m
    → sum_by (λ i. cond (eqb k i) x 0) (range_with_len 1 m) ≡ x
sum_single_in k x m low high = sum_single k x 1 m ∙ inside
  where
    inside : cond (leb 1 k && ltb k (1 + m)) x 0 ≡ x
    inside = grind (arith, nat_tests)

-- nothing passes
none_step : (b : Bool) (n more : ℕ) → b ≡ false → more ≡ cond b 1 0 + n → n ≡ 0 → more ≡ 0
none_step true n more no_test e rest = absurd (cc)
none_step false n more no_test e rest = omega arith

pub count_none : {X : Type 0} (p : X → Bool) (xs : List X)
    → ((n : ℕ) (d : X) → n < length xs → p (get_or xs n d) ≡ false) → count_by p xs ≡ 0
count_none p [] none = refl
count_none p (x ∷ xs) none =
    none_step (p x) (count_by p xs) (count_by p (x ∷ xs)) (none 0 x (omega arith))
    (sum_by-cons (λ y. cond (p y) 1 0) x xs)
    (count_none p xs (λ n d h. none (suc n) d (omega arith)))
