-- Numbers put in order one by one: a heap's, however it stores them.
use Rattle.std.proofs.Common.{◌≡◌, Bool, true, false, ℕ, ◌+◌, ◌≤◌, ◌<◌, ◌==◌, nat_lt, sum, List, [], ◌∷◌, length, cond, count_by, sum_by, All, refl, sym, ap, ◌∙◌, arith}
use Rattle.std.proofs.lemmas.Bool.{ltb-true, ltb-false, eqb-true, eq-eqb}
use Rattle.std.proofs.lemmas.List.Sums.{sum_by-cons}
use Rattle.std.proofs.lemmas.List.Elements.{All-cons, All-head, All-tail}
use Rattle.std.proofs.lemmas.List.Sorted.{sum_by-IsPermutation, sum_by_pushed, sum_by_popped}
use Rattle.std.specs.List.Sorted.{IsPermutation}
use Rattle.tf_problem.specs.Kept.{put, without_last, within_room}
use Rattle.tf_bound.specs.InOrder.{in_order}
use Rattle.tf_problem.proofs.Piles.{Rising, put-rising, put-length}

abbrev as_one : Bool → ℕ
as_one t = cond t 1 0

pub put-sum_by : (f : ℕ → ℕ) (p : ℕ) (times : List ℕ) → sum_by f (put p times) ≡ f p + sum_by f times
put-sum_by f p [] = omega (arith, sum_by-cons f p [])
put-sum_by f p (a ∷ times) = by (nat_lt a p) (put-sum_by f p times)
  where
    by : (t : Bool) → sum_by f (put p times) ≡ f p + sum_by f times
        → sum_by f (cond t (a ∷ put p times) (p ∷ a ∷ times)) ≡ f p + sum_by f (a ∷ times)
    by true e = omega (arith, e, sum_by-cons f a (put p times), sum_by-cons f a times)
    by false e = omega (arith, sum_by-cons f p (a ∷ times))

pub put-all : (P : ℕ → Type 0) (p : ℕ) (times : List ℕ) → P p → All P times → All P (put p times)
put-all P p [] here all = All-cons P p [] here all
put-all P p (a ∷ times) here all =
    by (nat_lt a p) (put-all P p times here (All-tail P a times all))
  where
    by : (t : Bool) → All P (put p times) → All P (cond t (a ∷ put p times) (p ∷ a ∷ times))
    by true rest = All-cons P a (put p times) (All-head P a times all) rest
    by false rest = All-cons P p (a ∷ times) here all

-- ---- in order

pub in_order-sum_by : (f : ℕ → ℕ) (xs : List ℕ) → sum_by f (in_order xs) ≡ sum_by f xs
in_order-sum_by f [] = refl
in_order-sum_by f (x ∷ xs) =
    omega (arith, put-sum_by f x (in_order xs), in_order-sum_by f xs, sum_by-cons f x xs)

pub in_order-length : (xs : List ℕ) → length (in_order xs) ≡ length xs
in_order-length [] = refl
in_order-length (x ∷ xs) = omega (arith, put-length x (in_order xs), in_order-length xs)

pub in_order-rising : (xs : List ℕ) → Rising 0 (in_order xs)
in_order-rising [] = tt
in_order-rising (x ∷ xs) = put-rising 0 x (in_order xs) (omega arith) (in_order-rising xs)

pub in_order-all : (P : ℕ → Type 0) (xs : List ℕ) → All P xs → All P (in_order xs)
in_order-all P [] all = all
in_order-all P (x ∷ xs) all =
    put-all P x (in_order xs) (All-head P x xs all) (in_order-all P xs (All-tail P x xs all))

-- a number that stands in a list that rises is no less than its first
counted-le : (t c : ℕ) (xs : List ℕ) → Rising t xs → 0 < count_by (λ y. c == y) xs → t ≤ c
counted-le t c [] rising some = absurd (omega (arith, some))
counted-le t c (x ∷ xs) rising some = by (c == x) refl (λ h. counted-le x c xs rising.1 h)
  where
    by : (b : Bool) → (c == x) ≡ b → (0 < count_by (λ y. c == y) xs → x ≤ c) → t ≤ c
    by true e further = omega (arith, eqb-true c x e, rising.0)
    by false e further =
        omega (
          arith,
          rising.0,
          further (omega (arith, some, sum_by-cons (λ y. as_one (c == y)) x xs, ap as_one e)),
        )

-- two lists that rise are the same, if each number stands in them as often
rising-same : (s t : ℕ) (xs ys : List ℕ) → Rising s xs → Rising t ys
    → ((c : ℕ) → count_by (λ y. c == y) xs ≡ count_by (λ y. c == y) ys) → xs ≡ ys
rising-same s t [] [] up up' same = refl
rising-same s t [] (y ∷ ys) up up' same =
    absurd (omega (arith, same y, sum_by-cons (λ z. as_one (y == z)) y ys, ap as_one (eq-eqb y y refl)))
rising-same s t (x ∷ xs) [] up up' same =
    absurd (omega (arith, same x, sum_by-cons (λ z. as_one (x == z)) x xs, ap as_one (eq-eqb x x refl)))
rising-same s t (x ∷ xs) (y ∷ ys) up up' same =
    let one : (z : ℕ) → as_one (z == z) ≡ 1 = λ z. ap as_one (eq-eqb z z refl) in
    let low : y ≤ x = counted-le y x (y ∷ ys) (omega arith, up'.1)
    (omega (arith, same x, sum_by-cons (λ z. as_one (x == z)) x xs, one x)) in
    let high : x ≤ y = counted-le x y (x ∷ xs) (omega arith, up.1)
    (omega (arith, same y, sum_by-cons (λ z. as_one (y == z)) y ys, one y)) in
    let first : x ≡ y = omega (arith, low, high) in
    let rest : xs ≡ ys = rising-same x y xs ys up.1 up'.1 (λ c. omega (
      arith,
      same c,
      sum_by-cons (λ z. as_one (c == z)) x xs,
      sum_by-cons (λ z. as_one (c == z)) y ys,
      ap (λ z. as_one (c == z)) first,
    )) in
    ap (λ z. z ∷ xs) first ∙ ap (λ zs. y ∷ zs) rest

pub in_order-permutation : (xs ys : List ℕ) → IsPermutation xs ys → in_order xs ≡ in_order ys
in_order-permutation xs ys moved =
    rising-same 0 0 (in_order xs) (in_order ys) (in_order-rising xs) (in_order-rising ys)
    (λ c. omega (
      arith,
      in_order-sum_by (λ y. as_one (c == y)) xs,
      in_order-sum_by (λ y. as_one (c == y)) ys,
      sum_by-IsPermutation (λ y. as_one (c == y)) xs ys moved,
    ))

-- ---- the least and the greatest

put-first : (x : ℕ) (times : List ℕ) → All (λ y. x ≤ y) times → put x times ≡ x ∷ times
put-first x [] all = refl
put-first x (a ∷ times) all = by (nat_lt a x) refl
  where
    by : (t : Bool) → nat_lt a x ≡ t → cond t (a ∷ put x times) (x ∷ a ∷ times) ≡ x ∷ a ∷ times
    by true e = absurd (omega (arith, ltb-true a x e, All-head (λ y. x ≤ y) a times all))
    by false e = refl

-- what is taken as the least is first
pub least-first : (x : ℕ) (xs rest : List ℕ) → IsPermutation xs (x ∷ rest) → All (λ y. x ≤ y) rest
    → in_order xs ≡ x ∷ in_order rest
least-first x xs rest moved all =
    in_order-permutation xs (x ∷ rest) moved
    ∙ put-first x (in_order rest) (in_order-all (λ y. x ≤ y) rest all)

equal-last : (x t : ℕ) (times : List ℕ) → x ≤ t → Rising t times → All (λ y. y ≤ x) times
    → without_last (x ∷ times) ≡ times
equal-last x t [] le rising all = refl
equal-last x t (a ∷ times) le rising all =
    let is : x ≡ a = omega (arith, le, rising.0, All-head (λ y. y ≤ x) a times all) in
    ap (λ z. z ∷ without_last (a ∷ times)) is ∙ ap (λ z. a ∷ without_last (z ∷ times)) (sym is)
    ∙ ap (λ zs. a ∷ zs) (equal-last x a times (omega (arith, is)) rising.1
    (All-tail (λ y. y ≤ x) a times all))

put-some : (x a : ℕ) (times : List ℕ) → without_last (a ∷ put x times) ≡ a ∷ without_last (put x times)
put-some x a [] = refl
put-some x a (b ∷ times) = by (nat_lt b x)
  where
    by : (t : Bool) → without_last (a ∷ cond t (b ∷ put x times) (x ∷ b ∷ times))
        ≡ a ∷ without_last (cond t (b ∷ put x times) (x ∷ b ∷ times))
    by true = refl
    by false = refl

put-last : (x t : ℕ) (times : List ℕ) → Rising t times → All (λ y. y ≤ x) times
    → without_last (put x times) ≡ times
put-last x t [] rising all = refl
put-last x t (a ∷ times) rising all =
    by (nat_lt a x) refl (put-last x a times rising.1 (All-tail (λ y. y ≤ x) a times all))
  where
    by : (b : Bool) → nat_lt a x ≡ b → without_last (put x times) ≡ times
        → without_last (cond b (a ∷ put x times) (x ∷ a ∷ times)) ≡ a ∷ times
    by true e rest = put-some x a times ∙ ap (λ zs. a ∷ zs) rest
    by false e rest =
        equal-last x a (a ∷ times) (ltb-false a x e) (omega arith, rising.1) all

-- what is taken as the greatest is last
pub greatest-last : (x : ℕ) (xs rest : List ℕ) → IsPermutation xs (x ∷ rest) → All (λ y. y ≤ x) rest
    → without_last (in_order xs) ≡ in_order rest
greatest-last x xs rest moved all =
    ap without_last (in_order-permutation xs (x ∷ rest) moved)
    ∙ put-last x 0 (in_order rest) (in_order-rising rest) (in_order-all (λ y. y ≤ x) rest all)

-- what a heap holds after one more
pub pushed : (x : ℕ) (xs ys : List ℕ) → IsPermutation (x ∷ xs) ys → in_order ys ≡ put x (in_order xs)
pushed x xs ys moved = sym (in_order-permutation (x ∷ xs) ys moved)

-- ---- one time more, within the room

pub in_order-sum : (xs : List ℕ) → sum (in_order xs) ≡ sum xs
in_order-sum xs = in_order-sum_by (λ y. y) xs

pub within-all : (room : ℕ) (times : List ℕ) → sum times ≤ room → within_room room times ≡ times
within-all room times h = by (nat_lt room (sum times)) refl
  where
    by : (t : Bool) → nat_lt room (sum times) ≡ t → cond t (without_last times) times ≡ times
    by true e = absurd (omega (arith, h, ltb-true room (sum times) e))
    by false e = refl

pub within-less : (room : ℕ) (times : List ℕ) → room < sum times
    → within_room room times ≡ without_last times
within-less room times h = by (nat_lt room (sum times)) refl
  where
    by : (t : Bool) → nat_lt room (sum times) ≡ t → cond t (without_last times) times ≡ without_last times
    by true e = refl
    by false e = absurd (omega (arith, h, ltb-false room (sum times) e))

module _ (p total room : ℕ) (old more : List ℕ) (pushed-p : IsPermutation (p ∷ old) more)
    (is : total ≡ sum old) where
  more-sum : sum more ≡ p + total
  more-sum = omega (arith, is, sum_by_pushed (λ y. y) p old more pushed-p)

  pub kept-all : total + p ≤ room → in_order more ≡ within_room room (put p (in_order old))
  kept-all fits =
      pushed p old more pushed-p
      ∙ sym (within-all room (put p (in_order old))
      (omega (arith, fits, is, put-sum_by (λ y. y) p (in_order old), in_order-sum old)))

  pub kept-less : (x : ℕ) (rest : List ℕ) → IsPermutation more (x ∷ rest) → All (λ y. y ≤ x) rest
      → room < total + p → in_order rest ≡ within_room room (put p (in_order old))
  kept-less x rest popped all over =
      sym (greatest-last x more rest popped all)
      ∙ ap without_last (pushed p old more pushed-p)
      ∙ sym (within-less room (put p (in_order old))
      (omega (arith, over, is, put-sum_by (λ y. y) p (in_order old), in_order-sum old)))

  pub rest-sum : (x : ℕ) (rest : List ℕ) → IsPermutation more (x ∷ rest) → sum rest + x ≡ total + p
  rest-sum x rest popped = omega (arith, more-sum, sum_by_popped (λ y. y) x more rest popped)
