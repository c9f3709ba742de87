-- Times in a list that rises: what its first elements come to.
use Rattle.std.proofs.Common.{◌≡◌, Bool, true, false, ℕ, zero, suc, ◌+◌, ◌-◌, ◌≤◌, ◌<◌, nat_lt, sum, List, [], ◌∷◌, length, cond, refl, ap, arith}
use Rattle.std.proofs.lemmas.Bool.{ltb-true, ltb-false}
use Rattle.std.proofs.lemmas.List.Sums.{sum_by-cons}
use Rattle.tf_problem.specs.Kept.{put, without_last, within_room}

-- the sum of the first n elements
abbrev pub first : ℕ → List ℕ → ℕ
first zero times = 0
first (suc n) [] = 0
first (suc n) (a ∷ times) = a + first n times

-- no element is less than the one before it, and the first is at least t
abbrev pub Rising : ℕ → List ℕ → Type 0
Rising t [] = Unit {0}
Rising t (a ∷ times) = (t ≤ a) × Rising a times

pub first-all : (times : List ℕ) → first (length times) times ≡ sum times
first-all [] = refl
first-all (a ∷ times) = omega (arith, first-all times, sum_by-cons (λ y. y) a times)

pub Rising-lower : (s t : ℕ) (times : List ℕ) → s ≤ t → Rising t times → Rising s times
Rising-lower s t [] h rising = tt
Rising-lower s t (a ∷ times) h rising = (omega (arith, rising.0), rising.1)

-- ---- an element more

pub put-length : (p : ℕ) (times : List ℕ) → length (put p times) ≡ suc (length times)
put-length p [] = refl
put-length p (a ∷ times) = by (nat_lt a p) (put-length p times)
  where
    by : (t : Bool) → length (put p times) ≡ suc (length times)
        → length (cond t (a ∷ put p times) (p ∷ a ∷ times)) ≡ suc (suc (length times))
    by true e = omega (arith, e)
    by false e = refl

pub put-rising : (t p : ℕ) (times : List ℕ) → t ≤ p → Rising t times → Rising t (put p times)
put-rising t p [] h rising = (h, tt)
put-rising t p (a ∷ times) h rising = by (nat_lt a p) refl (λ le. put-rising a p times le rising.1)
  where
    by : (b : Bool) → nat_lt a p ≡ b → (a ≤ p → Rising a (put p times))
        → Rising t (cond b (a ∷ put p times) (p ∷ a ∷ times))
    by true e further = (rising.0, further (omega (arith, ltb-true a p e)))
    by false e further = (h, (ltb-false a p e, rising.1))

-- one more of the first elements with it
pub put-more : (n p : ℕ) (times : List ℕ) → first (suc n) (put p times) ≤ p + first n times
put-more zero p [] = omega arith
put-more (suc n) p [] = omega arith
put-more zero p (a ∷ times) = by (nat_lt a p) refl
  where
    by : (b : Bool) → nat_lt a p ≡ b → first 1 (cond b (a ∷ put p times) (p ∷ a ∷ times)) ≤ p + 0
    by true e = omega (arith, ltb-true a p e)
    by false e = omega arith
put-more (suc n) p (a ∷ times) = by (nat_lt a p) (put-more n p times)
  where
    by : (b : Bool) → first (suc n) (put p times) ≤ p + first n times
        → first (suc (suc n)) (cond b (a ∷ put p times) (p ∷ a ∷ times)) ≤ p + (a + first n times)
    by true h = omega (arith, h)
    by false h = omega arith

-- a number before the others
first-shift : (n p t : ℕ) (times : List ℕ) → p ≤ t → Rising t times → n < length times
    → p + first n times ≤ first (suc n) times
first-shift n p t [] le rising h = absurd (omega arith)
first-shift zero p t (a ∷ times) le rising h = omega (arith, rising.0)
first-shift (suc n) p t (a ∷ times) le rising h =
    omega (arith, rising.0, first-shift n a a times (omega arith) rising.1 (omega arith))

-- as many of the first elements are not more with it
pub put-same : (n p t : ℕ) (times : List ℕ) → Rising t times → n ≤ length times
    → first n (put p times) ≤ first n times
put-same zero p t times rising h = omega arith
put-same (suc n) p t [] rising h = absurd (omega arith)
put-same (suc n) p t (a ∷ times) rising h =
    by (nat_lt a p) refl (put-same n p a times rising.1 (omega arith))
  where
    by : (b : Bool) → nat_lt a p ≡ b → first n (put p times) ≤ first n times
        → first (suc n) (cond b (a ∷ put p times) (p ∷ a ∷ times)) ≤ a + first n times
    by true e more = omega (arith, more)
    by false e more =
        first-shift n p a (a ∷ times) (ltb-false a p e) (omega arith, rising.1) (omega arith)

-- ---- without the last

pub last-length : (times : List ℕ) → length (without_last times) ≡ length times - 1
last-length [] = refl
last-length (a ∷ []) = refl
last-length (a ∷ b ∷ times) = omega (arith, last-length (b ∷ times))

pub last-rising : (t : ℕ) (times : List ℕ) → Rising t times → Rising t (without_last times)
last-rising t [] rising = tt
last-rising t (a ∷ []) rising = tt
last-rising t (a ∷ b ∷ times) rising = (rising.0, last-rising a (b ∷ times) rising.1)

pub last-first : (n : ℕ) (times : List ℕ) → n < length times
    → first n (without_last times) ≡ first n times
last-first zero times h = refl
last-first (suc n) [] h = absurd (omega arith)
last-first (suc n) (a ∷ []) h = absurd (omega arith)
last-first (suc n) (a ∷ b ∷ times) h = omega (arith, last-first n (b ∷ times) (omega arith))

-- n elements that come to w stay where they have room, if they are all
pub within_room-keeps : (n w room : ℕ) (times : List ℕ) → Rising 0 times → n ≤ length times
    → first n times ≤ w → (n ≡ length times → w ≤ room)
    → Rising 0 (within_room room times) × (n ≤ length (within_room room times))
    × (first n (within_room room times) ≤ w)
within_room-keeps n w room times rising few small fits = by (nat_lt room (sum times)) refl
  where
    by : (b : Bool) → nat_lt room (sum times) ≡ b
        → Rising 0 (cond b (without_last times) times)
        × (n ≤ length (cond b (without_last times) times))
        × (first n (cond b (without_last times) times) ≤ w)
    by false e = (rising, few, small)
    by true e =
        let less : n < length times = below (n) (length times) few
        (λ all. omega (arith, fits all, over all, ltb-true room (sum times) e)) in (
          last-rising 0 times rising,
          omega (arith, last-length times),
          omega (arith, last-first n times less),
        )
      where
        below : (a c : ℕ) → a ≤ c → (a ≡ c → ⊥) → a < c
        below a c le differ = omega (arith, differ)

        over : n ≡ length times → sum times ≤ w
        over all = omega (arith, first-all times, small, ap (λ x. first x times) all)
