-- Numbers that pass a test have no gap where they are as many as the distance from the first to the
-- last.
use Rattle.std.proofs.Common.{◌≡◌, ℕ, zero, suc, ◌+◌, ◌-◌, ◌<◌, ◌≤◌, Bool, true, false, cond, refl, sym, ap, ◌∙◌, arith, inl, inr}
use Rattle.std.specs.List.{count_by, range_with_len}
use Rattle.std.proofs.lemmas.List.Sums.{sum_by-cons}
use Rattle.std.proofs.lemmas.Bool.{cases_lt}

one_at_most : (b : Bool) → cond b 1 0 ≤ 1
one_at_most true = omega arith
one_at_most false = omega arith

-- at most all numbers of a range pass
count_le : (f : ℕ → Bool) (a n : ℕ) → count_by f (range_with_len a n) ≤ n
count_le f a zero = omega arith
count_le f a (suc n) =
    omega (
      arith,
      sum_by-cons (λ t. cond (f t) 1 0) a (range_with_len (a + 1) n),
      one_at_most (f a),
      count_le f (a + 1) n,
    )

all_step : (b : Bool) (rest n : ℕ) → cond b 1 0 + rest ≡ suc n → rest ≤ n → (b ≡ true) × (rest ≡ n)
all_step true rest n e le = (refl, omega arith)
all_step false rest n e le = absurd (omega arith)

-- where all numbers of a range are counted, each passes
pub counted_all : (f : ℕ → Bool) (a n : ℕ) → count_by f (range_with_len a n) ≡ n → (t : ℕ) → a ≤ t
    → t < a + n → f t ≡ true
counted_all f a zero e t low high = absurd (omega arith)
counted_all f a (suc n) e t low high =
    let both = all_step (f a) (count_by f (range_with_len (a + 1) n)) n
    (sym (sum_by-cons (λ x. cond (f x) 1 0) a (range_with_len (a + 1) n)) ∙ e)
    (count_le f (a + 1) n) in
    elim (cases_lt a t) [
      | inl less ↦ counted_all f (a + 1) n both.1 t (omega arith) (omega arith)
      | inr le ↦ let same : a ≡ t = omega arith in ap f (sym same) ∙ both.0
    ]

count_test : (b : Bool) → b ≡ true → ◌≡◌ {A = ℕ} (cond b 1 0) 1
count_test true e = refl
count_test false e = absurd (cc)

-- and the other way
pub all_counted : (f : ℕ → Bool) (a n : ℕ) → ((t : ℕ) → a ≤ t → t < a + n → f t ≡ true)
    → count_by f (range_with_len a n) ≡ n
all_counted f a zero all = refl
all_counted f a (suc n) all =
    omega (
      arith,
      sum_by-cons (λ t. cond (f t) 1 0) a (range_with_len (a + 1) n),
      count_test (f a) (all a (omega arith) (omega arith)),
      all_counted f (a + 1) n (λ t low high. all t (omega arith) (omega arith)),
    )

-- a count over a range is one over its parts
pub count_parts : (f : ℕ → Bool) (a m n : ℕ)
    → count_by f (range_with_len a (m + n)) ≡ count_by f (range_with_len a m)
    + count_by f (range_with_len (a + m) n)
count_parts f a zero n =
    let same : zero + n ≡ n = omega arith in
    let here : a + zero ≡ a = omega arith in
    let left : count_by f (range_with_len a (zero + n)) ≡ count_by f (range_with_len a n) =
    ap (λ k. count_by f (range_with_len a k)) same in
    let right : count_by f (range_with_len (a + zero) n) ≡ count_by f (range_with_len a n) =
    ap (λ k. count_by f (range_with_len k n)) here in
    omega (arith, left, right)
count_parts f a (suc m) n =
    let split : suc m + n ≡ suc (m + n) = omega arith in
    let next : a + 1 + m ≡ a + suc m = omega arith in
    let moved : count_by f (range_with_len (a + 1 + m) n)
    ≡ count_by f (range_with_len (a + suc m) n) =
    ap (λ k. count_by f (range_with_len k n)) next in
    let whole : count_by f (range_with_len a (suc m + n))
    ≡ count_by f (range_with_len a (suc (m + n))) =
    ap (λ k. count_by f (range_with_len a k)) split in
    omega (
      arith,
      whole,
      moved,
      sum_by-cons (λ t. cond (f t) 1 0) a (range_with_len (a + 1) (m + n)),
      sum_by-cons (λ t. cond (f t) 1 0) a (range_with_len (a + 1) m),
      count_parts f (a + 1) m n,
    )

none_step : (b : Bool) → b ≡ false → ◌≡◌ {A = ℕ} (cond b 1 0) 0
none_step true e = absurd (cc)
none_step false e = refl

pub none_counted : (f : ℕ → Bool) (a n : ℕ) → ((t : ℕ) → a ≤ t → t < a + n → f t ≡ false)
    → count_by f (range_with_len a n) ≡ 0
none_counted f a zero none = refl
none_counted f a (suc n) none =
    omega (
      arith,
      sum_by-cons (λ t. cond (f t) 1 0) a (range_with_len (a + 1) n),
      none_step (f a) (none a (omega arith) (omega arith)),
      none_counted f (a + 1) n (λ t low high. none t (omega arith) (omega arith)),
    )

-- what passes lies in [low, high), of numbers below n: then the count below n is that of [low,
-- high)
module _ (f : ℕ → Bool) (low high n : ℕ) (order : low ≤ high) (within : high ≤ n)
    (bounded : (t : ℕ) → f t ≡ true → (low ≤ t) × (t < high)) where
  outside : (t : ℕ) (b : Bool) → f t ≡ b → (low ≤ t → t < high → ⊥) → f t ≡ false
  outside t true e away = let inside = bounded t e in absurd (away inside.0 inside.1)
  outside t false e away = e

  pub count_within : count_by f (range_with_len 0 n) ≡ count_by f (range_with_len low (high - low))
  count_within =
      let before =
      none_counted f 0 low (λ t from below. outside t (f t) refl (λ le lt. omega arith)) in
      let after = none_counted f high (n - high)
      (λ t from below. outside t (f t) refl (λ le lt. omega arith)) in
      let cut : n ≡ low + ((high - low) + (n - high)) = omega arith in
      let start : 0 + low ≡ low = omega arith in
      let stop : low + (high - low) ≡ high = omega arith in
      let whole : count_by f (range_with_len 0 n)
      ≡ count_by f (range_with_len 0 (low + ((high - low) + (n - high)))) =
      ap (λ k. count_by f (range_with_len 0 k)) cut in
      let middle : count_by f (range_with_len (0 + low) ((high - low) + (n - high)))
      ≡ count_by f (range_with_len low ((high - low) + (n - high))) =
      ap (λ k. count_by f (range_with_len k ((high - low) + (n - high)))) start in
      let last : count_by f (range_with_len (low + (high - low)) (n - high))
      ≡ count_by f (range_with_len high (n - high)) =
      ap (λ k. count_by f (range_with_len k (n - high))) stop in
      omega (
        arith,
        whole,
        middle,
        last,
        before,
        after,
        count_parts f 0 low ((high - low) + (n - high)),
        count_parts f low (high - low) (n - high),
      )

  -- no gap, exactly where the count is the distance
  pub no_gap_from_count : count_by f (range_with_len 0 n) ≡ high - low → (s t u : ℕ) → s ≤ t → t ≤ u
      → f s ≡ true → f u ≡ true → f t ≡ true
  no_gap_from_count full s t u le le' at_s at_u =
      let first = bounded s at_s in
      let last = bounded u at_u in
      counted_all f low (high - low) (sym count_within ∙ full) t (omega (arith, first.0))
      (omega (arith, last.1))

  pub count_from_no_gap : low < high → f low ≡ true → f (high - 1) ≡ true
      → ((s t u : ℕ) → s ≤ t → t ≤ u → f s ≡ true → f u ≡ true → f t ≡ true)
      → count_by f (range_with_len 0 n) ≡ high - low
  count_from_no_gap some at_low at_high no_gap = count_within
      ∙ all_counted f low (high - low)
      (λ t from below. no_gap low t (high - 1) from (omega arith) at_low at_high)
