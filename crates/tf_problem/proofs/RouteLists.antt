-- Routes: the machines before and behind one of them, and the room that a job's units take.
use Rattle.std.proofs.Common.{◌≡◌, ◌≢◌, Bool, true, false, ℕ, zero, suc, ◌+◌, ◌-◌, ◌≤◌, ◌<◌, List, [], ◌∷◌, ◌==◌, length, slice_index, slice_index_or, cond, refl, sym, ap, ◌∙◌, subst, ⊎_elim, arith, sum_by, All, Contains}
use Rattle.std.specs.List.{AllPairs, range_with_len}
use Rattle.std.proofs.lemmas.Bool.{false≢true, eq-eqb, ne_eqb, eqb-true, cases_eq}
use Rattle.std.proofs.lemmas.List.Kept.{AllPairs-cons}
use Rattle.std.proofs.lemmas.List.Sums.{sum_by-cons, sum_by-le}
use Rattle.std.proofs.lemmas.List.Elements.{All-cons, All-nil, All-head, All-tail}
use Rattle.std.proofs.lemmas.List.FromFn.{length-range_with_len, get_or-range_with_len}
use Rattle.tf_model.specs.Timetable.{Row, Timetable, cells_of, units}
use Rattle.tf_model.proofs.Sums.{sum_by-swap}
use Rattle.tf_problem.specs.ProblemBounds.{before, behind}

abbrev as_one : Bool → ℕ
as_one t = cond t 1 0

-- ---- pairs of a list

pub AllPairs-first : {X : Type 0} (R : X → X → Type 0) (x : X) (xs : List X) → AllPairs R (x ∷ xs)
    → All (R x) xs
AllPairs-first R x xs all i d h = all 0 (suc i) d (omega arith) (omega arith)

pub AllPairs-rest : {X : Type 0} (R : X → X → Type 0) (x : X) (xs : List X) → AllPairs R (x ∷ xs)
    → AllPairs R xs
AllPairs-rest R x xs all i j d lt h = all (suc i) (suc j) d (omega arith) (omega arith)

-- ---- a row

one_cell : (j : ℕ) → 1 ≤ j → (row : Row) (a : ℕ) → slice_index row a ≡ j → 1 ≤ cells_of j row
one_cell j some [] a p = absurd (omega arith)
one_cell j some (c ∷ row) zero p =
    omega (arith, sum_by-cons (λ x. cond (x == j) 1 0) c row, ap as_one (eq-eqb c j p))
one_cell j some (c ∷ row) (suc a) p =
    omega (arith, sum_by-cons (λ x. cond (x == j) 1 0) c row, one_cell j some row a p)

-- two cells with a job are two
two_apart : (j : ℕ) → 1 ≤ j → (row : Row) (a b : ℕ) → a ≢ b → slice_index row a ≡ j
    → slice_index row b ≡ j → 2 ≤ cells_of j row
two_apart j some [] a b ne p q = absurd (omega arith)
two_apart j some (c ∷ row) zero zero ne p q = absurd (ne refl)
two_apart j some (c ∷ row) zero (suc b) ne p q =
    omega (
      arith,
      sum_by-cons (λ x. cond (x == j) 1 0) c row,
      ap as_one (eq-eqb c j p),
      one_cell j some row b q,
    )
two_apart j some (c ∷ row) (suc a) zero ne p q =
    omega (
      arith,
      sum_by-cons (λ x. cond (x == j) 1 0) c row,
      ap as_one (eq-eqb c j q),
      one_cell j some row a p,
    )
two_apart j some (c ∷ row) (suc a) (suc b) ne p q =
    omega (
      arith,
      sum_by-cons (λ x. cond (x == j) 1 0) c row,
      two_apart j some row a b (λ e. ne (ap suc e)) p q,
    )

none_on : (j : ℕ) (row : Row) (route : List ℕ) → All (λ i. slice_index row i ≢ j) route
    → sum_by (λ i. cond (slice_index row i == j) 1 0) route ≡ 0
none_on j row [] none = refl
none_on j row (a ∷ route) none =
    omega (
      arith,
      sum_by-cons (λ i. cond (slice_index row i == j) 1 0) a route,
      ap as_one (ne_eqb (slice_index row a) j (All-head (λ i. slice_index row i ≢ j) a route none)),
      none_on j row route (All-tail (λ i. slice_index row i ≢ j) a route none),
    )

-- a job that is in one cell at most is on one machine of a route at most
one_on : (j : ℕ) → 1 ≤ j → (row : Row) → cells_of j row ≤ 1 → (route : List ℕ)
    → AllPairs (λ a b. a ≢ b) route
    → sum_by (λ i. cond (slice_index row i == j) 1 0) route ≤ 1
one_on j some row once [] apart = omega arith
one_on j some row once (a ∷ route) apart =
    ⊎_elim
    (λ same.
    let others : All (λ i. slice_index row i ≢ j) route =
    λ n d h e. absurd
    (omega (
      arith,
      once,
      two_apart j some row a (slice_index_or route n d)
          (AllPairs-first (λ a b. a ≢ b) a route apart n d h) same e,
    )) in
    omega (
      arith,
      sum_by-cons (λ i. cond (slice_index row i == j) 1 0) a route,
      ap as_one (eq-eqb (slice_index row a) j same),
      none_on j row route others,
    ))
    (λ differ.
    omega (
      arith,
      sum_by-cons (λ i. cond (slice_index row i == j) 1 0) a route,
      ap as_one (ne_eqb (slice_index row a) j differ),
      one_on j some row once route (AllPairs-rest (λ a b. a ≢ b) a route apart),
    ))
    (cases_eq (slice_index row a) j)

-- the units of a job on the machines of a route take a row each
pub units_on_route : (rows : Timetable) (j : ℕ) → 1 ≤ j → All (λ row. cells_of j row ≤ 1) rows
    → (route : List ℕ) → AllPairs (λ a b. a ≢ b) route
    → sum_by (units rows j) route ≤ length rows
units_on_route rows j some once route apart =
    omega (
      arith,
      sum_by-swap (λ i row. cond (slice_index row i == j) 1 0) route rows,
      sum_by-le (λ row. sum_by (λ i. cond (slice_index row i == j) 1 0) route) 1 rows
          (λ t d h. one_on j some (slice_index_or rows t d) (once t d h) route apart),
    )

-- ---- before and behind

Contains-rest : (a b : ℕ) (route : List ℕ) → b ≢ a → Contains (b ∷ route) a → Contains route a
Contains-rest a b route ne at = shift at.0 at.1 at.2
  where
    shift : (i : ℕ) → i < length (b ∷ route) → slice_index_or (b ∷ route) i a ≡ a → Contains route a
    shift zero h e = absurd (ne e)
    shift (suc i) h e = (i, omega arith, e)

-- what is before a machine of the route is in the relation to it
pub before-says : (R : ℕ → ℕ → Type 0) (a : ℕ) (route : List ℕ) → AllPairs R route
    → Contains route a → All (λ i. R i a) (before a route)
before-says R a [] all at = All-nil (λ i. R i a)
before-says R a (b ∷ route) all at =
    by (b == a) refl
    (λ ne. before-says R a route (AllPairs-rest R b route all) (Contains-rest a b route ne at))
  where
    by : (t : Bool) → (b == a) ≡ t → (b ≢ a → All (λ i. R i a) (before a route))
        → All (λ i. R i a) (cond t [] (b ∷ before a route))
    by true e rest = All-nil (λ i. R i a)
    by false e rest =
        let ne : b ≢ a = λ same. absurd (false≢true (sym e ∙ eq-eqb b a same)) in
        let there = Contains-rest a b route ne at in
        let first : R b a =
        subst (R b) there.2
        (AllPairs-first R b route all there.0 a there.1) in
        All-cons (λ i. R i a) b (before a route) first (rest ne)

pub behind-says : (R : ℕ → ℕ → Type 0) (a : ℕ) (route : List ℕ) → AllPairs R route
    → All (R a) (behind a route)
behind-says R a [] all = All-nil (R a)
behind-says R a (b ∷ route) all =
    by (b == a) refl (behind-says R a route (AllPairs-rest R b route all))
  where
    by : (t : Bool) → (b == a) ≡ t → All (R a) (behind a route)
        → All (R a) (cond t route (behind a route))
    by true e rest = subst (λ x. All (R x) route) (eqb-true b a e) (AllPairs-first R b route all)
    by false e rest = rest

-- what holds along a route holds before a machine, and behind it
pub All-before : (P : ℕ → Type 0) (a : ℕ) (route : List ℕ) → All P route → All P (before a route)
All-before P a [] all = All-nil P
All-before P a (b ∷ route) all =
    by (b == a) (All-before P a route (All-tail P b route all))
  where
    by : (t : Bool) → All P (before a route) → All P (cond t [] (b ∷ before a route))
    by true rest = All-nil P
    by false rest = All-cons P b (before a route) (All-head P b route all) rest

pub All-behind : (P : ℕ → Type 0) (a : ℕ) (route : List ℕ) → All P route → All P (behind a route)
All-behind P a [] all = All-nil P
All-behind P a (b ∷ route) all =
    by (b == a) (All-behind P a route (All-tail P b route all))
  where
    by : (t : Bool) → All P (behind a route) → All P (cond t route (behind a route))
    by true rest = All-tail P b route all
    by false rest = rest

pub AllPairs-before : (R : ℕ → ℕ → Type 0) (a : ℕ) (route : List ℕ) → AllPairs R route
    → AllPairs R (before a route)
AllPairs-before R a [] all = all
AllPairs-before R a (b ∷ route) all =
    by (b == a) (AllPairs-before R a route (AllPairs-rest R b route all))
  where
    by : (t : Bool) → AllPairs R (before a route) → AllPairs R (cond t [] (b ∷ before a route))
    by true rest = λ i j d lt h. absurd (omega arith)
    by false rest =
        AllPairs-cons R b (before a route)
        (All-before (R b) a route (AllPairs-first R b route all)) rest

pub AllPairs-behind : (R : ℕ → ℕ → Type 0) (a : ℕ) (route : List ℕ) → AllPairs R route
    → AllPairs R (behind a route)
AllPairs-behind R a [] all = all
AllPairs-behind R a (b ∷ route) all =
    by (b == a) (AllPairs-behind R a route (AllPairs-rest R b route all))
  where
    by : (t : Bool) → AllPairs R (behind a route) → AllPairs R (cond t route (behind a route))
    by true rest = AllPairs-rest R b route all
    by false rest = rest

-- both are no more than the whole route
pub sum_by-before-behind : (f : ℕ → ℕ) (a : ℕ) (route : List ℕ)
    → sum_by f (before a route) + sum_by f (behind a route) ≤ sum_by f route
sum_by-before-behind f a [] = omega arith
sum_by-before-behind f a (b ∷ route) = by (b == a) (sum_by-before-behind f a route)
  where
    by : (t : Bool) → sum_by f (before a route) + sum_by f (behind a route) ≤ sum_by f route
        → sum_by f (cond t [] (b ∷ before a route)) + sum_by f (cond t route (behind a route))
        ≤ sum_by f (b ∷ route)
    by true rest = omega (arith, sum_by-cons f b route)
    by false rest = omega (arith, sum_by-cons f b route, sum_by-cons f b (before a route))

-- ---- the machines of a flow shop

pub range-apart : (a n : ℕ) → AllPairs (λ i j. i ≢ j) (range_with_len a n)
range-apart a n i j d lt h e =
    absurd
    (omega (
      arith,
      length-range_with_len a n,
      e,
      get_or-range_with_len a n i d (omega (arith, length-range_with_len a n)),
      get_or-range_with_len a n j d (omega (arith, length-range_with_len a n)),
    ))

pub range-below : (n : ℕ) → All (λ a. a < n) (range_with_len 0 n)
range-below n i d h =
    omega (
      arith,
      h,
      length-range_with_len 0 n,
      get_or-range_with_len 0 n i d (omega (arith, length-range_with_len 0 n)),
    )

pub Contains-range : (n a : ℕ) → a < n → Contains (range_with_len 0 n) a
Contains-range n a lt =
    (a, omega (arith, length-range_with_len 0 n), get_or-range_with_len 0 n a a lt ∙ omega arith)

pub before-range : (a s n : ℕ) → s ≤ a → a < s + n
    → before a (range_with_len s n) ≡ range_with_len s (a - s)
before-range a s zero low high = absurd (omega arith)
before-range a s (suc n) low high =
    ⊎_elim
    (λ same.
    ap (λ t. cond t [] (s ∷ before a (range_with_len (s + 1) n))) (eq-eqb s a same)
    ∙ ap (range_with_len s) (none s a same))
    (λ differ.
    ap (λ t. cond t [] (s ∷ before a (range_with_len (s + 1) n))) (ne_eqb s a differ)
    ∙ ap (λ l. s ∷ l) (before-range a (s + 1) n (omega (arith, differ)) (omega arith))
    ∙ ap (range_with_len s) (more s a (omega (arith, differ))))
    (cases_eq s a)
  where
    none : (s a : ℕ) → s ≡ a → 0 ≡ a - s
    none s a e = omega arith

    more : (s a : ℕ) → s < a → suc (a - (s + 1)) ≡ a - s
    more s a lt = omega arith

pub behind-range : (a s n : ℕ) → s ≤ a → a < s + n
    → behind a (range_with_len s n) ≡ range_with_len (a + 1) (s + n - (a + 1))
behind-range a s zero low high = absurd (omega arith)
behind-range a s (suc n) low high =
    ⊎_elim
    (λ same.
    ap (λ t. cond t (range_with_len (s + 1) n) (behind a (range_with_len (s + 1) n)))
    (eq-eqb s a same)
    ∙ ap (λ x. range_with_len (x + 1) n) same ∙ ap (range_with_len (a + 1)) (rest s a n same))
    (λ differ.
    ap (λ t. cond t (range_with_len (s + 1) n) (behind a (range_with_len (s + 1) n)))
    (ne_eqb s a differ)
    ∙ behind-range a (s + 1) n (omega (arith, differ)) (omega arith)
    ∙ ap (range_with_len (a + 1)) (shift s a n))
    (cases_eq s a)
  where
    rest : (s a n : ℕ) → s ≡ a → n ≡ s + suc n - (a + 1)
    rest s a n e = omega arith

    shift : (s a n : ℕ) → s + 1 + n - (a + 1) ≡ s + suc n - (a + 1)
    shift s a n = omega arith
