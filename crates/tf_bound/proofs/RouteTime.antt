-- The time of a job along its route.
use Rattle.std.proofs.Common.{◌≡◌, ◌≢◌, ◌⊎◌, true, false, ℕ, zero, suc, ◌+◌, ◌-◌, ◌≤◌, ◌<◌, ◌==◌, List, [], ◌∷◌, length, sum, sum_by, take, drop, cond, slice_index, slice_index_or, refl, sym, ap, ◌∙◌, subst, arith, inl, inr, All, Contains}
use Rattle.std.specs.List.{AllPairs, range_with_len}
use Rattle.std.proofs.lemmas.Bool.{cases_eq, cases_lt, eq-eqb, ne_eqb}
use Rattle.std.proofs.lemmas.List.{drop_all, get_or_past, take_all}
use Rattle.std.proofs.lemmas.List.Elements.{All-head, All-tail}
use Rattle.std.proofs.lemmas.List.Sums.{sum_by-cons}
use Rattle.tf_model.proofs.Costs.{sum_by-from}
use Rattle.tf_model.proofs.Sums.{sum_by-same, sum_by-swap, sum_by_le_all}
use Rattle.tf_problem.specs.ProblemBounds.{before, behind}
use Rattle.tf_problem.proofs.RouteLists.{sum_by-before-behind, range-apart}
use Rattle.tf_bound.specs.Route.{IsRouted}

-- a machine stands at a place of a route, and not before
pub walked : (a : ℕ) (route : List ℕ) (p : ℕ) → p ≤ length route
    → ((x : ℕ) → x < p → slice_index route x ≢ a) → (p < length route → slice_index route p ≡ a)
    → (before a route ≡ take p route) × (behind a route ≡ drop (p + 1) route)
walked a [] zero le away at = (refl, refl)
walked a [] (suc p) le away at = absurd (omega arith)
walked a (b ∷ route) zero le away at =
    let here : (b == a) ≡ true = eq-eqb b a (at (omega arith)) in
    (ap (λ t. cond t [] (b ∷ before a route)) here, ap (λ t. cond t route (behind a route)) here)
walked a (b ∷ route) (suc p) le away at =
    let there : (b == a) ≡ false = ne_eqb b a (away 0 (omega arith)) in
    let rest = walked a route p (omega arith) (λ x lt. away (suc x) (omega arith))
    (λ lt. at (omega arith)) in (
      ap (λ t. cond t [] (b ∷ before a route)) there ∙ ap (λ r. b ∷ r) rest.0,
      ap (λ t. cond t route (behind a route)) there ∙ rest.1
          ∙ ap (λ n. drop n (b ∷ route)) (more p),
    )
  where
    more : (p : ℕ) → suc (p + 1) ≡ suc p + 1
    more p = omega arith

-- it stands nowhere
pub walked_past : (a : ℕ) (route : List ℕ) → ((x : ℕ) → x < length route → slice_index route x ≢ a)
    → (before a route ≡ route) × (behind a route ≡ [])
walked_past a route away =
    let parts = walked a route (length route) (omega arith) away (λ lt. absurd (omega arith)) in (
      parts.0 ∙ take_all (length route) route (omega arith),
      parts.1 ∙ drop_all (length route + 1) route (omega arith),
    )

-- ---- a route has no more time than all machines

abbrev pub share : (ℕ → ℕ) → ℕ → ℕ → ℕ
share f a b = cond (b == a) (f a) 0

pub share_same : (f : ℕ → ℕ) (a b : ℕ) → b ≡ a → share f a b ≡ f a
share_same f a b e = ap (λ t. cond t (f a) 0) (eq-eqb b a e)

pub share_other : (f : ℕ → ℕ) (a b : ℕ) → b ≢ a → share f a b ≡ 0
share_other f a b ne = ap (λ t. cond t (f a) 0) (ne_eqb b a ne)

picked : (f : ℕ → ℕ) (b s n : ℕ) → s ≤ b → b < s + n
    → f b ≤ sum_by (λ a. share f a b) (range_with_len s n)
picked f b s zero low high = absurd (omega arith)
picked f b s (suc n) low high = elim (cases_eq b s) [
  | inl same ↦ omega (
    arith,
    sum_by-cons (λ a. share f a b) s (range_with_len (s + 1) n),
    share_same f s b same,
    ap f same,
  )
  | inr other ↦ omega (
    arith,
    sum_by-cons (λ a. share f a b) s (range_with_len (s + 1) n),
    picked f b (s + 1) n (omega (arith, other)) (omega arith),
  )
]

none : (f : ℕ → ℕ) (a : ℕ) (route : List ℕ) → All (λ b. a ≢ b) route
    → sum_by (share f a) route ≡ 0
none f a [] away = refl
none f a (b ∷ route) away =
    omega (
      arith,
      sum_by-cons (share f a) b route,
      share_other f a b (λ e. All-head (λ c. a ≢ c) b route away (sym e)),
      none f a route (All-tail (λ c. a ≢ c) b route away),
    )

once : (f : ℕ → ℕ) (a : ℕ) (route : List ℕ) → AllPairs (λ b c. b ≢ c) route
    → sum_by (share f a) route ≤ f a
once f a [] apart = omega arith
once f a (b ∷ route) apart =
    let rest : AllPairs (λ b c. b ≢ c) route =
    λ i j d lt h. apart (suc i) (suc j) d (omega arith) (omega arith) in
    elim (cases_eq b a) [
      | inl same ↦
          let others : All (λ c. a ≢ c) route =
          λ i d h. subst (λ x. x ≢ slice_index_or route i d) same
          (apart 0 (suc i) d (omega arith) (omega arith)) in
          omega (
            arith,
            sum_by-cons (share f a) b route,
            share_same f a b same,
            none f a route others,
          )
      | inr other ↦ omega (
        arith,
        sum_by-cons (share f a) b route,
        share_other f a b other,
        once f a route rest,
      )
    ]

all_from : (xs : List ℕ) → sum_by (slice_index xs) (range_with_len 0 (length xs)) ≡ sum xs
all_from xs =
    sum_by-same (slice_index xs) (λ i. slice_index xs (i - 0)) (range_with_len 0 (length xs))
    (λ i. ap (slice_index xs) (whole i)) ∙ sum_by-from (λ x. x) 0 0 xs
  where
    whole : (i : ℕ) → i ≡ i - 0
    whole i = omega arith

pub route_small : (times route : List ℕ) → IsRouted (length times) times route
    → sum_by (slice_index times) route ≤ sum times
route_small times route is =
    let f : ℕ → ℕ = slice_index times in
    let all : List ℕ = range_with_len 0 (length times) in
    omega (
      arith,
      sum_by_le_all f (λ b. sum_by (λ a. share f a b) all) route
          (λ i d h. picked f (slice_index_or route i d) 0 (length times) (omega arith)
          (omega (arith, is.of_machines i d h))),
      sum_by-swap (λ b a. share f a b) route all,
      sum_by_le_all (λ a. sum_by (share f a) route) f all (λ i d h. once f (slice_index_or all i d) route is.no_twice),
      all_from times,
    )

pub parts_small : (times route : List ℕ) → IsRouted (length times) times route → (a : ℕ)
    → sum_by (slice_index times) (before a route) + sum_by (slice_index times) (behind a route)
    ≤ sum times
parts_small times route is a =
    omega (
      arith,
      route_small times route is,
      sum_by-before-behind (slice_index times) a route,
    )

-- ---- nor less

there : (f : ℕ → ℕ) (a : ℕ) (route : List ℕ) (i : ℕ) → i < length route
    → slice_index_or route i a ≡ a → f a ≤ sum_by (share f a) route
there f a [] i lt is = absurd (omega arith)
there f a (b ∷ route) zero lt is =
    omega (arith, sum_by-cons (share f a) b route, share_same f a b is)
there f a (b ∷ route) (suc i) lt is =
    omega (arith, sum_by-cons (share f a) b route, there f a route i (omega arith) is)

-- of machines that differ, one at most is that of the route
one_of : (f : ℕ → ℕ) (b : ℕ) (all : List ℕ) → AllPairs (λ a c. a ≢ c) all
    → sum_by (λ a. share f a b) all ≤ f b
one_of f b all apart =
    omega (
      arith,
      sum_by-same (λ a. share f a b) (share f b) all (λ a. swapped a (cases_eq b a)),
      once f b all apart,
    )
  where
    swapped : (a : ℕ) → (b ≡ a) ⊎ (b ≢ a) → share f a b ≡ share f b a
    swapped a (inl same) = share_same f a b same ∙ ap f (sym same) ∙ sym (share_same f b a (sym same))
    swapped a (inr other) = share_other f a b other ∙ sym (share_other f b a (λ e. other (sym e)))

-- a route has the time on each machine
pub each_time : (times route : List ℕ) → IsRouted (length times) times route → (i : ℕ)
    → sum_by (share (slice_index times) i) route ≡ slice_index times i
each_time times route is i = elim (cases_lt 0 (slice_index times i)) [
  | inl some ↦
      let at : Contains route i = is.has_all i (inside i some) some in
      omega (
        arith,
        there (slice_index times) i route at.0 at.1 at.2,
        once (slice_index times) i route is.no_twice,
      )
  | inr none' ↦ omega (arith, none', once (slice_index times) i route is.no_twice)
]
  where
    inside : (i : ℕ) → 0 < slice_index times i → i < length times
    inside i some = elim (cases_lt i (length times)) [
      | inl lt ↦ lt
      | inr past ↦ absurd (omega (arith, some, get_or_past times i 0 past))
    ]

-- and all the time
pub whole_time : (times route : List ℕ) → IsRouted (length times) times route
    → sum_by (slice_index times) route ≡ sum times
whole_time times route is =
    let f : ℕ → ℕ = slice_index times in
    let all : List ℕ = range_with_len 0 (length times) in
    omega (
      arith,
      route_small times route is,
      all_from times,
      sum_by_le_all f (λ a. sum_by (share f a) route) all
          (λ i d h. same (each_time times route is (slice_index_or all i d))),
      sum_by-swap (λ a b. share f a b) all route,
      sum_by_le_all (λ b. sum_by (λ a. share f a b) all) f route
          (λ i d h. one_of f (slice_index_or route i d) all (range-apart 0 (length times))),
    )
  where
    same : {a b : ℕ} → a ≡ b → b ≤ a
    same e = omega (arith, e)
