-- When a job is busy, and the work, the first start and the last stop of its pieces.
use Rattle.std.proofs.Common.{◌≡◌, ℕ, zero, suc, ◌+◌, ◌-◌, ◌<◌, ◌≤◌, max, min, Bool, true, false, cond, ltb, eqb, List, [], ◌∷◌, length, get_or, refl, sym, ap, subst, ◌∙◌, arith, inl, inr}
use Rattle.std.specs.List.{All, Any, count_by, range_with_len}
use Rattle.std.proofs.lemmas.List.Elements.{All-tail}
use Rattle.std.proofs.lemmas.List.Sums.{sum_by-cons, get_or-le-sum_by}
use Rattle.std.proofs.lemmas.Bool.{cases_lt}
use Rattle.std.proofs.lemmas.Bool.Decides.{nat_tests}
use Rattle.tf_schedule.specs.declared.piece.Piece.{Piece}
use Rattle.tf_schedule.specs.Claims.{runs, places}
use Rattle.tf_schedule.specs.Schedule.{IsPiece}
use Rattle.tf_schedule.specs.Drawing.{greatest_stop, stop_of}
use Rattle.tf_schedule.specs.Amounts.{work, greatest_by, least_by, start_of}
use Rattle.tf_schedule.proofs.Times.{sound_times, time_le}
use Rattle.tf_schedule.proofs.Counting.{sum_by-same, sum_by-none}
use Rattle.tf_schedule.proofs.Drawing.{sum_places, last_stop_le}
use Rattle.tf_schedule.proofs.Unbroken.{no_gap_from_count, count_from_no_gap}
use Rattle.tf_model.specs.Limit.{limit}

-- ---- elements that pass a test

pub counted_some : {X : Type 0} (q : X → Bool) (xs : List X) (k : ℕ) (d : X) → k < length xs
    → q (get_or xs k d) ≡ true → 0 < count_by q xs
counted_some q xs k d h e =
    omega (
      arith,
      ap {B = ℕ} (λ (b : Bool). cond b 1 0) e,
      get_or-le-sum_by (λ x. cond (q x) 1 0) xs k d h,
    )

some_step : {X : Type 0} (q : X → Bool) (x : X) (xs : List X) (b : Bool) (n : ℕ) → q x ≡ b
    → n ≡ cond b 1 0 + count_by q xs → 0 < n → (0 < count_by q xs → Any (λ y. q y ≡ true) xs)
    → Any (λ y. q y ≡ true) (x ∷ xs)
some_step q x xs true n e more some rest = (0, x, omega arith, refl, e)
some_step q x xs false n e more some rest = let r = rest (omega arith) in
    (suc r.0, r.1, omega (arith, r.2), r.3, r.4)

pub some_counted : {X : Type 0} (q : X → Bool) (xs : List X) → 0 < count_by q xs
    → Any (λ x. q x ≡ true) xs
some_counted q [] h = absurd (omega arith)
some_counted q (x ∷ xs) h =
    some_step q x xs (q x) (count_by q (x ∷ xs)) refl (sum_by-cons (λ y. cond (q y) 1 0) x xs) h
    (some_counted q xs)

-- ---- the greatest and the least

greatest_ge_step : (b : Bool) (x g v : ℕ) → v ≤ g → v ≤ cond b (max x g) g
greatest_ge_step true x g v h = omega arith
greatest_ge_step false x g v h = h

pub greatest_ge : (f : Piece → ℕ) (ps : List Piece) (j k : ℕ) (d : Piece) → k < length ps
    → (get_or ps k d).job ≡ j → f (get_or ps k d) ≤ greatest_by f ps j
greatest_ge f [] j k d h own = absurd (omega arith)
greatest_ge f (p ∷ ps) j zero d h own = let test : eqb p.job j ≡ true = grind (arith, nat_tests) in
    subst (λ b. f p ≤ cond b (max (f p) (greatest_by f ps j)) (greatest_by f ps j)) (sym test)
    (omega arith)
greatest_ge f (p ∷ ps) j (suc k) d h own =
    greatest_ge_step (eqb p.job j) (f p) (greatest_by f ps j) (f (get_or ps k d))
    (greatest_ge f ps j k d (omega arith) own)

pub greatest_le : (f : Piece → ℕ) (ps : List Piece) (j v : ℕ) → All (λ p. f p ≤ v) ps
    → greatest_by f ps j ≤ v
greatest_le f [] j v h = omega arith
greatest_le f (p ∷ ps) j v h =
    step (eqb p.job j) (h 0 p (omega arith)) (greatest_le f ps j v (All-tail (λ q. f q ≤ v) p ps h))
  where
    step : (b : Bool) → f p ≤ v → greatest_by f ps j ≤ v
        → cond b (max (f p) (greatest_by f ps j)) (greatest_by f ps j) ≤ v
    step true here rest = omega arith
    step false here rest = rest

greatest_step : (f : Piece → ℕ) (j : ℕ) (p : Piece) (ps : List Piece) (b : Bool) → eqb p.job j ≡ b
    → 0 < cond b (max (f p) (greatest_by f ps j)) (greatest_by f ps j)
    → (0 < greatest_by f ps j → Any (λ q. (q.job ≡ j) × (f q ≡ greatest_by f ps j)) ps)
    → Any (λ q. (q.job ≡ j)
    × (f q ≡ cond b (max (f p) (greatest_by f ps j)) (greatest_by f ps j))) (p ∷ ps)
greatest_step f j p ps true e some rest = elim (cases_lt (f p) (greatest_by f ps j)) [
  | inl less ↦
      let r = rest (omega arith) in
      let same : f r.1 ≡ max (f p) (greatest_by f ps j) = omega (arith, r.4.1, less) in
      (suc r.0, r.1, omega (arith, r.2), r.3, (r.4.0, same))
  | inr le ↦ (0, p, omega arith, refl, (grind (arith, nat_tests), omega arith))
]
greatest_step f j p ps false e some rest = let r = rest some in
    (suc r.0, r.1, omega (arith, r.2), r.3, r.4)

pub greatest_reached : (f : Piece → ℕ) (ps : List Piece) (j : ℕ) → 0 < greatest_by f ps j
    → Any (λ q. (q.job ≡ j) × (f q ≡ greatest_by f ps j)) ps
greatest_reached f [] j some = absurd (omega arith)
greatest_reached f (p ∷ ps) j some =
    greatest_step f j p ps (eqb p.job j) refl some (greatest_reached f ps j)

pub least_le : (f : Piece → ℕ) (ps : List Piece) (j k : ℕ) (d : Piece) → k < length ps
    → (get_or ps k d).job ≡ j → least_by f ps j ≤ f (get_or ps k d)
least_le f [] j k d h own = absurd (omega arith)
least_le f (p ∷ ps) j zero d h own = let test : eqb p.job j ≡ true = grind (arith, nat_tests) in
    subst (λ b. cond b (min (f p) (least_by f ps j)) (least_by f ps j) ≤ f p) (sym test)
    (omega arith)
least_le f (p ∷ ps) j (suc k) d h own = step (eqb p.job j) (least_le f ps j k d (omega arith) own)
  where
    step : (b : Bool) → least_by f ps j ≤ f (get_or ps k d)
        → cond b (min (f p) (least_by f ps j)) (least_by f ps j) ≤ f (get_or ps k d)
    step true le = omega arith
    step false le = le

least_step : (f : Piece → ℕ) (j : ℕ) (p : Piece) (ps : List Piece) (b : Bool) → eqb p.job j ≡ b
    → cond b (min (f p) (least_by f ps j)) (least_by f ps j) < limit
    → (least_by f ps j < limit → Any (λ q. (q.job ≡ j) × (f q ≡ least_by f ps j)) ps)
    → Any (λ q. (q.job ≡ j) × (f q ≡ cond b (min (f p) (least_by f ps j)) (least_by f ps j)))
    (p ∷ ps)
least_step f j p ps true e some rest = elim (cases_lt (least_by f ps j) (f p)) [
  | inl less ↦
      let r = rest (omega arith) in
      let same : f r.1 ≡ min (f p) (least_by f ps j) = omega (arith, r.4.1, less) in
      (suc r.0, r.1, omega (arith, r.2), r.3, (r.4.0, same))
  | inr le ↦ (0, p, omega arith, refl, (grind (arith, nat_tests), omega arith))
]
least_step f j p ps false e some rest = let r = rest some in
    (suc r.0, r.1, omega (arith, r.2), r.3, r.4)

pub least_reached : (f : Piece → ℕ) (ps : List Piece) (j : ℕ) → least_by f ps j < limit
    → Any (λ q. (q.job ≡ j) × (f q ≡ least_by f ps j)) ps
least_reached f [] j some = absurd (omega arith)
least_reached f (p ∷ ps) j some = least_step f j p ps (eqb p.job j) refl some (least_reached f ps j)

-- ---- when a job is busy

-- some piece of the job is going
abbrev pub IsBusy : List Piece → ℕ → ℕ → Type 0
IsBusy ps j t = 0 < places ps j t

-- the piece is of the job, and going
pub record Works (j t : ℕ) (p : Piece) : Type 0 where
  pub job : p.job ≡ j
  pub started : start_of p ≤ t
  pub going : t < stop_of p

pub works_from_test : (j t : ℕ) (p : Piece) → runs j t p ≡ true → Works j t p
works_from_test j t p h =
    record {
      job = grind (arith, nat_tests);
      started = grind (arith, nat_tests);
      going = grind (arith, nat_tests);
    }

pub test_from_works : (j t : ℕ) (p : Piece) → Works j t p → runs j t p ≡ true
test_from_works j t p w = grind (arith, nat_tests)

pub busy_piece : (ps : List Piece) (j t : ℕ) → IsBusy ps j t → Any (Works j t) ps
busy_piece ps j t busy = let r = some_counted (runs j t) ps busy in
    (r.0, r.1, r.2, r.3, works_from_test j t r.1 r.4)

pub piece_busy : (ps : List Piece) (j t : ℕ) → Any (Works j t) ps → IsBusy ps j t
piece_busy ps j t (k, p, h, read, works) =
    counted_some (runs j t) ps k p h
    (subst (λ q. runs j t q ≡ true) (sym read) (test_from_works j t p works))

module _ (ps : List Piece) (sound : All IsPiece ps) (j : ℕ) where
  low : ℕ
  low = least_by start_of ps j

  high : ℕ
  high = greatest_by stop_of ps j

  -- from the first start to the last stop
  pub busy_within : (t : ℕ) → IsBusy ps j t
      → (least_by start_of ps j ≤ t) × (t < greatest_by stop_of ps j)
  busy_within t busy =
      let piece = busy_piece ps j t busy in
      let own : (get_or ps piece.0 piece.1).job ≡ j = ap (λ (p : Piece). p.job) piece.3
      ∙ piece.4.job in
      let first : least_by start_of ps j ≤ start_of piece.1 =
      subst (λ (p : Piece). least_by start_of ps j ≤ start_of p) piece.3
      (least_le start_of ps j piece.0 piece.1 piece.2 own) in
      let last : stop_of piece.1 ≤ greatest_by stop_of ps j =
      subst (λ (p : Piece). stop_of p ≤ greatest_by stop_of ps j) piece.3
      (greatest_ge stop_of ps j piece.0 piece.1 piece.2 own) in
      (omega (arith, piece.4.started), omega (arith, piece.4.going))

  full : (k : ℕ) (p : Piece) → k < length ps → get_or ps k p ≡ p → start_of p < stop_of p
  full k p h read = sound_times p (subst IsPiece read (sound k p h))

  pub busy_at_stop : 0 < greatest_by stop_of ps j → IsBusy ps j (greatest_by stop_of ps j - 1)
  busy_at_stop some =
      let piece = greatest_reached stop_of ps j some in
      let long = full piece.0 piece.1 piece.2 piece.3 in
      piece_busy ps j (greatest_by stop_of ps j - 1) (
        piece.0,
        piece.1,
        piece.2,
        piece.3,
        record {
          job = piece.4.0;
          started = omega (arith, piece.4.1, long);
          going = omega (arith, piece.4.1, some);
        },
      )

  pub busy_at_start : least_by start_of ps j < limit → IsBusy ps j (least_by start_of ps j)
  busy_at_start some =
      let piece = least_reached start_of ps j some in
      let long = full piece.0 piece.1 piece.2 piece.3 in
      piece_busy ps j (least_by start_of ps j) (
        piece.0,
        piece.1,
        piece.2,
        piece.3,
        record {
          job = piece.4.0;
          started = omega (arith, piece.4.1);
          going = omega (arith, piece.4.1, long);
        },
      )

  pub stop_within : greatest_by stop_of ps j ≤ limit
  stop_within =
      greatest_le stop_of ps j limit (λ k d h. time_le (get_or ps k d).stop _ (sound k d h).0.1)

  -- a job that stops has started before
  pub start_before_stop : 0 < greatest_by stop_of ps j
      → least_by start_of ps j < greatest_by stop_of ps j
  start_before_stop some = let within =
      busy_within (greatest_by stop_of ps j - 1) (busy_at_stop some) in
      omega (arith, within.0, within.1)

  -- ---- no gap
  is_busy : ℕ → Bool
  is_busy t = ltb 0 (places ps j t)

  busy_from_test : (t : ℕ) → is_busy t ≡ true → IsBusy ps j t
  unfolding is_busy
  busy_from_test t h = grind (arith, nat_tests)

  test_from_busy : (t : ℕ) → IsBusy ps j t → is_busy t ≡ true
  unfolding is_busy
  test_from_busy t h = grind (arith, nat_tests)

  module _ (once : (t : ℕ) → places ps j t ≤ 1) where
    one_place : (n : ℕ) → n ≤ 1 → cond (ltb 0 n) 1 0 ≡ n
    one_place zero h = refl
    one_place (suc zero) h = refl
    one_place (suc (suc n)) h = absurd (omega arith)

    work_counted : count_by is_busy (range_with_len 0 (greatest_stop ps)) ≡ work ps j
    unfolding is_busy
    work_counted =
        sum_by-same (λ t. cond (is_busy t) 1 0) (places ps j)
        (λ t. one_place (places ps j t) (once t)) (range_with_len 0 (greatest_stop ps))
        ∙ sum_places ps j (greatest_stop ps) (omega arith)

    pub no_gap_from_extent : greatest_by stop_of ps j - least_by start_of ps j ≡ work ps j
        → (s t u : ℕ) → s ≤ t → t ≤ u → IsBusy ps j s → IsBusy ps j u → IsBusy ps j t
    no_gap_from_extent solid s t u le le' at_s at_u =
        let first = busy_within s at_s in
        let last = busy_within u at_u in
        busy_from_test t
        (no_gap_from_count is_busy (least_by start_of ps j) (greatest_by stop_of ps j)
        (greatest_stop ps) (omega (arith, first.0, last.1)) (last_stop_le ps j)
        (λ v h. busy_within v (busy_from_test v h)) (work_counted ∙ sym solid) s t u le le'
        (test_from_busy s at_s) (test_from_busy u at_u))

    idle_sum : ((t : ℕ) → IsBusy ps j t → ⊥) → work ps j ≡ 0
    idle_sum never = sym (sum_places ps j (greatest_stop ps) (omega arith))
        ∙ sum_by-same (places ps j) (λ t. 0) (λ t. none t (places ps j t) refl)
        (range_with_len 0 (greatest_stop ps)) ∙ sum_by-none (range_with_len 0 (greatest_stop ps))
      where
        none : (t n : ℕ) → places ps j t ≡ n → n ≡ 0
        none t zero e = refl
        none t (suc n) e = absurd (never t (omega arith))

    pub extent_from_no_gap : ((s t u : ℕ) → s ≤ t → t ≤ u → IsBusy ps j s → IsBusy ps j u
        → IsBusy ps j t)
        → greatest_by stop_of ps j - least_by start_of ps j ≡ work ps j
    extent_from_no_gap no_gap = elim (cases_lt 0 (greatest_by stop_of ps j)) [
      | inl some ↦
          let before = start_before_stop some in
          let first = busy_at_start (omega (arith, before, stop_within)) in
          sym (sym work_counted
          ∙ count_from_no_gap is_busy (least_by start_of ps j) (greatest_by stop_of ps j)
          (greatest_stop ps) (omega arith) (last_stop_le ps j)
          (λ v h. busy_within v (busy_from_test v h)) before
          (test_from_busy (least_by start_of ps j) first)
          (test_from_busy (greatest_by stop_of ps j - 1) (busy_at_stop some))
          (λ s t u le le' at_s at_u. test_from_busy t
          (no_gap s t u le le' (busy_from_test s at_s) (busy_from_test u at_u))))
      | inr none ↦
          let idle = idle_sum
          (λ t busy. let within = busy_within t busy in omega (arith, within.1)) in
          omega arith
    ]

  -- ---- release dates
  pub released_from_start : (r : ℕ) → r ≤ least_by start_of ps j → (t : ℕ) → IsBusy ps j t → r ≤ t
  released_from_start r le t busy = omega (arith, (busy_within t busy).0)

  pub start_from_released : (r : ℕ) → r ≤ limit → ((t : ℕ) → IsBusy ps j t → r ≤ t)
      → r ≤ least_by start_of ps j
  start_from_released r within early = elim (cases_lt (least_by start_of ps j) limit) [
    | inl some ↦ early (least_by start_of ps j) (busy_at_start some)
    | inr none ↦ omega arith
  ]

-- ---- order
module _ (qs rs : List Piece) (sound_q : All IsPiece qs) (sound_r : All IsPiece rs) (a b : ℕ) where
  pub order_from_stop : greatest_by stop_of qs a ≤ least_by start_of rs b → (s t : ℕ)
      → IsBusy qs a s → IsBusy rs b t → s < t
  order_from_stop le s t at_a at_b =
      omega (arith, (busy_within qs sound_q a s at_a).1, (busy_within rs sound_r b t at_b).0)

  pub stop_from_order : ((s t : ℕ) → IsBusy qs a s → IsBusy rs b t → s < t)
      → greatest_by stop_of qs a ≤ least_by start_of rs b
  stop_from_order order = elim (cases_lt 0 (greatest_by stop_of qs a)) [
    | inl some ↦ elim (cases_lt (least_by start_of rs b) limit) [
      | inl more ↦
          omega (
            arith,
            order (greatest_by stop_of qs a - 1) (least_by start_of rs b)
                (busy_at_stop qs sound_q a some) (busy_at_start rs sound_r b more),
          )
      | inr none ↦ omega (arith, stop_within qs sound_q a)
    ]
    | inr none ↦ omega arith
  ]
