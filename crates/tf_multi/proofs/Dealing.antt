-- Jobs dealt to machines in turn: all are dealt, and each counts as often as its rank from the end
-- says.
use Rattle.std.proofs.Common.{◌≡◌, ℕ, zero, suc, ◌+◌, ◌-◌, ◌*◌, ◌<◌, ◌≤◌, inl, inr, cond, eqb, List, [], ◌∷◌, ◌++◌, length, map, reverse, refl, sym, ap, subst, ◌∙◌, arith, mul-le-mul_right}
use Rattle.std.specs.List.{All, sum, sum_by, enumerate_from}
use Rattle.std.specs.List.Sorted.{IsPermutation}
use Rattle.std.specs.Int.{div_ceil}
use Rattle.std.proofs.lemmas.Grind.{div_ceil_times}
use Rattle.std.proofs.lemmas.Bool.{cases_lt}
use Rattle.std.proofs.lemmas.Bool.Decides.{nat_tests}
use Rattle.std.proofs.lemmas.List.{append-nil, append_assoc, length-reverse, reverse-append}
use Rattle.std.proofs.lemmas.List.Elements.{All-head, All-tail}
use Rattle.std.proofs.lemmas.List.Sorted.{IsPermutation-refl, IsPermutation-cons, IsPermutation-trans, IsPermutation-append_comm, sum_by-IsPermutation}
use Rattle.std.proofs.lemmas.List.Sums.{sum_by-cons, sum_by-append, sum_by_push}
use Rattle.tf_model.specs.Bounds.{ranks_value}
use Rattle.tf_model.specs.SchedulingTask.{SchedulingTask, time_of}
use Rattle.tf_model.proofs.Loads.{div_ceil_least}
use Rattle.tf_schedule.specs.declared.semi_active.Operation.{Operation}
use Rattle.tf_schedule.proofs.OneOperation.{front_after, weighted_ends}
use Rattle.tf_multi.specs.Dealing.{turns, run_on, share, dealt}

-- ---- all are dealt

module _ {X : Type 0} (m : ℕ) where
  -- what the first c machines get, one machine after another
  abbrev pub all_turns : ℕ → List X → List X
  all_turns zero xs = []
  all_turns (suc c) xs = all_turns c xs ++ turns m c xs

  -- of no jobs they get none
  all_turns-nil : (c : ℕ) → all_turns c [] ≡ []
  all_turns-nil zero = refl
  all_turns-nil (suc c) = append-nil (all_turns c []) ∙ all_turns-nil c

  -- behind a job each machine is where the one before it was
  all_turns-cons : (c : ℕ) (x : X) (xs : List X)
      → all_turns (suc c) (x ∷ xs) ≡ x ∷ (turns m (m - 1) xs ++ all_turns c xs)
  all_turns-cons zero x xs = ap (λ ys. x ∷ ys) (sym (append-nil (turns m (m - 1) xs)))
  all_turns-cons (suc c) x xs =
      ap (λ ys. ys ++ turns m c xs) (all_turns-cons c x xs)
      ∙ ap (λ ys. x ∷ ys) (append_assoc (turns m (m - 1) xs) (all_turns c xs) (turns m c xs))

  -- m machines get all
  all_turned : (n : ℕ) → m ≡ suc n → (xs : List X) → IsPermutation xs (all_turns (suc n) xs)
  all_turned n e [] =
      subst (IsPermutation []) (sym (all_turns-nil (suc n))) (IsPermutation-refl [])
  all_turned n e (x ∷ xs) =
      let others : List X = all_turns n xs in
      let rest : List X = turns m (m - 1) xs in
      let last : n ≡ m - 1 = omega (arith, e) in
      subst (IsPermutation (x ∷ xs)) (sym (all_turns-cons n x xs))
      (IsPermutation-cons x xs (rest ++ others)
      (IsPermutation-trans xs (others ++ rest) (rest ++ others)
      (subst (λ d. IsPermutation xs (others ++ turns m d xs)) last (all_turned n e xs))
      (IsPermutation-append_comm others rest)))

-- the same, by the number of the machines
pub turned_all : {X : Type 0} (m : ℕ) → 0 < m → (xs : List X) → IsPermutation xs (all_turns m m xs)
turned_all m some xs =
    let e : m ≡ suc (m - 1) = omega arith in
    subst (λ c. IsPermutation xs (all_turns m c xs)) (sym e) (all_turned m (m - 1) e xs)

-- ---- when they end

-- each time as often as its rank from the end says
abbrev pub by_rank : (ℕ → ℕ) → ℕ → List ℕ → List ℕ
by_rank f m [] = []
by_rank f m (j ∷ js) = div_ceil (length js + 1) m * f j ∷ by_rank f m js

module _ (m : ℕ) (some : 0 < m) where
  -- of n jobs, behind d others, (n + m - 1 - d) / m
  turn_count : (d : ℕ) (js : List ℕ) → d < m
      → (length (turns m d js) * m + d ≤ length js + (m - 1))
      × (length js + (m - 1) < length (turns m d js) * m + m + d)
  turn_count d [] away = (omega arith, omega arith)
  turn_count zero (j ∷ js) away =
      let rest = turn_count (m - 1) js (omega arith) in
      (omega (arith, rest.0), omega (arith, rest.1))
  turn_count (suc d) (j ∷ js) away =
      let rest = turn_count d js (omega arith) in
      (omega (arith, rest.0), omega (arith, rest.1))

  -- the job itself and the later ones on its machine
  rank_of_first : (js : List ℕ) → 1 + length (turns m (m - 1) js) ≡ div_ceil (length js + 1) m
  rank_of_first js =
      let n : ℕ = length (turns m (m - 1) js) in
      let c : ℕ = div_ceil (length js + 1) m in
      let around = turn_count (m - 1) js (omega arith) in
      let low : length js + 1 ≤ c * m = (div_ceil_times (length js + 1) m some).0 in
      let most : c ≤ 1 + n =
      div_ceil_least (length js + 1) m (1 + n) some (omega (arith, around.1)) in
      elim (cases_lt n c) [
        | inl more ↦ omega arith
        | inr le ↦ let less : c * m ≤ n * m = mul-le-mul_right m le in
            absurd (omega (arith, around.0))
      ]

  -- what a job adds, with l jobs behind it, where its machine is free from t
  first_adds : (c t l p rest : ℕ) → 1 + l ≡ c
      → t + p + (l * (t + p) + rest) ≡ t + l * t + (c * p + rest)
  first_adds c t l p rest e = omega (arith, ap (λ n. n * p) e)

  module _ (w f : ℕ → ℕ) where
    -- the machines behind machine i are free
    abbrev IsFreeBehind : ℕ → (ℕ → ℕ) → Type 0
    IsFreeBehind i front = (h : ℕ) → i < h → front h ≡ 0

    -- the jobs of machine i, where all jobs weigh 1
    ends_turns : (i v : ℕ) (os : List Operation)
        → ((front : ℕ → ℕ) → IsFreeBehind i front → weighted_ends w front os ≡ v)
        → (d : ℕ) (js : List ℕ) → d < m → All (λ j. w j ≡ 1) js
        → (front : ℕ → ℕ) → IsFreeBehind i front
        → weighted_ends w front (map (run_on f i) (turns m d js) ++ os)
        ≡ length (turns m d js) * front i + (sum (turns m d (by_rank f m js)) + v)
    ends_turns i v os behind d [] away ones front free = omega (arith, behind front free)
    ends_turns i v os behind zero (j ∷ js) away ones front free =
        let later : List ℕ = turns m (m - 1) js in
        let one : w j * (front i + f j) ≡ 1 * (front i + f j) =
        ap (λ n. n * (front i + f j)) (All-head (λ h. w h ≡ 1) j js ones) in
        let here : front_after front i (f j) i ≡ front i + f j = grind (arith, nat_tests) in
        let product : length later * front_after front i (f j) i
        ≡ length later * (front i + f j) = ap (λ t. length later * t) here in
        let rest = ends_turns i v os behind (m - 1) js (omega arith)
        (All-tail (λ h. w h ≡ 1) j js ones) (front_after front i (f j))
        (λ h lt. omega (arith, free h lt, other h (f j) lt)) in
        omega (
          arith,
          one,
          rest,
          product,
          first_adds (div_ceil (length js + 1) m) (front i) (length later) (f j)
              (sum (turns m (m - 1) (by_rank f m js)) + v) (rank_of_first js),
          sum_by-cons (λ y. y) (div_ceil (length js + 1) m * f j)
              (turns m (m - 1) (by_rank f m js)),
        )
      where
        other : (h t : ℕ) → i < h → ◌≡◌ {A = ℕ} (cond (eqb i h) t 0) 0
        other h t lt = grind (arith, nat_tests)
    ends_turns i v os behind (suc d) (j ∷ js) away ones front free =
        ends_turns i v os behind d js (omega arith) (All-tail (λ h. w h ≡ 1) j js ones) front free

    -- the jobs of the first c machines, before operations on the others
    ends_all : (c v : ℕ) (os : List Operation) (js : List ℕ) → c ≤ m → All (λ j. w j ≡ 1) js
        → ((front : ℕ → ℕ) → IsFreeBehind c front → weighted_ends w front os ≡ v)
        → weighted_ends w (λ _. 0) (dealt f m c js ++ os)
        ≡ sum (all_turns m c (by_rank f m js)) + v
    ends_all zero v os js le ones behind = omega (arith, behind (λ _. 0) (λ h lt. refl))
    ends_all (suc c) v os js le ones behind =
        let terms : List ℕ = turns m c (by_rank f m js) in
        omega (
          arith,
          ap (weighted_ends w (λ _. 0)) (append_assoc (dealt f m c js) (share f m c js) os),
          ends_all c (sum terms + v) (share f m c js ++ os) js (omega arith) ones (λ front free.
              let none : length (turns m c js) * front (suc c) ≡ length (turns m c js) * 0 =
              ap (λ t. length (turns m c js) * t) (free (suc c) (omega arith)) in
              omega (
                arith,
                none,
                ends_turns (suc c) v os behind c js (omega arith) ones front
                    (λ h lt. free h (omega arith)),
              )),
          sum_by-append (λ y. y) (all_turns m c (by_rank f m js)) terms,
        )

-- the last of a numbered list has the last number
enumerate_push : (n : ℕ) (xs : List ℕ) (y : ℕ)
    → enumerate_from n (xs ++ y ∷ []) ≡ enumerate_from n xs ++ (n + length xs, y) ∷ []
enumerate_push n [] y = ap (λ i. (i, y) ∷ []) (let e : n ≡ n + 0 = omega arith in e)
enumerate_push n (x ∷ xs) y =
    let shift : n + 1 + length xs ≡ n + suc (length xs) = omega arith in
    ap (λ zs. (n, x) ∷ zs)
    (enumerate_push (n + 1) xs y ∙ ap (λ i. enumerate_from (n + 1) xs ++ (i, y) ∷ []) shift)

-- that is the value of the ranks of the jobs from the last to the first
by_rank-reversed : (k : SchedulingTask) (js : List ℕ)
    → ranks_value k (reverse js) ≡ sum (by_rank (time_of k) k.machines js)
by_rank-reversed k [] = refl
by_rank-reversed k (j ∷ js) =
    let f : ℕ × ℕ → ℕ = λ ranked. div_ceil ranked.0 k.machines * time_of k ranked.1 in
    let place : 1 + length (reverse js) ≡ length js + 1 = omega (arith, length-reverse js) in
    let listed : enumerate_from 1 (reverse (j ∷ js))
    ≡ enumerate_from 1 (reverse js) ++ (length js + 1, j) ∷ [] =
    ap (enumerate_from 1) (reverse-append (j ∷ []) js) ∙ enumerate_push 1 (reverse js) j
    ∙ ap (λ i. enumerate_from 1 (reverse js) ++ (i, j) ∷ []) place in
    ap (sum_by f) listed ∙ sum_by_push f (enumerate_from 1 (reverse js)) (length js + 1, j)
    ∙ omega (
      arith,
      by_rank-reversed k js,
      sum_by-cons (λ y. y) (div_ceil (length js + 1) k.machines * time_of k j)
          (by_rank (time_of k) k.machines js),
    )

-- where all jobs weigh 1, the ends of the jobs as they are dealt add up to that value
pub ends-dealt : (k : SchedulingTask) (js : List ℕ) → 0 < k.machines
    → (w : ℕ → ℕ) → All (λ j. w j ≡ 1) js
    → weighted_ends w (λ _. 0) (dealt (time_of k) k.machines k.machines js)
    ≡ ranks_value k (reverse js)
ends-dealt k js some w ones =
    let m : ℕ = k.machines in
    let terms : List ℕ = by_rank (time_of k) m js in
    omega (
      arith,
      ap (weighted_ends w (λ _. 0)) (append-nil (dealt (time_of k) m m js)),
      ends_all m some w (time_of k) m 0 [] js (omega arith) ones (λ front free. refl),
      sum_by-IsPermutation (λ y. y) terms (all_turns m m terms) (turned_all m some terms),
      by_rank-reversed k js,
    )
