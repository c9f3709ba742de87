-- What the known pieces cost.
use Rattle.std.proofs.Common.{◌≡◌, ℕ, zero, suc, ◌+◌, ◌-◌, ◌*◌, ◌<◌, ◌≤◌, max, ℤ, ◌≤ℤ◌, Bool, true, false, cond, ◌&&◌, eqb, List, [], ◌∷◌, ◌++◌, length, get_or, take, append-nil, add-mul, mul-le-mul_left, mul-le-mul_right, refl, sym, ap, subst, ◌∙◌, arith, IsTrue}
use Rattle.std.specs.List.{All, sum_by, range_with_len}
use Rattle.std.proofs.lemmas.List.Elements.{All-filter, filter_passes, filter_more}
use Rattle.std.proofs.lemmas.List.Sums.{sum_by-cons}
use Rattle.std.proofs.Math.Nat.{le-mul_of_pos_right}
use Rattle.std.proofs.lemmas.Int.{ints}
use Rattle.std.proofs.lemmas.Bool.Decides.{nat_tests}
use Rattle.tf_model.specs.Limit.{limit}
use Rattle.tf_model.specs.SchedulingTask.{SchedulingTask, IsJob, job_data, time_of, all_jobs}
use Rattle.tf_model.specs.ClassTable.{is_sum}
use Rattle.tf_model.specs.Sound.{IsSound}
use Rattle.tf_model.specs.Timetable.{completion}
use Rattle.tf_model.specs.Cost.{price, greatest_price, total_price}
use Rattle.tf_model.proofs.Costs.{price-le-greatest, greatest_price_reached, term-le-all_jobs}
use Rattle.tf_schedule.specs.declared.piece.Piece.{Piece}
use Rattle.tf_schedule.specs.Piece.{covers}
use Rattle.tf_schedule.specs.Schedule.{IsSchedule, IsPiece, NoneTwice}
use Rattle.tf_schedule.specs.Drawing.{drawing, stop_of, IsOnMachine}
use Rattle.tf_schedule.specs.Amounts.{last_stop, greatest_by, start_of}
use Rattle.tf_schedule.specs.Misfit.{IsKnown}
use Rattle.tf_schedule.specs.Cost.{is_known, known_pieces}
use Rattle.tf_schedule.specs.Stops.{total_of, total_to, with_stop}
use Rattle.tf_schedule.proofs.Times.{sound_times}
use Rattle.tf_schedule.proofs.Filters.{sum_by-filter-le}
use Rattle.tf_schedule.proofs.Drawing.{completion-drawing}
use Rattle.tf_schedule.proofs.Busy.{greatest_ge, greatest_reached, stop_within}
use Rattle.tf_schedule.proofs.Counting.{sum_range-same}
use Rattle.tf_schedule.proofs.Extents.{greatest_push}
use Rattle.tf_model.proofs.Classes.{sum_plain}
use Rattle.tf_schedule.proofs.Prices.{≤ℤ_trans}

module _ (k : SchedulingTask) where
  pub known_from_test : (p : Piece) → is_known k p ≡ true → IsKnown k p
  known_from_test p h = (
    (grind (arith, nat_tests), grind (arith, nat_tests)),
    (grind (arith, nat_tests), grind (arith, nat_tests)),
  )

  pub test_from_known : (p : Piece) → IsKnown k p → is_known k p ≡ true
  test_from_known p ((a, b), (c, d)) = grind (arith, nat_tests)

  kept_step : (p : Piece) (ps : List Piece) (f : Piece → ℕ) (j : ℕ) (b : Bool) → is_known k p ≡ b
      → greatest_by f (known_pieces k ps) j
      ≤ greatest_by f (cond b (p ∷ known_pieces k ps) (known_pieces k ps)) j
  kept_step p ps f j true e = step (eqb p.job j)
    where
      step : (b : Bool)
          → greatest_by f (known_pieces k ps) j
          ≤ cond b (max (f p) (greatest_by f (known_pieces k ps) j))
          (greatest_by f (known_pieces k ps) j)
      step true = omega arith
      step false = omega arith
  kept_step p ps f j false e = omega arith

  first_step : (p : Piece) (ps : List Piece) (f : Piece → ℕ) (j : ℕ) (b : Bool) → b ≡ true
      → p.job ≡ j → f p ≤ greatest_by f (cond b (p ∷ known_pieces k ps) (known_pieces k ps)) j
  first_step p ps f j true e own = greatest_ge f (p ∷ known_pieces k ps) j 0 p (omega arith) own
  first_step p ps f j false e own = absurd (cc)

  -- a known piece counts
  pub known_ge : (f : Piece → ℕ) (ps : List Piece) (j i : ℕ) (d : Piece) → i < length ps
      → is_known k (get_or ps i d) ≡ true → (get_or ps i d).job ≡ j
      → f (get_or ps i d) ≤ greatest_by f (known_pieces k ps) j
  known_ge f [] j i d h e own = absurd (omega arith)
  known_ge f (p ∷ ps) j zero d h e own = first_step p ps f j (is_known k p) e own
  known_ge f (p ∷ ps) j (suc i) d h e own =
      omega (arith, known_ge f ps j i d (omega arith) e own, kept_step p ps f j (is_known k p) refl)

  module _ (ps : List Piece) (schedule : IsSchedule ps) where
    known_on : All (IsOnMachine k.machines) (known_pieces k ps)
    known_on i d h =
        (known_from_test (get_or (known_pieces k ps) i d) (filter_passes (is_known k) ps i d h)).1

    known_once : NoneTwice (known_pieces k ps)
    known_once i t =
        omega (
          arith,
          sum_by-filter-le (is_known k) (λ p. cond (covers i t p) 1 0) ps,
          schedule.none_twice i t,
        )

    known_full : All (λ p. start_of p < stop_of p) (known_pieces k ps)
    known_full =
        All-filter (is_known k) (λ p. start_of p < stop_of p) ps
        (λ i d h. sound_times (get_or ps i d) (schedule.sound i d h))

    pub completion_is : (j : ℕ) → 1 ≤ j
        → completion (drawing k.machines (known_pieces k ps)) j ≡ last_stop (known_pieces k ps) j
    completion_is j low =
        completion-drawing k.machines (known_pieces k ps) j known_once known_on known_full low

    module _ (task : IsSound k) where
      pub idle_below : (j : ℕ) → IsJob k j
          → price k j 0 ≤ℤ greatest_price k (drawing k.machines (known_pieces k ps))
      idle_below j job =
          let rows = drawing k.machines (known_pieces k ps) in
          ≤ℤ_trans (price k j 0) (price k j (completion rows j)) (greatest_price k rows)
          (task.rising j 0 (completion rows j) job (omega arith))
          (price-le-greatest k rows j job)

      pub piece_below : (i : ℕ) (p : Piece) → i < length ps → get_or ps i p ≡ p → IsKnown k p
          → price k p.job (stop_of p) ≤ℤ greatest_price k (drawing k.machines (known_pieces k ps))
      piece_below i p h read known =
          let rows = drawing k.machines (known_pieces k ps) in
          let test : is_known k (get_or ps i p) ≡ true = ap (is_known k) read
          ∙ test_from_known p known in
          let le : stop_of (get_or ps i p) ≤ last_stop (known_pieces k ps) p.job =
          known_ge stop_of ps p.job i p h test (ap (λ (q : Piece). q.job) read) in
          let same : stop_of (get_or ps i p) ≡ stop_of p = ap stop_of read in
          ≤ℤ_trans (price k p.job (stop_of p)) (price k p.job (completion rows p.job))
          (greatest_price k rows)
          (task.rising p.job (stop_of p) (completion rows p.job) known.0
          (omega (arith, le, same, completion_is p.job known.0.0)))
          (price-le-greatest k rows p.job known.0)

      pub greatest_below : (v : ℤ) → ((j : ℕ) → IsJob k j → price k j 0 ≤ℤ v)
          → All (λ p. IsKnown k p → price k p.job (stop_of p) ≤ℤ v) ps
          → greatest_price k (drawing k.machines (known_pieces k ps)) ≤ℤ v
      greatest_below v idle over =
          let (j, job, at) =
          greatest_price_reached k (drawing k.machines (known_pieces k ps)) task.some_job in
          subst (λ (z : ℤ). z ≤ℤ v) (sym at)
          (subst (λ n. price k j n ≤ℤ v) (sym (completion_is j job.0))
          (by_stop j job (last_stop (known_pieces k ps) j) refl))
        where
          by_stop : (j : ℕ) → IsJob k j → (n : ℕ) → last_stop (known_pieces k ps) j ≡ n
              → price k j (last_stop (known_pieces k ps) j) ≤ℤ v
          by_stop j job zero e = subst (λ n. price k j n ≤ℤ v) (sym e) (idle j job)
          by_stop j job (suc n) e =
              let (i, p, h, read, (own, last)) =
              greatest_reached stop_of (known_pieces k ps) j (omega (arith, e)) in
              let all = All-filter (is_known k) (λ q. IsKnown k q → price k q.job (stop_of q) ≤ℤ v)
              ps over in
              let known : IsKnown k p =
              subst (IsKnown k) read
              (known_from_test (get_or (known_pieces k ps) i p)
              (filter_passes (is_known k) ps i p h)) in
              let here : price k p.job (stop_of p) ≤ℤ v =
              subst (λ (q : Piece). IsKnown k q → price k q.job (stop_of q) ≤ℤ v) read
              (all i p h) known in
              subst (λ m. price k j m ≤ℤ v) last (subst (λ m. price k m (stop_of p) ≤ℤ v) own here)

-- two numbers that are below each other
pub same_both : (a b : ℤ) → a ≤ℤ b → b ≤ℤ a → a ≡ b
same_both a b p q = omega (arith, ints)

-- ---- the weighted sum
stop_step : (a b : Bool) (qs : List Piece) (p : Piece) (j : ℕ) → eqb p.job j ≡ b
    → last_stop (qs ++ cond a (p ∷ []) []) j
    ≡ cond (a && b) (max (stop_of p) (last_stop qs j)) (last_stop qs j)
stop_step true b qs p j e = greatest_push stop_of qs p j
    ∙ ap (λ (x : Bool). cond x (max (stop_of p) (last_stop qs j)) (last_stop qs j)) e
stop_step false b qs p j e = ap (λ rs. last_stop rs j) (append-nil qs)

pub known_more : (k : SchedulingTask) (ps : List Piece) (n : ℕ) (p : Piece) (j : ℕ) → n < length ps
    → p ≡ get_or ps n p
    → last_stop (known_pieces k (take (n + 1) ps)) j
    ≡ with_stop k p j (last_stop (known_pieces k (take n ps)) j)
known_more k ps n p j h read =
    ap (λ qs. last_stop qs j)
    (filter_more (is_known k) ps n p h
    ∙ ap (λ (q : Piece). known_pieces k (take n ps) ++ cond (is_known k q) (q ∷ []) [])
    (sym read))
    ∙ stop_step (is_known k p) (eqb p.job j) (known_pieces k (take n ps)) p j refl

range_more : (f : ℕ → ℕ) (a n : ℕ)
    → sum_by f (range_with_len a (n + 1)) ≡ sum_by f (range_with_len a n) + f (a + n)
range_more f a zero = omega (arith, sum_by-cons f a [], ap f (none a))
  where
    none : (a : ℕ) → a + zero ≡ a
    none a = omega arith
range_more f a (suc n) =
    let split : suc n + 1 ≡ suc (n + 1) = omega arith in
    let whole : sum_by f (range_with_len a (suc n + 1))
    ≡ sum_by f (range_with_len a (suc (n + 1))) =
    ap (λ m. sum_by f (range_with_len a m)) split in
    omega (
      arith,
      whole,
      sum_by-cons f a (range_with_len (a + 1) (n + 1)),
      sum_by-cons f a (range_with_len (a + 1) n),
      range_more f (a + 1) n,
      ap f (next a n),
    )
  where
    next : (a n : ℕ) → a + 1 + n ≡ a + suc n
    next a n = omega arith

module _ (k : SchedulingTask) (f : ℕ → ℕ) where
  pub total_more : (n : ℕ)
      → total_of k f (n + 1) ≡ total_of k f n + (job_data k (n + 1)).weight * f (n + 1)
  total_more n = range_more (λ j. (job_data k j).weight * f j) 1 n
      ∙ ap (λ j. total_of k f n + (job_data k j).weight * f j) (one_more n)
    where
      one_more : (n : ℕ) → 1 + n ≡ n + 1
      one_more n = omega arith

  abbrev weights : ℕ → ℕ
  weights n = sum_by (λ j. (job_data k j).weight) (range_with_len 1 n)

  weights_more : (n : ℕ) → weights (n + 1) ≡ weights n + (job_data k (n + 1)).weight
  weights_more n = range_more (λ j. (job_data k j).weight) 1 n
      ∙ ap (λ j. weights n + (job_data k j).weight) (one_more n)
    where
      one_more : (n : ℕ) → 1 + n ≡ n + 1
      one_more n = omega arith

  weights_le : (n m : ℕ) → weights n ≤ weights (n + m)
  weights_le n zero = let same : n + zero ≡ n = omega arith in
      subst (λ l. weights n ≤ weights l) (sym same) (omega arith)
  weights_le n (suc m) =
      let same : n + m + 1 ≡ n + suc m = omega arith in
      subst (λ l. weights n ≤ weights l) same (omega (arith, weights_le n m, weights_more (n + m)))

  scaled : (w c l t v : ℕ) → c ≤ l → t ≤ v * l → t + w * c ≤ (v + w) * l
  scaled w c l t v le rest =
      let one : w * c ≤ w * l = mul-le-mul_left w le in
      let split : (v + w) * l ≡ v * l + w * l = add-mul v w l in
      omega (arith, one, split, rest)

  total_le : (n : ℕ) → ((j : ℕ) → 1 ≤ j → j ≤ n → f j ≤ limit) → total_of k f n ≤ weights n * limit
  total_le zero stops = omega arith
  total_le (suc n) stops =
      let next : n + 1 ≡ suc n = omega arith in
      subst (λ m. total_of k f m ≤ weights m * limit) next
      (subst (λ t. t ≤ weights (n + 1) * limit) (sym (total_more n))
      (subst (λ v. total_of k f n + (job_data k (n + 1)).weight * f (n + 1) ≤ v * limit)
      (sym (weights_more n))
      (scaled (job_data k (n + 1)).weight (f (n + 1)) limit (total_of k f n) (weights n)
      (stops (n + 1) (omega arith) (omega arith))
      (total_le n (λ j low high. stops j low (omega arith))))))

  module _ (task : IsSound k) (class : IsTrue (is_sum k.class)) where
    work_some : 1 ≤ sum_by (time_of k) (all_jobs k)
    work_some = omega (
      arith,
      task.worked (sum_plain k.class class) 1 (omega arith, task.some_job),
      term-le-all_jobs k (time_of k) 1 (omega arith, task.some_job),
    )

    weights_fit : weights (length k.jobs) ≤ limit
    weights_fit =
        omega (
          arith,
          task.weighted_total class,
          le-mul_of_pos_right (weights (length k.jobs)) work_some,
        )

    pub total_fits : ((j : ℕ) → IsJob k j → f j ≤ limit) → (n : ℕ) → n ≤ length k.jobs
        → total_of k f n ≤ 16000000000000000000000000000000000000
    total_fits stops n le =
        let rest : n + (length k.jobs - n) ≡ length k.jobs = omega arith in
        let fewer : weights n ≤ weights (length k.jobs) =
        subst (λ m. weights n ≤ weights m) rest (weights_le n (length k.jobs - n)) in
        let few : weights n ≤ limit = omega (arith, fewer, weights_fit) in
        let most : weights n * limit ≤ limit * limit = mul-le-mul_right limit few in
        omega (arith, most, total_le n (λ j low high. stops j (low, omega arith)))

-- the weighted sum of the completions is that of the last stops
pub total_is : (k : SchedulingTask) (ps : List Piece) → IsSchedule ps
    → total_price k (drawing k.machines (known_pieces k ps))
    ≡ total_to k (known_pieces k ps) (length k.jobs)
total_is k ps schedule =
    sum_range-same
    (λ j. (job_data k j).weight * completion (drawing k.machines (known_pieces k ps)) j)
    (λ j. (job_data k j).weight * last_stop (known_pieces k ps) j) 1 (length k.jobs)
    (λ j low high. ap (λ c. (job_data k j).weight * c) (completion_is k ps schedule j low))

pub stops_within : (k : SchedulingTask) (ps : List Piece) → All IsPiece ps → (j : ℕ) → IsJob k j
    → last_stop (known_pieces k ps) j ≤ limit
stops_within k ps sound j job =
    stop_within (known_pieces k ps) (All-filter (is_known k) IsPiece ps sound) j
