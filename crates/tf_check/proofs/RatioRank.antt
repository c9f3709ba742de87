-- Jobs in the order of their ranks are by ratio.
use Rattle.std.proofs.Common.{◌≡◌, ℕ, zero, suc, ◌+◌, ◌*◌, ◌<◌, ◌≤◌, ◌/◌, false, List, [], ◌∷◌, ◌++◌, length, get_or, map, max, refl, sym, ap, subst, ◌∙◌, arith, inl, inr, mul-le-mul_left, mul-le-mul_right, IsTrue}
use Rattle.std.specs.List.{All, range_with_len}
use Rattle.std.specs.List.Sorted.{IsPermutation, IsSorted, IsSortedBy}
use Rattle.std.specs.Ordering.{nat_cmp}
use Rattle.std.proofs.Math.Nat.{div-le_self, div-mul-le_self, lt-div-mul-add}
use Rattle.std.proofs.lemmas.Bool.{cases_lt}
use Rattle.std.proofs.lemmas.List.{get_or-map, length-map, map_push, map-id}
use Rattle.std.proofs.lemmas.List.Elements.{All-head, All-tail, All-cons, All-map, All-push}
use Rattle.std.proofs.lemmas.List.FromFn.{map-range_with_len_more}
use Rattle.std.proofs.lemmas.List.Sorted.{All-permutation, IsPermutation-map, IsPermutation-refl}
use Rattle.tf_model.specs.ClassTable.{is_sum}
use Rattle.tf_model.specs.SchedulingTask.{SchedulingTask, IsJob, all_jobs, job_data, time_of}
use Rattle.tf_model.specs.Sound.{IsSound}
use Rattle.tf_model.proofs.Classes.{sum_plain}
use Rattle.tf_check.specs.declared.weighted_job.WeightedJob.{WeightedJob}
use Rattle.tf_check.specs.GoesBefore.{goes_before}
use Rattle.tf_check.specs.Ratio.{IsOfTask, AreJobsByRatio, jobs_of}
use Rattle.tf_check.specs.RatioRank.{IsScale, IsRankIn, job_in, scaled}
use Rattle.tf_check.proofs.KeyedJob.{not_less}
use Rattle.tf_check.proofs.RatioOrder.{no_test, by_ratio_from_sort}

-- ---- two scaled times over weights: s times p over w is a, and s times q over v is b

-- the one with the smaller whole part is smaller
smaller_part : (s p w a q v b : ℕ) → 1 ≤ w → 1 ≤ v → p * s < a * w + w → b * v ≤ q * s → a < b
    → p * v < q * w
smaller_part s p w a q v b some some' over under less = elim (cases_lt (p * v) (q * w)) [
  | inl done ↦ done
  | inr ge ↦
      let up : suc (p * s) * v ≤ (a * w + w) * v = mul-le-mul_right v over in
      let on : suc a * (w * v) ≤ b * (w * v) = mul-le-mul_right (w * v) less in
      let down : b * v * w ≤ q * s * w = mul-le-mul_right w under in
      let back : q * w * s ≤ p * v * s = mul-le-mul_right s ge in
      absurd (omega arith)
]

-- with the same whole part, they are the same
same_part : (s p w a q v : ℕ) → 1 ≤ w → 1 ≤ v → w * v ≤ s → p * s < a * w + w → a * v ≤ q * s
    → p * v ≤ q * w
same_part s p w a q v some some' room over under = elim (cases_lt (q * w) (p * v)) [
  | inr done ↦ done
  | inl more ↦
      let up : suc (p * s) * v ≤ (a * w + w) * v = mul-le-mul_right v over in
      let down : a * v * w ≤ q * s * w = mul-le-mul_right w under in
      let back : suc (q * w) * s ≤ p * v * s = mul-le-mul_right s more in
      absurd (omega arith)
]

-- ranks in order: the first job has no smaller ratio, and the smaller number where it has the same
abbrev pub Keeps : (w p v q i j : ℕ) → Type 0
Keeps w p v q i j = (v * p ≤ w * q) × (v * p ≡ w * q → i ≤ j)

ranks_parts : (a b i j : ℕ) → i < 4294967296 → j < 4294967296
    → a * 4294967296 + i ≤ b * 4294967296 + j → (a ≤ b) × (a ≡ b → i ≤ j)
ranks_parts a b i j li lj le = (omega arith, λ e. omega arith)

in_order : (s w p v q i j : ℕ) → 1 ≤ p → 1 ≤ q → w * v ≤ s → p * s < 4294967295
    → q * s < 4294967295 → scaled w p s ≤ scaled v q s → (scaled w p s ≡ scaled v q s → i ≤ j)
    → Keeps w p v q i j
in_order s zero p zero q i j sp sq room low high le tie = (omega arith, λ e. tie refl)
in_order s zero p (suc v) q i j sp sq room low high le tie =
    absurd (omega (arith, le, high, div-le_self (q * s) (suc v)))
in_order s (suc w) p zero q i j sp sq room low high le tie =
    let some : 1 * q ≤ suc w * q = mul-le-mul_right q (omega arith) in
    (omega arith, λ e. absurd (omega (arith, e, some)))
in_order s (suc w) p (suc v) q i j sp sq room low high le tie =
    let a : ℕ = (p * s) / suc w in
    let b : ℕ = (q * s) / suc v in
    let over : p * s < a * suc w + suc w = lt-div-mul-add (omega arith) in
    let under : b * suc v ≤ q * s = div-mul-le_self (q * s) (suc v) in
    elim (cases_lt a b) [
      | inl less ↦
          let more : p * suc v < q * suc w =
          smaller_part s p (suc w) a q (suc v) b (omega arith) (omega arith) over under less in
          (omega (arith, more), λ e. absurd (omega (arith, e, more)))
      | inr ge ↦
          let same : a ≡ b = omega (arith, le, ge) in
          let no_more : p * suc v ≤ q * suc w =
          same_part s p (suc w) a q (suc v) (omega arith) (omega arith) room over
          (subst (λ n. n * suc v ≤ q * s) (sym same) under) in
          (omega (arith, no_more), λ e. tie same)
    ]

module _ (k : SchedulingTask) (s : ℕ) (sound : IsSound k) (sum : IsTrue (is_sum k.class))
    (scale : IsScale k s) where
  abbrev w : ℕ → ℕ
  w j = (job_data k j).weight

  abbrev t : ℕ → ℕ
  t = time_of k

  worked : (j : ℕ) → IsJob k j → 1 ≤ t j
  worked = sound.worked (sum_plain k.class sum)

  room : (i j : ℕ) → IsJob k i → IsJob k j → w i * w j ≤ s
  room i j known other =
      let left : w i * w j ≤ scale.root * w j = mul-le-mul_right (w j) (scale.weights i known) in
      let right : scale.root * w j ≤ scale.root * scale.root =
      mul-le-mul_left scale.root (scale.weights j other) in
      omega (arith, left, right, scale.square)

  pair_in_order : (r u : ℕ) → IsRankIn k s r → IsRankIn k s u → r ≤ u
      → Keeps (w (job_in r)) (t (job_in r)) (w (job_in u)) (t (job_in u)) (job_in r) (job_in u)
  pair_in_order r u first second le =
      let i : ℕ = job_in r in
      let j : ℕ = job_in u in
      let parts = ranks_parts (scaled (w i) (t i) s) (scaled (w j) (t j) s) i j (omega arith)
      (omega arith) (omega (arith, first.is, second.is, le)) in
      in_order s (w i) (t i) (w j) (t j) i j (worked i first.job) (worked j second.job)
      (room i j first.job second.job) (scale.times i first.job) (scale.times j second.job) parts.0
      parts.1

  -- ---- the jobs of ranks, with their weights and times

  abbrev with_weights : (js : List ℕ) → All (IsJob k) js → List WeightedJob
  with_weights [] known = []
  with_weights (j ∷ js) known = record {
    job = j;
    weight = w j;
    time = t j;
    worked = worked j (All-head (IsJob k) j js known);
  } ∷ with_weights js (All-tail (IsJob k) j js known)

  jobs_are : (js : List ℕ) (known : All (IsJob k) js) → jobs_of (with_weights js known) ≡ js
  jobs_are [] known = refl
  jobs_are (j ∷ js) known = ap (λ is. j ∷ is) (jobs_are js (All-tail (IsJob k) j js known))

  are_told : (js : List ℕ) (known : All (IsJob k) js) → All (IsOfTask k) (with_weights js known)
  are_told [] known = λ n d lt. absurd (omega (arith, lt))
  are_told (j ∷ js) known =
      All-cons (IsOfTask k) _ _ (record { weight = refl; time = refl })
      (are_told js (All-tail (IsJob k) j js known))

  module _ (rs sorted : List ℕ) (whole : map job_in rs ≡ all_jobs k)
      (ranked : All (IsRankIn k s) rs) (moved : IsPermutation rs sorted)
      (rising : IsSorted nat_cmp sorted) where
    sorted_ranked : All (IsRankIn k s) sorted
    sorted_ranked = All-permutation (IsRankIn k s) rs sorted moved ranked

    known : All (IsJob k) (map job_in sorted)
    known = All-map (IsJob k) job_in sorted (λ n d lt. (sorted_ranked n d lt).job)

    abbrev xs : List WeightedJob
    xs = with_weights (map job_in sorted) known

    are : jobs_of xs ≡ map job_in sorted
    are = jobs_are (map job_in sorted) known

    same_length : length xs ≡ length sorted
    same_length =
        omega (
          arith,
          ap length are,
          length-map xs (λ (x : WeightedJob). x.job),
          length-map sorted job_in,
        )

    same_job : (i : ℕ) (d : WeightedJob) → i < length xs
        → (get_or xs i d).job ≡ job_in (get_or sorted i 0)
    same_job i d lt =
        sym (get_or-map (λ (x : WeightedJob). x.job) xs i d 0 lt)
        ∙ ap (λ js. get_or js i 0) are
        ∙ get_or-map job_in sorted i 0 0 (omega (arith, lt, same_length))

    -- of two in order, the second does not go before the first
    pair_sorted : (r u : ℕ) (x y : WeightedJob) → IsRankIn k s r → IsRankIn k s u → r ≤ u
        → IsOfTask k x → IsOfTask k y → x.job ≡ job_in r → y.job ≡ job_in u
        → goes_before y x ≡ false
    pair_sorted r u x y first second le own other is is' =
        let keeps = pair_in_order r u first second le in
        let wx : x.weight ≡ w (job_in r) = own.weight ∙ ap w is in
        let tx : x.time ≡ t (job_in r) = own.time ∙ ap t is in
        let wy : y.weight ≡ w (job_in u) = other.weight ∙ ap w is' in
        let ty : y.time ≡ t (job_in u) = other.time ∙ ap t is' in
        let behind : y.weight * x.time ≡ w (job_in u) * t (job_in r) =
        ap (λ n. n * x.time) wy ∙ ap (λ n. w (job_in u) * n) tx in
        let ahead : x.weight * y.time ≡ w (job_in r) * t (job_in u) =
        ap (λ n. n * y.time) wx ∙ ap (λ n. w (job_in r) * n) ty in
        no_test (x.weight * y.time) (y.weight * x.time) y.job x.job
        (omega (arith, behind, ahead, keeps.0))
        (λ e. omega (arith, is, is', keeps.1 (sym behind ∙ sym e ∙ ahead)))

    in_sequence : IsSortedBy goes_before xs
    in_sequence i d low high =
        let near : i < length xs = omega (arith, high) in
        let at : i < length sorted = omega (arith, near, same_length) in
        let next : i + 1 < length sorted = omega (arith, high, same_length) in
        pair_sorted (get_or sorted i 0) (get_or sorted (i + 1) 0) (get_or xs i d)
        (get_or xs (i + 1) d) (sorted_ranked i 0 at) (sorted_ranked (i + 1) 0 next)
        (not_less (get_or sorted i 0) (get_or sorted (i + 1) 0) (rising i 0 low next))
        (are_told (map job_in sorted) known i d near)
        (are_told (map job_in sorted) known (i + 1) d high) (same_job i d near)
        (same_job (i + 1) d high)

    pub by_rank_from_sort : AreJobsByRatio k (map job_in sorted)
    by_rank_from_sort = record {
      jobs = xs;
      by_ratio = by_ratio_from_sort k xs xs
          (record {
            all = subst (IsPermutation (all_jobs k)) (sym are)
                (subst (λ js. IsPermutation js (map job_in sorted)) whole
                (IsPermutation-map job_in rs sorted moved));
            told = are_told (map job_in sorted) known;
          })
          (IsPermutation-refl xs) in_sequence;
      are = sym are;
    }

-- ---- the ranks of a task

-- those of the first n jobs
pub record AreRanked (k : SchedulingTask) (s n : ℕ) (rs : List ℕ) : Type 0 where
  pub jobs : map job_in rs ≡ range_with_len 1 n
  pub ranks : All (IsRankIn k s) rs

pub ranked_more : (k : SchedulingTask) (s : ℕ) (rs more : List ℕ) (r n : ℕ) → AreRanked k s n rs
    → more ≡ rs ++ r ∷ [] → job_in r ≡ n + 1 → IsRankIn k s r → AreRanked k s (n + 1) more
ranked_more k s rs more r n first pushed is ranked =
    let next : 1 + n ≡ job_in r = omega arith in
    let longer : range_with_len 1 (n + 1) ≡ range_with_len 1 n ++ job_in r ∷ [] =
    sym (map-id (range_with_len 1 (n + 1))) ∙ map-range_with_len_more (λ j. j) 1 n (job_in r) next
    ∙ ap (λ js. js ++ job_in r ∷ []) (map-id (range_with_len 1 n)) in
    record {
      jobs = ap (map job_in) pushed ∙ map_push job_in rs r
          ∙ ap (λ js. js ++ job_in r ∷ []) first.jobs ∙ sym longer;
      ranks = subst (All (IsRankIn k s)) (sym pushed)
          (All-push (IsRankIn k s) rs r first.ranks ranked);
    }

-- none of the first n jobs has a greater weight or time
pub record AreGreatest (k : SchedulingTask) (n w t : ℕ) : Type 0 where
  pub weights : (j : ℕ) → 1 ≤ j → j ≤ n → (job_data k j).weight ≤ w
  pub times : (j : ℕ) → 1 ≤ j → j ≤ n → time_of k j ≤ t

-- the greater of two is at least both
pub max_both : (a b c m : ℕ) → m ≡ max a b → b ≡ c → (a ≤ m) × (c ≤ m)
max_both a b c m is same = (omega (arith, is), omega (arith, is, same))

pub greatest_more : (k : SchedulingTask) (n w t j v u : ℕ) → AreGreatest k n w t → j ≡ n + 1
    → (w ≤ v) × ((job_data k j).weight ≤ v) → (t ≤ u) × (time_of k j ≤ u)
    → AreGreatest k (n + 1) v u
greatest_more k n w t j v u first is weight time = record {
  weights = λ i low high. elim (cases_lt n i) [
    | inl last ↦
        let same : i ≡ j = omega (arith, last, high, is) in
        subst (λ m. (job_data k m).weight ≤ v) (sym same) weight.1
    | inr before ↦ omega (arith, weight.0, first.weights i low before)
  ];
  times = λ i low high. elim (cases_lt n i) [
    | inl last ↦
        let same : i ≡ j = omega (arith, last, high, is) in
        subst (λ m. time_of k m ≤ u) (sym same) time.1
    | inr before ↦ omega (arith, time.0, first.times i low before)
  ];
}

pub scale_from : (k : SchedulingTask) (n w t s : ℕ) → AreGreatest k n w t → n ≡ length k.jobs
    → s ≡ w * w → t * s < 4294967295 → IsScale k s
scale_from k n w t s greatest all is small = record {
  root = w;
  square = sym is;
  weights = λ j known. greatest.weights j known.0 (omega (arith, known.1, all));
  times = λ j known.
      let le : time_of k j * s ≤ t * s =
      mul-le-mul_right s (greatest.times j known.0 (omega (arith, known.1, all))) in
      omega (arith, le, small);
}
