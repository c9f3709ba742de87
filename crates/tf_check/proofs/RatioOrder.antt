-- Jobs by the ratio of weight to time: any two compare, as times are at least 1, and run in that
-- order their weighted completions
-- add up to the bound by pairs.
use Rattle.std.proofs.Common.{◌≡◌, ℕ, zero, suc, ◌+◌, ◌*◌, ◌<◌, ◌≤◌, ◌&&◌, ◌||◌, Bool, true, false, ltb, eqb, List, [], ◌∷◌, ◌++◌, length, get_or, drop, refl, sym, ap, subst, ◌∙◌, arith, inl, inr, mul-le-mul_left, mul-le-mul_right, IsTrue}
use Rattle.std.specs.List.{All, AllPairs, range_with_len, sum_by}
use Rattle.std.specs.List.Sorted.{IsSortedBy, IsPermutation}
use Rattle.std.specs.Cmp.{IsStrictWeakOrder}
use Rattle.std.proofs.lemmas.Bool.{cases_lt}
use Rattle.std.proofs.lemmas.Bool.Decides.{nat_tests}
use Rattle.std.proofs.lemmas.List.Elements.{All-head, All-tail, All-map, All-push}
use Rattle.std.proofs.lemmas.List.{map_push, map-id, at_drop_more}
use Rattle.std.proofs.lemmas.List.FromFn.{map-range_with_len_more}
use Rattle.std.proofs.lemmas.List.Kept.{AllPairs-cons}
use Rattle.std.proofs.lemmas.List.Sorted.{sorted_far, sum_by-IsPermutation, IsPermutation-map, IsPermutation-trans, All-permutation}
use Rattle.std.proofs.lemmas.List.Sums.{sum_by-cons, sum_by-drop_more}
use Rattle.tf_model.specs.Bounds.{pair_sum, pairs_value}
use Rattle.tf_model.specs.ClassTable.{is_sum}
use Rattle.tf_model.specs.Limit.{limit}
use Rattle.tf_model.specs.SchedulingTask.{SchedulingTask, IsJob, all_jobs, job_data, time_of}
use Rattle.tf_model.specs.Sound.{IsSound}
use Rattle.tf_model.proofs.Costs.{All-all_jobs}
use Rattle.tf_model.proofs.Pairs.{pairs_value-by_ratio}
use Rattle.tf_model.proofs.Sums.{sum_by-same_all}
use Rattle.tf_schedule.proofs.Counting.{sum_by-map}
use Rattle.tf_check.specs.declared.weighted_job.WeightedJob.{WeightedJob}
use Rattle.tf_check.specs.Ratio.{IsOfTask, jobs_of, AreOfTask, IsNoLater, IsSmallerInTie, AreByRatio, AreJobsByRatio, completions_from, completions_in}
use Rattle.tf_check.specs.GoesBefore.{goes_before}

-- ---- the order

-- the test on plain numbers: u and v are the products, i and j the jobs
abbrev pub test : ℕ → ℕ → ℕ → ℕ → Bool
test u v i j = ltb u v || (eqb u v && ltb i j)

test_one_way : (u v i j : ℕ) → test u v i j ≡ true → test v u j i ≡ false
test_one_way u v i j h = grind (arith, nat_tests)

test_no : (u v i j : ℕ) → test u v i j ≡ false → (v ≤ u) × (u ≡ v → j ≤ i)
test_no u v i j h = (grind (arith, nat_tests), λ e. grind (arith, nat_tests))

pub no_test : (u v i j : ℕ) → v ≤ u → (u ≡ v → j ≤ i) → test u v i j ≡ false
no_test u v i j le tie = grind (arith, nat_tests)

-- a/p is at most b/q, and that at most c/r
ratios : (a p b q c r : ℕ) → 1 ≤ q → a * q ≤ b * p → b * r ≤ c * q → a * r ≤ c * p
ratios a p b q c r some le le' = elim (cases_lt (c * p) (a * r)) [
  | inl more ↦
      let up : a * q * r ≤ b * p * r = mul-le-mul_right r le in
      let on : b * r * p ≤ c * q * p = mul-le-mul_right p le' in
      let over : suc (c * p) * q ≤ a * r * q = mul-le-mul_right q more in
      absurd (omega arith)
  | inr done ↦ done
]

-- and if the ends are equal, so is the middle
tied : (a p b q c r : ℕ) → 1 ≤ r → 1 ≤ p → a * q ≤ b * p → b * r ≤ c * q → c * p ≡ a * r
    → (b * p ≡ a * q) × (c * q ≡ b * r)
tied a p b q c r some some' le le' e =
    let up : a * q * r ≤ b * p * r = mul-le-mul_right r le in
    let on : b * r * p ≤ c * q * p = mul-le-mul_right p le' in
    let same : c * p * q ≡ a * r * q = ap (λ n. n * q) e in (
      elim (cases_lt (a * q) (b * p)) [
        | inl less ↦ let more : suc (a * q) * r ≤ b * p * r = mul-le-mul_right r less in
            absurd (omega arith)
        | inr ge ↦ omega arith
      ],
      elim (cases_lt (b * r) (c * q)) [
        | inl less ↦ let more : suc (b * r) * p ≤ c * q * p = mul-le-mul_right p less in
            absurd (omega arith)
        | inr ge ↦ omega arith
      ],
    )

-- the products of a comparison
abbrev behind : WeightedJob → WeightedJob → ℕ
behind x y = y.weight * x.time

abbrev ahead : WeightedJob → WeightedJob → ℕ
ahead x y = x.weight * y.time

pub by_ratio-order : IsStrictWeakOrder goes_before
by_ratio-order = record {
  one_way = λ x y h. test_one_way (behind x y) (ahead x y) x.job y.job h;
  chain = λ x y z h h'.
      let first = test_no (behind x y) (ahead x y) x.job y.job h in
      let second = test_no (behind y z) (ahead y z) y.job z.job h' in
      no_test (behind x z) (ahead x z) x.job z.job
      (ratios x.weight x.time y.weight y.time z.weight z.time y.worked first.0 second.0)
      (λ e.
      let ties = tied x.weight x.time y.weight y.time z.weight z.time z.worked x.worked first.0
      second.0 e in
      omega (arith, first.1 ties.0, second.1 ties.1));
}

sorted_says : (xs : List WeightedJob) → IsSortedBy goes_before xs
    → AllPairs (λ x y. IsNoLater x y × IsSmallerInTie x y) xs
sorted_says xs sorted i j d lt in' =
    let x : WeightedJob = get_or xs i d in
    let y : WeightedJob = get_or xs j d in
    let says =
    test_no (behind y x) (ahead y x) y.job x.job
    (sorted_far goes_before by_ratio-order xs sorted i j d (omega arith) in') in
    (says.0, λ e. says.1 (sym e))

-- sorted, the jobs of the task are by ratio
pub by_ratio_from_sort : (k : SchedulingTask) (xs ys : List WeightedJob) → AreOfTask k xs
    → IsPermutation xs ys → IsSortedBy goes_before ys → AreByRatio k ys
by_ratio_from_sort k xs ys of_task moved sorted = record {
  jobs = record {
    all = IsPermutation-trans (all_jobs k) (jobs_of xs) (jobs_of ys) of_task.all
        (IsPermutation-map (λ x. x.job) xs ys moved);
    told = All-permutation (IsOfTask k) xs ys moved of_task.told;
  };
  falling = λ i j d lt in'. (sorted_says ys sorted i j d lt in').0;
  ties = λ i j d lt in'. (sorted_says ys sorted i j d lt in').1;
}

-- ---- the jobs of a task

-- the first n jobs, with their weights and times
pub record AreFirst (k : SchedulingTask) (n : ℕ) (xs : List WeightedJob) : Type 0 where
  pub jobs : jobs_of xs ≡ range_with_len 1 n
  pub told : All (IsOfTask k) xs

pub weighted_more : (k : SchedulingTask) (xs ys : List WeightedJob) (x : WeightedJob) (n : ℕ)
    → AreFirst k n xs
    → ys ≡ xs ++ x ∷ [] → x.job ≡ n + 1 → IsOfTask k x → AreFirst k (n + 1) ys
weighted_more k xs ys x n first pushed is told =
    let next : 1 + n ≡ x.job = omega arith in
    let more : range_with_len 1 (n + 1) ≡ range_with_len 1 n ++ x.job ∷ [] =
    sym (map-id (range_with_len 1 (n + 1))) ∙ map-range_with_len_more (λ j. j) 1 n x.job next
    ∙ ap (λ js. js ++ x.job ∷ []) (map-id (range_with_len 1 n)) in
    record {
      jobs = ap jobs_of pushed ∙ map_push (λ y. y.job) xs x
          ∙ ap (λ js. js ++ x.job ∷ []) first.jobs ∙ sym more;
      told = subst (All (IsOfTask k)) (sym pushed) (All-push (IsOfTask k) xs x first.told told);
    }

-- ---- the value

module _ (k : SchedulingTask) where
  abbrev w : ℕ → ℕ
  w j = (job_data k j).weight

  abbrev t : ℕ → ℕ
  t = time_of k

  -- the products told are those of the task
  product_is : (x y : WeightedJob) → IsOfTask k x → IsOfTask k y
      → x.weight * y.time ≡ w x.job * t y.job
  product_is x y own other = ap (λ a. a * y.time) own.weight ∙ ap (λ b. w x.job * b) other.time

  -- none of the numbers has a greater weight for its time than one before it
  pub jobs_falling : (xs : List WeightedJob) → All (IsOfTask k) xs → AllPairs IsNoLater xs
      → AllPairs (λ i j. w j * t i ≤ w i * t j) (jobs_of xs)
  jobs_falling [] told falling = λ i j d lt in'. absurd (omega arith)
  jobs_falling (x ∷ xs) told falling =
      AllPairs-cons (λ i j. w j * t i ≤ w i * t j) x.job (jobs_of xs)
      (All-map (λ j. w j * t x.job ≤ w x.job * t j) (λ y. y.job) xs
      (λ n d lt.
      let y : WeightedJob = get_or xs n d in
      let own = All-head (IsOfTask k) x xs told in
      let other = All-tail (IsOfTask k) x xs told n d lt in
      let no_later : y.weight * x.time ≤ x.weight * y.time =
      falling zero (suc n) d (omega arith) (omega (arith, lt)) in
      omega (arith, no_later, product_is y x other own, product_is x y own other)))
      (jobs_falling xs (All-tail (IsOfTask k) x xs told)
      (λ i j d lt in'. falling (suc i) (suc j) d (omega (arith, lt)) (omega (arith, in'))))

  -- behind a time s each job counts s, its own time and that of each job before it
  pub completions_from-is : (s : ℕ) (xs : List WeightedJob) → All (IsOfTask k) xs
      → completions_from s xs
      ≡ s * sum_by w (jobs_of xs) +
      (sum_by (λ j. w j * t j) (jobs_of xs) + pair_sum (λ i j. w j * t i) (jobs_of xs))
  completions_from-is s [] told = omega arith
  completions_from-is s (x ∷ xs) told =
      let js : List ℕ = jobs_of xs in
      let own = All-head (IsOfTask k) x xs told in
      let here : x.weight * (s + x.time) ≡ w x.job * (s + t x.job) =
      ap (λ a. a * (s + x.time)) own.weight ∙ ap (λ b. w x.job * (s + b)) own.time in
      let next : completions_from (s + x.time) xs ≡ completions_from (s + t x.job) xs =
      ap (λ b. completions_from (s + b) xs) own.time in
      let rest = completions_from-is (s + t x.job) xs (All-tail (IsOfTask k) x xs told) in
      let whole : s * sum_by w (x.job ∷ js) ≡ s * (w x.job + sum_by w js) =
      ap (λ n. s * n) (sum_by-cons w x.job js) in
      let waits : sum_by (λ j. w j * t x.job) js ≡ t x.job * sum_by w js =
      times_right (t x.job) js in
      omega (arith, here, next, rest, whole, waits, sum_by-cons (λ j. w j * t j) x.job js)
    where
      times_right : (c : ℕ) (js : List ℕ) → sum_by (λ j. w j * c) js ≡ c * sum_by w js
      times_right c [] = omega arith
      times_right c (j ∷ js) =
          omega (
            arith,
            sum_by-cons (λ i. w i * c) j js,
            times_right c js,
            ap (λ n. c * n)
                (sum_by-cons w j js),
          )

  -- in the order by ratio that is the bound by pairs
  pub completions-by_ratio : (xs : List WeightedJob) → AreByRatio k xs
      → completions_from 0 xs ≡ pairs_value k
  completions-by_ratio xs by_ratio =
      omega (
        arith,
        completions_from-is 0 xs by_ratio.jobs.told,
        pairs_value-by_ratio k (jobs_of xs) by_ratio.jobs.all
            (jobs_falling xs by_ratio.jobs.told by_ratio.falling),
      )

  -- within what all the weights would cost behind all the work
  pub completions_within : (s : ℕ) (xs : List WeightedJob)
      → completions_from s xs ≤ sum_by (λ x. x.weight) xs * (s + sum_by (λ x. x.time) xs)
  completions_within s [] = omega arith
  completions_within s (x ∷ xs) =
      let u : ℕ = sum_by (λ y. y.weight) xs in
      let v : ℕ = sum_by (λ y. y.time) xs in
      let whole : sum_by (λ y. y.weight) (x ∷ xs) * (s + sum_by (λ y. y.time) (x ∷ xs))
      ≡ (x.weight + u) * (s + (x.time + v)) =
      ap (λ n. n * (s + sum_by (λ y. y.time) (x ∷ xs))) (sum_by-cons (λ y. y.weight) x xs)
      ∙ ap (λ n. (x.weight + u) * (s + n)) (sum_by-cons (λ y. y.time) x xs) in
      let own : x.weight * (s + x.time) ≤ x.weight * (s + (x.time + v)) =
      mul-le-mul_left x.weight (omega arith) in
      omega (arith, completions_within (s + x.time) xs, whole, own)

  module _ (sound : IsSound k) (xs : List WeightedJob) (jobs : AreOfTask k xs) where
    told_sum : (f : WeightedJob → ℕ) (h : ℕ → ℕ)
        → ((x : WeightedJob) → IsOfTask k x → f x ≡ h x.job) → sum_by f xs ≡ sum_by h (all_jobs k)
    told_sum f h same =
        sum_by-same_all f (λ x. h x.job) xs (λ n d lt. same (get_or xs n d) (jobs.told n d lt))
        ∙ sym (sum_by-map h (λ x. x.job) xs)
        ∙ sum_by-IsPermutation h (all_jobs k) (jobs_of xs) jobs.all

    pub work_within : sum_by (λ x. x.time) xs ≤ limit
    work_within = omega (arith, told_sum (λ x. x.time) t (λ x told. told.time), sound.total)

    pub value_within : IsTrue (is_sum k.class) → completions_from 0 xs ≤ limit
    value_within class =
        let weights : sum_by (λ x. x.weight) xs ≡ sum_by w (all_jobs k) =
        told_sum (λ x. x.weight) w (λ x told. told.weight) in
        let work : sum_by (λ x. x.time) xs ≡ sum_by t (all_jobs k) =
        told_sum (λ x. x.time) t (λ x told. told.time) in
        let most : sum_by (λ x. x.weight) xs * (0 + sum_by (λ x. x.time) xs)
        ≡ sum_by w (all_jobs k) * sum_by t (all_jobs k) =
        ap (λ n. n * (0 + sum_by (λ x. x.time) xs)) weights
        ∙ ap (λ n. sum_by w (all_jobs k) * n)
        (let e : 0 + sum_by (λ x. x.time) xs ≡ sum_by t (all_jobs k) = omega arith in e) in
        omega (arith, completions_within 0 xs, most, sound.weighted_total class)

-- ---- one job after another

-- the jobs before place i are over at s, and v is their weighted sum of completions
pub record AreSummed (xs : List WeightedJob) (i s v : ℕ) : Type 0 where
  pub value : v + completions_from s (drop i xs) ≡ completions_from 0 xs
  pub work : s + sum_by (λ y. y.time) (drop i xs) ≡ sum_by (λ y. y.time) xs

pub summed_more : (xs : List WeightedJob) (i s v : ℕ) (x : WeightedJob) → i < length xs
    → x ≡ get_or xs i x → AreSummed xs i s v
    → AreSummed xs (i + 1) (s + x.time) (v + x.weight * (s + x.time))
summed_more xs i s v x lt at summed =
    let next : completions_from s (drop i xs) ≡ completions_from s (x ∷ drop (i + 1) xs) =
    at_drop_more (completions_from s) xs i x lt
    ∙ ap (λ y. completions_from s (y ∷ drop (i + 1) xs)) (sym at) in
    record {
      value = omega (arith, summed.value, next);
      work = omega (
        arith,
        summed.work,
        sum_by-drop_more (λ y. y.time) xs i x lt,
        ap (λ y. y.time) at,
      );
    }

-- ---- the same by the numbers of the jobs

pub completions_in-is : (k : SchedulingTask) (s : ℕ) (xs : List WeightedJob) → All (IsOfTask k) xs
    → completions_in k s (jobs_of xs) ≡ completions_from s xs
completions_in-is k s [] told = refl
completions_in-is k s (x ∷ xs) told =
    let own = All-head (IsOfTask k) x xs told in
    let weight : ℕ = (job_data k x.job).weight in
    let time : ℕ = time_of k x.job in
    let here : x.weight * (s + x.time) ≡ weight * (s + time) =
    ap (λ a. a * (s + x.time)) own.weight ∙ ap (λ b. weight * (s + b)) own.time in
    let next : completions_from (s + x.time) xs ≡ completions_from (s + time) xs =
    ap (λ b. completions_from (s + b) xs) own.time in
    let rest : completions_in k (s + time) (jobs_of xs) ≡ completions_from (s + time) xs =
    completions_in-is k (s + time) xs (All-tail (IsOfTask k) x xs told) in
    omega (arith, here, next, rest)

module _ (k : SchedulingTask) (js : List ℕ) (by_ratio : AreJobsByRatio k js) where
  pub in_is : completions_in k 0 js ≡ completions_from 0 by_ratio.jobs
  in_is = ap (completions_in k 0) by_ratio.are
      ∙ completions_in-is k 0 by_ratio.jobs by_ratio.by_ratio.jobs.told

  pub all_in : IsPermutation (all_jobs k) js
  all_in = subst (IsPermutation (all_jobs k)) (sym by_ratio.are) by_ratio.by_ratio.jobs.all

  pub in_pairs : completions_in k 0 js ≡ pairs_value k
  in_pairs = in_is ∙ completions-by_ratio k by_ratio.jobs by_ratio.by_ratio

  pub in_known : All (IsJob k) js
  in_known = All-permutation (IsJob k) (all_jobs k) js all_in (All-all_jobs k (IsJob k) (λ j known. known))

  module _ (sound : IsSound k) where
    pub in_work_within : sum_by (time_of k) js ≤ limit
    in_work_within =
        omega (arith, sum_by-IsPermutation (time_of k) (all_jobs k) js all_in, sound.total)

    pub in_value_within : IsTrue (is_sum k.class) → completions_in k 0 js ≤ limit
    in_value_within class =
        omega (
          arith,
          in_is,
          value_within k sound by_ratio.jobs by_ratio.by_ratio.jobs class,
        )

-- the jobs before place i are over at s, and v is their weighted sum of completions
pub record AreSummedIn (k : SchedulingTask) (js : List ℕ) (i s v : ℕ) : Type 0 where
  pub value : v + completions_in k s (drop i js) ≡ completions_in k 0 js
  pub work : s + sum_by (time_of k) (drop i js) ≡ sum_by (time_of k) js

pub summed_in_more : (k : SchedulingTask) (js : List ℕ) (i s v j : ℕ) → i < length js
    → j ≡ get_or js i j → AreSummedIn k js i s v
    → AreSummedIn k js (i + 1) (s + time_of k j)
    (v + (job_data k j).weight * (s + time_of k j))
summed_in_more k js i s v j lt at summed =
    let next : completions_in k s (drop i js) ≡ completions_in k s (j ∷ drop (i + 1) js) =
    at_drop_more (completions_in k s) js i j lt
    ∙ ap (λ y. completions_in k s (y ∷ drop (i + 1) js)) (sym at) in
    record {
      value = omega (arith, summed.value, next);
      work = omega (
        arith,
        summed.work,
        sum_by-drop_more (time_of k) js i j lt,
        ap (time_of k) at,
      );
    }

-- the next completion and sum are within the limit
pub summed_in_fits : (k : SchedulingTask) (js : List ℕ) (i s v j a b : ℕ) → AreJobsByRatio k js
    → IsSound k → IsTrue (is_sum k.class) → i < length js → j ≡ get_or js i j
    → AreSummedIn k js i s v → a ≡ (job_data k j).weight → b ≡ time_of k j
    → (s + b ≤ limit) × (a * (s + b) ≤ limit) × (v + a * (s + b) ≤ limit)
summed_in_fits k js i s v j a b by_ratio sound sum lt at summed weight time =
    let more = summed_in_more k js i s v j lt at summed in
    let same : a * (s + b) ≡ (job_data k j).weight * (s + time_of k j) =
    ap (λ n. n * (s + b)) weight ∙ ap (λ n. (job_data k j).weight * (s + n)) time in
    let work : s + b ≤ limit =
    omega (arith, more.work, time, in_work_within k js by_ratio sound) in
    let value : v + a * (s + b) ≤ limit =
    omega (arith, more.value, same, in_value_within k js by_ratio sound sum) in
    (work, omega (arith, value), value)
