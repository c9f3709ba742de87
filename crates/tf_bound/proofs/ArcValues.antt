-- The value of multipliers by the numbers that the judge adds up.
use Rattle.std.proofs.Common.{◌≡◌, Bool, true, false, ℕ, ◌+◌, ◌-◌, ◌*◌, ◌≤◌, ◌^◌, nat_le, List, [], ◌∷◌, length, map, cond, refl, sym, ap, ◌∙◌, arith, sum_by, All, ℤ, pos, negsuc, ◌-ℤ◌, ◌*ℤ◌}
use Rattle.std.proofs.Math.IntN.{pos-*ℤ-pos, pos-*ℤ-negsuc}
use Rattle.std.proofs.lemmas.Bool.{le-leb}
use Rattle.std.proofs.lemmas.Bool.Decides.{nat_tests}
use Rattle.std.proofs.lemmas.Int.{ints}
use Rattle.std.proofs.lemmas.List.Elements.{All-head, All-tail}
use Rattle.std.proofs.lemmas.List.FromFn.{get_or-map-range_with_len, length-map-range_with_len}
use Rattle.tf_model.specs.declared.class.Class.TheVariants.{PrmpWeightedSum}
use Rattle.tf_model.specs.ClassTable.{is_parallel_env}
use Rattle.tf_model.specs.SchedulingTask.{JobData}
use Rattle.tf_model.specs.Bounds.{pairs_value}
use Rattle.tf_model.proofs.Sums.{sum_by-plus, sum_by-times, sum_by-same, sum_by-same_all}
use Rattle.tf_check.specs.Bound.{least_number}
use Rattle.tf_posed.specs.ProblemData.{ProblemData, IsProblemJob, problem_jobs, problem_time, problem_time_on, problem_release}
use Rattle.tf_problem.specs.ProblemBounds.{arcs_gain, head, moved, numerator, owed_dues, share_up, tail, any_multiplier_value, arc_multiplier_value, shared_multiplier_value}
use Rattle.tf_problem.specs.Relaxed.{weighed_task, only_time}
use Rattle.tf_posed.proofs.Conditions.{All-problem_jobs}
use Rattle.tf_bound.specs.Faulted.{all_counted, come_to, first_start, is_wide, least_by, timed_machine, wait_from, waits_from}

-- ---- the same value

times_one : (z : ℤ) → pos 1 *ℤ z ≡ z
times_one (pos n) = omega (arith, ints, pos-*ℤ-pos 1 n)
times_one (negsuc n) = omega (arith, ints, pos-*ℤ-negsuc 1 n)

one_time : (n : ℕ) → n ≡ 1 * n
one_time n = omega arith

-- waits that are a multiple of the time and a constant
spread : (u p : ℕ → ℕ) (c d : ℕ) (jobs : List ℕ)
    → sum_by (λ j. u j * (c * p j + d)) jobs ≡ c * sum_by (λ j. u j * p j) jobs + d * sum_by u jobs
spread u p c d jobs =
    sum_by-same (λ j. u j * (c * p j + d)) (λ j. c * (u j * p j) + d * u j) jobs
    (λ j. each (u j) (p j))
    ∙ sum_by-plus (λ j. c * (u j * p j)) (λ j. d * u j) jobs
    ∙ omega (arith, sum_by-times c (λ j. u j * p j) jobs, sum_by-times d u jobs)
  where
    each : (x y : ℕ) → x * (c * y + d) ≡ c * (x * y) + d * x
    each x y = omega arith

pub value_is : (k : ProblemData) (a : ℕ) (v l : List ℕ) (q : ℕ)
    → any_multiplier_value k a v l q
    ≡ share_up (pos (least_by k a (moved k v l) l) -ℤ (pos (all_counted k) *ℤ owed_dues k v))
    (all_counted k * q)
value_is k a v l q = by (is_parallel_env k.problem.env)
  where
    u : ℕ → ℕ
    u = moved k v l

    m : ℕ
    m = k.machines

    gain : ℕ
    gain = arcs_gain k l

    owed : ℤ
    owed = owed_dues k v

    release : ℕ
    release = least_number (problem_release k) (problem_jobs k)

    start : ℕ
    start = least_number (head k a) (problem_jobs k)

    sums : (p w s x c g n : ℕ) → w ≡ c * x + n * s → 2 * p + c * x + n * (s + g) ≡ 2 * p + w + n * g
    sums p w s x c g n e = omega (arith, e)

    ones : (p w g : ℕ) → p + w + g ≡ 1 * p + w + 1 * g
    ones p w g = omega arith

    group : (n r s : ℕ) → n * r * s ≡ n * (r * s)
    group n r s = omega arith

    by : (b : Bool)
        → cond b (shared_multiplier_value k v l q) (arc_multiplier_value k a v l q)
        ≡ share_up
        (pos (cond b 2 1 * pairs_value (weighed_task k (cond b 0 a) u)
        + sum_by (λ j. u j * cond b ((m - 1) * problem_time k j + 2 * m * cond b release start)
        (cond b release start + tail k a j)) (problem_jobs k)
        + cond b (2 * m) 1 * gain)
        -ℤ (pos (cond b (2 * m) 1) *ℤ owed))
        (cond b (2 * m) 1 * q)
    by true =
        ap (λ n. share_up (pos n -ℤ (pos (2 * m) *ℤ owed)) (2 * m * q))
        (sums (pairs_value (weighed_task k 0 u))
        (sum_by (λ j. u j * ((m - 1) * problem_time k j + 2 * m * release)) (problem_jobs k))
        (release * sum_by u (problem_jobs k)) (sum_by (λ j. u j * problem_time k j) (problem_jobs k))
        (m - 1) gain (2 * m)
        (spread u (problem_time k) (m - 1) (2 * m * release) (problem_jobs k)
        ∙ ap (λ n. (m - 1) * sum_by (λ j. u j * problem_time k j) (problem_jobs k) + n)
        (group (2 * m) release (sum_by u (problem_jobs k)))))
    by false =
        ap (λ n. share_up (pos n -ℤ owed) q)
        (ones (pairs_value (weighed_task k a u))
        (sum_by (λ j. u j * (start + tail k a j)) (problem_jobs k)) gain)
        ∙ ap (λ z. share_up
        (pos (1 * pairs_value (weighed_task k a u)
        + sum_by (λ j. u j * (start + tail k a j)) (problem_jobs k) + 1 * gain) -ℤ z) q)
        (sym (times_one owed))
        ∙ ap (λ n. share_up
        (pos (1 * pairs_value (weighed_task k a u)
        + sum_by (λ j. u j * (start + tail k a j)) (problem_jobs k) + 1 * gain) -ℤ (pos 1 *ℤ owed)) n)
        (one_time q)

-- ---- the same weights

map_same_all : {X : Type 0} (f g : ℕ → X) (xs : List ℕ) → All (λ x. f x ≡ g x) xs → map f xs ≡ map g xs
map_same_all f g [] same = refl
map_same_all f g (x ∷ xs) same =
    ap (λ y. y ∷ map f xs) (All-head (λ y. f y ≡ g y) x xs same)
    ∙ ap (λ ys. g x ∷ ys) (map_same_all f g xs (All-tail (λ y. f y ≡ g y) x xs same))

module _ (k : ProblemData) (u w : ℕ → ℕ) (same : (j : ℕ) → IsProblemJob k j → u j ≡ w j) where
  pairs_same : (a : ℕ) → pairs_value (weighed_task k a u) ≡ pairs_value (weighed_task k a w)
  pairs_same a =
      let f : (ℕ → ℕ) → ℕ → JobData = λ x j. record (only_time (problem_time_on k j a)) { weight = x j } in
      ap (λ jobs. pairs_value (record { class = PrmpWeightedSum; machines = 1; jobs = jobs; costs = []; arcs = [] }))
      (map_same_all (f u) (f w) (problem_jobs k)
      (All-problem_jobs k (λ j. f u j ≡ f w j)
      (λ j h. ap (λ n. record (only_time (problem_time_on k j a)) { weight = n }) (same j h))))

  waits_same : (a first : ℕ) → waits_from k a first u ≡ waits_from k a first w
  waits_same a first =
      sum_by-same_all (λ j. u j * wait_from k a first j) (λ j. w j * wait_from k a first j) (problem_jobs k)
      (All-problem_jobs k (λ j. u j * wait_from k a first j ≡ w j * wait_from k a first j)
      (λ j h. ap (λ n. n * wait_from k a first j) (same j h)))

  pub least_same : (a : ℕ) (l : List ℕ) → least_by k a u l ≡ least_by k a w l
  least_same a l =
      ap (λ n. come_to k n (waits_from k a (first_start k a) u) (arcs_gain k l))
      (pairs_same (timed_machine k a))
      ∙ ap (λ n. come_to k (pairs_value (weighed_task k (timed_machine k a) w)) n (arcs_gain k l))
      (waits_same a (first_start k a))

-- a list of what each job has
pub listed_len : (k : ProblemData) (f : ℕ → ℕ) (u : List ℕ) → u ≡ map f (problem_jobs k)
    → length u ≡ length k.jobs
listed_len k f u is = ap length is ∙ length-map-range_with_len f 1 (length k.jobs)

pub listed : (k : ProblemData) (f : ℕ → ℕ) (u : List ℕ) → u ≡ map f (problem_jobs k) → (j : ℕ)
    → IsProblemJob k j → numerator u j ≡ f j
listed k f u is j job =
    ap (λ xs. numerator xs j) is
    ∙ get_or-map-range_with_len f 1 (length k.jobs) (j - 1) j 0 (omega (arith, job.0, job.1))
    (omega (arith, job.0))

-- what needs more than 128 bits needs more than 127
pub wide_least : (n : ℕ) → nat_le (2 ^ 128) n ≡ true → is_wide (pos n) ≡ true
wide_least n h = le-leb (2 ^ 127) n (omega (arith, from_test (2 ^ 128) n h))
  where
    from_test : (a b : ℕ) → nat_le a b ≡ true → a ≤ b
    from_test a b e = grind (arith, nat_tests)
