-- The sums of a certificate's arithmetic, as they are added up and in parts.
use Rattle.std.proofs.Common.{◌≡◌, ℕ, zero, suc, ◌+◌, ◌*◌, ◌-◌, ◌≤◌, ◌<◌, Bool, true, false, not, ◌||◌, ◌==◌, cond, List, [], ◌∷◌, length, refl, sym, ap, ◌∙◌, ⊎_elim, sum_by, count_by, All, arith}
use Rattle.std.specs.Int.{div_ceil}
use Rattle.std.specs.List.{enumerate_from, range_with_len}
use Rattle.std.proofs.lemmas.Bool.{false≢true, cases_Bool, cases_eq, cases_lt, or_cases, eqb-true, eq-eqb, ne_eqb}
use Rattle.std.proofs.lemmas.List.Sums.{sum_by-cons}
use Rattle.std.proofs.lemmas.List.Elements.{All-head, All-tail}
use Rattle.std.proofs.lemmas.Grind.{div_ceil_times}
use Rattle.tf_model.specs.SchedulingTask.{SchedulingTask, IsJob, job_data, time_of, time_on, all_jobs}
use Rattle.tf_model.specs.Bounds.{ranks_value, stands_in}
use Rattle.tf_model.proofs.Ranges.{sum_by-range_more, sum_by-range_le}
use Rattle.tf_model.proofs.Sums.{sum_by-plus, sum_by-same, sum_by-zero_terms}
use Rattle.tf_model.proofs.Work.{IsDistinct}
use Rattle.tf_schedule.proofs.Filters.{sum_by-filter}
use Rattle.tf_evaluate.specs.Arithmetic.{own_times, others_work, ranked_waiting}

-- ---- each job's own time, by weight

abbrev own_time : SchedulingTask → ℕ → ℕ
own_time k j = (job_data k j).weight * time_of k j

-- with the next job
pub own_more : (k : SchedulingTask) (own n job weight time : ℕ)
    → own ≡ sum_by (λ j. (job_data k j).weight * time_of k j) (range_with_len 1 n)
    → job ≡ n + 1 → weight ≡ (job_data k job).weight → time ≡ time_of k job
    → own + weight * time
    ≡ sum_by (λ j. (job_data k j).weight * time_of k j) (range_with_len 1 (n + 1))
own_more k own n job weight time so_far next is takes =
    let at : job ≡ 1 + n = omega (arith, next) in
    let here : weight * time ≡ own_time k (1 + n) = ap (λ w. w * time) is
    ∙ ap (λ t. (job_data k job).weight * t) takes
    ∙ ap (own_time k) at in
    ap (λ sum. sum + weight * time) so_far
    ∙ ap (λ term. sum_by (own_time k) (range_with_len 1 n) + term) here
    ∙ sym (sum_by-range_more (own_time k) 1 n)

-- the first n jobs are some of all
pub own_within : (k : SchedulingTask) (n : ℕ) → n ≤ length k.jobs
    → sum_by (λ j. (job_data k j).weight * time_of k j) (range_with_len 1 n) ≤ own_times k
own_within k n h =
    let all : n + (length k.jobs - n) ≡ length k.jobs = omega arith in
    omega (
      arith,
      sum_by-range_le (own_time k) 1 n (length k.jobs - n),
      ap (λ m. sum_by (own_time k) (range_with_len 1 m)) all,
    )

-- ---- ranks: the once of each job, and the rest

some_rank : (i m : ℕ) → 1 ≤ m → 1 ≤ i → 1 ≤ div_ceil i m
some_rank i m some from = by_size (div_ceil i m) refl
  where
    by_size : (q : ℕ) → div_ceil i m ≡ q → 1 ≤ q
    by_size zero e = absurd (omega (arith, div_ceil_times i m some, ap (λ q. q * m) e))
    by_size (suc q) e = omega arith

once_more : (q t : ℕ) → 1 ≤ q → q * t ≡ t + (q - 1) * t
once_more zero t h = absurd (omega arith)
once_more (suc q) t h =
    let next : suc q ≡ q + 1 = omega arith in
    let back : q ≡ suc q - 1 = omega arith in
    let once : (q + 1) * t ≡ t + q * t = omega arith in
    ap (λ n. n * t) next ∙ once ∙ ap (λ n. t + n * t) back

ranks_from : (k : SchedulingTask) (i : ℕ) (jobs : List ℕ) → 1 ≤ k.machines → 1 ≤ i
    → sum_by (λ ranked. div_ceil ranked.0 k.machines * time_of k ranked.1) (enumerate_from i jobs)
    ≡ sum_by (time_of k) jobs
    + sum_by (λ ranked. (div_ceil ranked.0 k.machines - 1) * time_of k ranked.1)
    (enumerate_from i jobs)
ranks_from k i [] some from = refl
ranks_from k i (j ∷ jobs) some from = omega (
  arith,
  sum_by-cons (λ ranked. div_ceil ranked.0 k.machines * time_of k ranked.1) (i, j)
      (enumerate_from (i + 1) jobs),
  sum_by-cons (λ ranked. (div_ceil ranked.0 k.machines - 1) * time_of k ranked.1) (i, j)
      (enumerate_from (i + 1) jobs),
  sum_by-cons (time_of k) j jobs,
  once_more (div_ceil i k.machines) (time_of k j) (some_rank i k.machines some from),
  ranks_from k (i + 1) jobs some (omega arith),
)

pub ranks_parts : (k : SchedulingTask) (jobs : List ℕ) → 1 ≤ k.machines
    → ranks_value k jobs ≡ sum_by (time_of k) jobs + ranked_waiting k jobs
ranks_parts k jobs some = ranks_from k 1 jobs some (omega arith)

-- ---- a split: the side, and the others

-- among 1 to n only x counts
abbrev spike : (ℕ → ℕ) → ℕ → ℕ → ℕ
spike f x c = cond (x == c) (f c) 0

spike_out : (f : ℕ → ℕ) (x n : ℕ) → n < x → sum_by (spike f x) (range_with_len 1 n) ≡ 0
spike_out f x zero h = refl
spike_out f x (suc n) h =
    let next : suc n ≡ n + 1 = omega arith in
    omega (
      arith,
      ap (λ m. sum_by (spike f x) (range_with_len 1 m)) next,
      sum_by-range_more (spike f x) 1 n,
      ap {B = ℕ} (λ t. cond t (f (1 + n)) 0) (ne_eqb x (1 + n) (λ e. omega (arith, e))),
      spike_out f x n (omega arith),
    )

spike_in : (f : ℕ → ℕ) (x n : ℕ) → 1 ≤ x → x ≤ n
    → sum_by (spike f x) (range_with_len 1 n) ≡ f x
spike_in f x zero low high = absurd (omega arith)
spike_in f x (suc n) low high =
    let next : suc n ≡ n + 1 = omega arith in
    ⊎_elim
    (λ same. omega (
      arith,
      ap (λ m. sum_by (spike f x) (range_with_len 1 m)) next,
      sum_by-range_more (spike f x) 1 n,
      ap {B = ℕ} (λ t. cond t (f (1 + n)) 0) (eq-eqb x (1 + n) same),
      ap f same,
      spike_out f x n (omega (arith, same)),
    ))
    (λ differ. omega (
      arith,
      ap (λ m. sum_by (spike f x) (range_with_len 1 m)) next,
      sum_by-range_more (spike f x) 1 n,
      ap {B = ℕ} (λ t. cond t (f (1 + n)) 0) (ne_eqb x (1 + n) differ),
      spike_in f x n low (below differ),
    ))
    (cases_eq x (1 + n))
  where
    below : (x ≡ 1 + n → ⊥) → x ≤ n
    below differ = ⊎_elim
        (λ above. absurd (differ (omega (arith, above, high)))) (λ h. h) (cases_lt n x)

-- a job that stands in a list counts there
counts_in : (xs : List ℕ) (c : ℕ) → stands_in xs c ≡ true → 1 ≤ count_by (λ j. c == j) xs
counts_in [] c e = absurd (false≢true e)
counts_in (x ∷ xs) c e = ⊎_elim
    (λ here. omega (
      arith,
      sum_by-cons (λ j. cond (c == j) 1 0) x xs,
      ap {B = ℕ} (λ t. cond t 1 0) (eq-eqb c x (sym (eqb-true x c here))),
    ))
    (λ later. omega (arith, sum_by-cons (λ j. cond (c == j) 1 0) x xs, counts_in xs c later))
    (or_cases (x == c) (stands_in xs c) e)

-- the first of different jobs stands nowhere else
stands_once : (x : ℕ) (xs : List ℕ) → IsDistinct (x ∷ xs) → (c : ℕ) → (x == c) ≡ true
    → stands_in xs c ≡ false
stands_once x xs distinct c e = ⊎_elim
    (λ twice. absurd (omega (
      arith,
      distinct c,
      sum_by-cons (λ j. cond (c == j) 1 0) x xs,
      ap {B = ℕ} (λ t. cond t 1 0) (eq-eqb c x (sym (eqb-true x c e))),
      counts_in xs c twice,
    )))
    (λ no. no)
    (cases_Bool (stands_in xs c))

apart : (a b : Bool) (n : ℕ) → (a ≡ true → b ≡ false)
    → cond (a || b) n 0 ≡ cond a n 0 + cond b n 0
apart true b n only = omega (arith, ap {B = ℕ} (λ t. cond t n 0) (only refl))
apart false b n only = omega arith

-- a sum over different jobs is one over all jobs, of those that stand in the list
listed : (k : SchedulingTask) (f : ℕ → ℕ) (xs : List ℕ) → IsDistinct xs → All (IsJob k) xs
    → sum_by f xs ≡ sum_by (λ c. cond (stands_in xs c) (f c) 0) (all_jobs k)
listed k f [] distinct known = sym (sum_by-zero_terms (all_jobs k))
listed k f (x ∷ xs) distinct known =
    let job : IsJob k x = All-head (IsJob k) x xs known in
    let rest : IsDistinct xs =
    λ c. omega (arith, distinct c, sum_by-cons (λ j. cond (c == j) 1 0) x xs) in
    omega (
      arith,
      sum_by-cons f x xs,
      listed k f xs rest (All-tail (IsJob k) x xs known),
      spike_in f x (length k.jobs) job.0 job.1,
      sum_by-plus (spike f x) (λ c. cond (stands_in xs c) (f c) 0) (all_jobs k),
      sum_by-same (λ c. cond (stands_in (x ∷ xs) c) (f c) 0)
          (λ c. spike f x c + cond (stands_in xs c) (f c) 0) (all_jobs k)
          (λ c. apart (x == c) (stands_in xs c) (f c) (stands_once x xs distinct c)),
    )

either : (t : Bool) (a b : ℕ) → cond t a b ≡ cond t a 0 + cond (not t) b 0
either true a b = omega arith
either false a b = omega arith

pub split_parts : (k : SchedulingTask) (side : List ℕ) → IsDistinct side → All (IsJob k) side
    → sum_by (λ j. cond (stands_in side j) (time_on k j 0) (time_on k j 1)) (all_jobs k)
    ≡ sum_by (λ j. time_on k j 0) side + others_work k side
split_parts k side distinct known = omega (
  arith,
  sum_by-same (λ j. cond (stands_in side j) (time_on k j 0) (time_on k j 1))
      (λ j. cond (stands_in side j) (time_on k j 0) 0
      + cond (not (stands_in side j)) (time_on k j 1) 0) (all_jobs k)
      (λ j. either (stands_in side j) (time_on k j 0) (time_on k j 1)),
  sum_by-plus (λ j. cond (stands_in side j) (time_on k j 0) 0)
      (λ j. cond (not (stands_in side j)) (time_on k j 1) 0) (all_jobs k),
  listed k (λ j. time_on k j 0) side distinct known,
  sum_by-filter (λ j. not (stands_in side j)) (λ j. time_on k j 1) (all_jobs k),
)
