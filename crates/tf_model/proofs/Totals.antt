-- The running totals of the jobs' times, on all machines and on one of a shop's.
use Rattle.std.proofs.Common.{◌≡◌, ℕ, zero, suc, ◌+◌, ◌-◌, ◌≤◌, length, ap, arith, sum_by, add_comm}
use Rattle.std.specs.List.{range_with_len}
use Rattle.tf_model.specs.Limit.{limit}
use Rattle.tf_model.specs.SchedulingTask.{SchedulingTask, time_of, time_on}
use Rattle.tf_model.specs.Sound.{IsSound}
use Rattle.tf_model.proofs.Sums.{sum_by_le_all}
use Rattle.tf_model.proofs.Ranges.{sum_by-range_more, sum_by-range_le}

-- with the time of the next job
pub total_more : (k : SchedulingTask) (total n time : ℕ)
    → total ≡ sum_by (time_of k) (range_with_len 1 n) → time ≡ time_of k (n + 1)
    → total + time ≡ sum_by (time_of k) (range_with_len 1 (n + 1))
total_more k total n time so_far next =
    omega (arith, sum_by-range_more (time_of k) 1 n, ap (time_of k) (add_comm n 1))

-- the time of the first n jobs is within the limit
pub total_within : (k : SchedulingTask) → IsSound k → (n : ℕ) → n ≤ length k.jobs
    → sum_by (time_of k) (range_with_len 1 n) ≤ limit
total_within k sound n h =
    let all : n + (length k.jobs - n) ≡ length k.jobs = omega arith in
    omega (
      arith,
      sum_by-range_le (time_of k) 1 n (length k.jobs - n),
      ap (λ m. sum_by (time_of k) (range_with_len 1 m)) all,
      sound.total,
    )

-- ---- on one machine

time_on-le : (k : SchedulingTask) (j i : ℕ) → time_on k j i ≤ time_of k j
time_on-le k j zero = omega arith
time_on-le k j (suc i) = omega arith

-- with the time of the next job
pub work_more : (k : SchedulingTask) (i work n job time : ℕ)
    → work ≡ sum_by (λ j. time_on k j i) (range_with_len 1 n) → job ≡ n + 1 → time ≡ time_on k job i
    → work + time ≡ sum_by (λ j. time_on k j i) (range_with_len 1 (n + 1))
work_more k i work n job time so_far next is =
    let same : time_on k job i ≡ time_on k (1 + n) i = ap (λ j. time_on k j i) (omega arith) in
    omega (arith, sum_by-range_more (λ j. time_on k j i) 1 n, same)

-- the time of the first n jobs on a machine is within the limit
pub work_within : (k : SchedulingTask) (i n : ℕ) → IsSound k → n ≤ length k.jobs
    → sum_by (λ j. time_on k j i) (range_with_len 1 n) ≤ limit
work_within k i n sound h = omega (
  arith,
  sum_by_le_all (λ j. time_on k j i) (time_of k) (range_with_len 1 n) (λ _ d _. time_on-le k _ i),
  total_within k sound n h,
)
