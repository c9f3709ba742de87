-- Lists of a certificate whose bound is given.
use Rattle.std.proofs.Common.{◌≡◌, ℕ, ◌≤◌, ℤ, List, [], None, Result, Ok, Err, IsOk, refl, arith, sum_by}
use Rattle.tf_model.specs.SchedulingTask.{SchedulingTask, time_of, time_on}
use Rattle.tf_model.specs.Sound.{IsSound}
use Rattle.tf_model.specs.Limit.{limit}
use Rattle.tf_model.proofs.Sums.{sum_by_le_all}
use Rattle.tf_check.specs.Bound.{list_fault, last_of_bound, window_bound}
use Rattle.tf_check.specs.declared.fault.BoundFault.{BoundFault}
use Rattle.tf_check.specs.Laws.{last_of_says, window_says}
use Rattle.tf_check.proofs.JobLists.{times_within}

-- a bound that is given
given_is : (r : Result ℤ BoundFault) → IsOk r → (b : ℤ) × (r ≡ Ok b)
given_is (Ok b) h = (b, refl)
given_is (Err fault) h = cc

pub last_of_list : (k : SchedulingTask) (jobs : List ℕ) → IsOk (last_of_bound k jobs)
    → list_fault k [] jobs ≡ None
last_of_list k jobs given =
    let (b, is) = given_is (last_of_bound k jobs) given in (last_of_says k jobs b is).1

pub window_list : (k : SchedulingTask) (jobs : List ℕ) → IsOk (window_bound k jobs)
    → list_fault k [] jobs ≡ None
window_list k jobs given =
    let (b, is) = given_is (window_bound k jobs) given in (window_says k jobs b is).1

-- the times on machine 1 are within those on both
pub side_within : (k : SchedulingTask) → IsSound k → (side : List ℕ) → list_fault k [] side ≡ None
    → sum_by (λ j. time_on k j 0) side ≤ limit
side_within k sound side none = omega (
  arith,
  times_within k sound side none,
  sum_by_le_all (λ j. time_on k j 0) (time_of k) side (λ _ d _. omega arith),
)
