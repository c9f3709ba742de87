-- The times of a list of jobs by their ranks: how they are added up, and that they stay within the
-- limit.
use Rattle.std.proofs.Common.{◌≡◌, ℕ, ◌+◌, ◌*◌, ◌≤◌, List, [], ◌∷◌, length, None, Some, true, false, cond, nat_lt, zero, suc, refl, not, ◌&&◌, All, sum_by, ap, ◌∙◌, arith, IsTrue, IsFalse, mul-le-mul_left, mul-le-mul_right}
use Rattle.std.specs.Int.{div_ceil}
use Rattle.std.specs.List.{AllPairs}
use Rattle.std.proofs.lemmas.Bool.{and_parts}
use Rattle.std.proofs.lemmas.Bool.Decides.{nat_tests}
use Rattle.std.proofs.lemmas.List.Elements.{All-head}
use Rattle.std.proofs.lemmas.List.Sums.{sum_by-cons}
use Rattle.tf_model.specs.Bounds.{ranks_value}
use Rattle.tf_model.specs.ClassTable.{is_sum, is_weighted, is_parallel, may_break}
use Rattle.tf_model.specs.declared.class.Class.{Class}
use Rattle.tf_model.proofs.Classes.{parallel_unweighted}
use Rattle.tf_model.specs.Limit.{limit}
use Rattle.tf_model.specs.SchedulingTask.{SchedulingTask, all_jobs, IsJob, job_data, time_of}
use Rattle.tf_model.specs.Sound.{IsSound}
use Rattle.tf_model.proofs.Costs.{All-all_jobs}
use Rattle.tf_model.proofs.Loads.{div_ceil_least}
use Rattle.tf_model.proofs.RankSums.{ranked}
use Rattle.tf_model.proofs.Ranks.{ranks_value_from, sum_by-le-all_jobs}
use Rattle.tf_model.proofs.Sums.{sum_by-same_all}
use Rattle.tf_model.proofs.Work.{IsDistinct}
use Rattle.tf_check.specs.Bound.{list_fault, ranks_fault, longer_fault}
use Rattle.tf_check.specs.Kinds.{takes_ranks}
use Rattle.tf_check.specs.declared.fault.BoundFault.TheVariants.{Condition}
use Rattle.tf_check.specs.Laws.{list_fault_says}

-- before the first job all are left
pub ranked_start : (k : SchedulingTask) (xs : List ℕ)
    → 0 + ranked k.machines (time_of k) 0 xs ≡ ranks_value k xs
ranked_start k xs = omega (arith, ranks_value_from k 0 xs)

-- no rank is above the number of the jobs
ranked-le : (m : ℕ) → 1 ≤ m → (p : ℕ → ℕ) (i : ℕ) (xs : List ℕ)
    → ranked m p i xs ≤ (i + length xs) * sum_by p xs
ranked-le m some p i [] = omega arith
ranked-le m some p i (x ∷ xs) =
    let n : ℕ = i + 1 + length xs in
    let above : (i + 1) * 1 ≤ (i + 1) * m = mul-le-mul_left (i + 1) some in
    let rank : div_ceil (i + 1) m ≤ i + 1 = div_ceil_least (i + 1) m (i + 1) some (omega arith) in
    let own : div_ceil (i + 1) m * p x ≤ n * p x = mul-le-mul_right (p x) (omega arith) in
    let whole : (i + length (x ∷ xs)) * sum_by p (x ∷ xs) ≡ n * (p x + sum_by p xs) =
    ap (λ c. c * sum_by p (x ∷ xs)) (let e : i + length (x ∷ xs) ≡ n = omega arith in e)
    ∙ ap (λ s. n * s) (sum_by-cons p x xs) in
    omega (arith, ranked-le m some p (i + 1) xs, own, whole)

ones : (xs : List ℕ) → sum_by (λ _. 1) xs ≡ length xs
ones [] = omega arith
ones (x ∷ xs) = omega (arith, sum_by-cons (λ (_ : ℕ). 1) x xs, ones xs)

-- of different jobs that all weigh 1 the value is within the limit
pub ranks_within : (k : SchedulingTask) → IsSound k → IsTrue (is_sum k.class)
    → IsFalse (is_weighted k.class) → (xs : List ℕ)
    → IsDistinct xs → All (IsJob k) xs → ranks_value k xs ≤ limit
ranks_within k sound class unweighted xs distinct known =
    let t : ℕ → ℕ = time_of k in
    let jobs : List ℕ = all_jobs k in
    let few : length xs ≤ sum_by (λ j. (job_data k j).weight) jobs =
    omega (
      arith,
      ones xs,
      sum_by-le-all_jobs k (λ _. 1) xs distinct known,
      sum_by-same_all (λ j. (job_data k j).weight) (λ _. 1) jobs
          (All-all_jobs k (λ j. (job_data k j).weight ≡ 1) (sound.unit_weights unweighted)),
    ) in
    let work : sum_by t xs ≤ sum_by t jobs = sum_by-le-all_jobs k t xs distinct known in
    let left : length xs * sum_by t xs ≤ length xs * sum_by t jobs =
    mul-le-mul_left (length xs) work in
    let right : length xs * sum_by t jobs
    ≤ sum_by (λ j. (job_data k j).weight) jobs * sum_by t jobs =
    mul-le-mul_right (sum_by t jobs) few in
    omega (
      arith,
      ranks_value_from k 0 xs,
      ranked-le k.machines sound.some_machine t 0 xs,
      left,
      right,
      sound.weighted_total class,
    )

-- a list without a fault is of different jobs of the task
pub ranks_within_listed : (k : SchedulingTask) → IsSound k → IsTrue (is_sum k.class)
    → IsFalse (is_weighted k.class) → (xs : List ℕ)
    → list_fault k [] xs ≡ None → ranks_value k xs ≤ limit
ranks_within_listed k sound class unweighted xs none =
    let says = list_fault_says k [] xs none in
    ranks_within k sound class unweighted xs (λ c. (says.1 c).1) says.0

-- a class that takes ranks weighs all jobs alike
pub ranks_unweighted : (c : Class) → takes_ranks c ≡ true → IsFalse (is_weighted c)
ranks_unweighted c e =
    let asked = is_sum c && (is_parallel c && not (may_break c)) in
    let facts = and_parts (is_sum c) (is_parallel c && not (may_break c))
    e in
    parallel_unweighted c (and_parts (is_parallel c) (not (may_break c)) facts.1).0

-- ---- jobs of which none is longer than one before it

longer_fault_none : (k : SchedulingTask) (s : ℕ) (jobs : List ℕ) → All (λ j. time_of k j ≤ s) jobs
    → AllPairs (λ i j. time_of k j ≤ time_of k i) jobs → longer_fault k s jobs ≡ None
longer_fault_none k s [] within falling = refl
longer_fault_none k s (j ∷ jobs) within falling =
    let here : time_of k j ≤ s = All-head (λ i. time_of k i ≤ s) j jobs within in
    let test : nat_lt s (time_of k j) ≡ false = grind (arith, nat_tests) in
    ap (λ b. cond b (Some (Condition j)) (longer_fault k (time_of k j) jobs)) test
    ∙ longer_fault_none k (time_of k j) jobs
    (λ n d lt. falling zero (suc n) d (omega arith) (omega arith))
    (λ a b d lt within. falling (suc a) (suc b) d (omega arith) (omega arith))

pub ranks_fault_none : (k : SchedulingTask) (jobs : List ℕ)
    → AllPairs (λ i j. time_of k j ≤ time_of k i) jobs
    → ranks_fault k jobs ≡ None
ranks_fault_none k [] falling = refl
ranks_fault_none k (j ∷ jobs) falling =
    longer_fault_none k (time_of k j) jobs
    (λ n d lt. falling zero (suc n) d (omega arith) (omega arith))
    (λ a b d lt within. falling (suc a) (suc b) d (omega arith) (omega arith))
