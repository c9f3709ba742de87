-- The bound by multipliers of jobs and arcs on identical machines, with or without preemption.
use Rattle.std.proofs.Common.{◌≡◌, ℕ, zero, suc, ◌+◌, ◌-◌, ◌*◌, min, ◌≤◌, List, length, drop, refl, sym, ap, ◌∙◌, subst, arith, sum_by, All, Contains, ℤ, pos, negsuc, ◌-ℤ◌, ◌*ℤ◌, ◌≤ℤ◌, IsTrue, mul-le-mul_left}
use Rattle.std.proofs.Math.IntN.{pos-*ℤ-pos, pos-*ℤ-negsuc}
use Rattle.std.proofs.lemmas.Int.{ints}
use Rattle.std.proofs.lemmas.List.Elements.{All-weaker, All-drop, All-contains}
use Rattle.tf_model.specs.declared.class.Class.TheVariants.{PrmpWeightedSum}
use Rattle.tf_model.specs.SchedulingTask.{SchedulingTask, JobData, job_data, time_of}
use Rattle.tf_model.specs.Timetable.{Timetable, cells_of, completion}
use Rattle.tf_model.specs.Bounds.{pair_sum, pairs_value}
use Rattle.tf_model.proofs.Sums.{sum_by_le_all, sum_by-plus, sum_by-times}
use Rattle.tf_model.proofs.PairSums.{pair_sum_le}
use Rattle.tf_model.proofs.Units.{cell_at_completion, completion-le-row}
use Rattle.tf_model.proofs.Work.{cells-le-length}
use Rattle.tf_check.specs.Bound.{least_number}
use Rattle.tf_posed.specs.ProblemData.{ProblemData, IsProblemSound, IsProblemJob, problem_jobs, problem_time, problem_time_on, problem_weight, problem_release, problem_due}
use Rattle.tf_posed.specs.FitsProblem.{FitsProblem}
use Rattle.tf_posed.specs.ProblemCost.{problem_cost, IsLowerBound}
use Rattle.tf_problem.specs.Relaxed.{weighed_task, only_time}
use Rattle.tf_problem.proofs.ProblemLists.{cells_from, drop_cell}
use Rattle.tf_posed.proofs.Conditions.{All-problem_jobs}
use Rattle.tf_problem.proofs.Relaxing.{problem_release-le-row, jobs-task_by, job-task_by}
use Rattle.tf_problem.proofs.Least.{least_number-le-job}
use Rattle.tf_problem.proofs.Windows.{alike_no_shop, one_time-le-completion}
use Rattle.tf_problem.proofs.Prices.{IsDistinct-problem_jobs}
use Rattle.tf_problem.specs.ProblemBounds.{numerator, is_tardy_goal, is_alike, arcs_gain, moved, AreMultipliers, owed_dues, shared_multiplier_value}
use Rattle.tf_problem.proofs.Multipliers.{jobs-le-late, moved-le-weighted, share-le, tardy, tardy-cost}
use Rattle.tf_problem.proofs.FastMachine.{IsDone, fast-le-weighted}

≤-trans' : {a b c : ℕ} → a ≤ b → b ≤ c → a ≤ c
≤-trans' p q = omega arith

-- the value of the pairs of the weighed task is that of the problem's times
pairs-weighed : (k : ProblemData) (u : ℕ → ℕ)
    → pairs_value (weighed_task k 0 u)
    ≤ sum_by (λ j. u j * problem_time k j) (problem_jobs k)
    + pair_sum (λ j i. min (u j * problem_time k i) (u i * problem_time k j)) (problem_jobs k)
pairs-weighed k u =
    let f : ℕ → JobData = λ j. record (only_time (problem_time_on k j 0)) { weight = u j } in
    let task : SchedulingTask = weighed_task k 0 u in
    let w : ℕ → ℕ = λ j. (job_data task j).weight in
    let t : ℕ → ℕ = time_of task in
    let p : ℕ → ℕ = problem_time k in
    let jobs : List ℕ = problem_jobs k in
    let weight : (j : ℕ) → IsProblemJob k j → w j ≡ u j =
    λ j h. ap (λ d. d.weight) (job-task_by k PrmpWeightedSum 1 f j h) in
    let time : (j : ℕ) → IsProblemJob k j → t j ≡ p j =
    λ j h. ap (λ d. d.first + d.second) (job-task_by k PrmpWeightedSum 1 f j h) ∙ none (p j) in
    let own : sum_by (λ j. w j * t j) jobs ≤ sum_by (λ j. u j * p j) jobs =
    sum_by_le_all (λ j. w j * t j) (λ j. u j * p j) jobs
    (All-problem_jobs k (λ j. w j * t j ≤ u j * p j)
    (λ j h. both (w j) (t j) (u j) (p j) (weight j h) (time j h))) in
    let pairs : pair_sum (λ i j. min (w i * t j) (w j * t i)) jobs
    ≤ pair_sum (λ j i. min (u j * p i) (u i * p j)) jobs =
    pair_sum_le (IsProblemJob k) (λ i j. min (w i * t j) (w j * t i))
    (λ j i. min (u j * p i) (u i * p j))
    (λ i j hi hj.
    omega (
      arith,
      both (w i) (t j) (u i) (p j) (weight i hi) (time j hj),
      both (w j) (t i) (u j) (p i) (weight j hj) (time i hi),
    ))
    jobs (All-problem_jobs k (IsProblemJob k) (λ j h. h)) in
    subst
    (λ list. sum_by (λ j. w j * t j) list + pair_sum (λ i j. min (w i * t j) (w j * t i)) list
    ≤ sum_by (λ j. u j * p j) jobs + pair_sum (λ j i. min (u j * p i) (u i * p j)) jobs)
    (sym (jobs-task_by k PrmpWeightedSum 1 f)) (omega (arith, own, pairs))
  where
    none : (n : ℕ) → n + 0 ≡ n
    none n = omega arith

    both : (a b c d : ℕ) → a ≡ c → b ≡ d → a * b ≤ c * d
    both a b c d e g = omega (arith, ap (λ x. x * b) e, ap (λ x. c * x) g)

module _ (k : ProblemData) (sound : IsProblemSound k) (alike : IsTrue (is_alike k.problem.env))
    (rows : Timetable) (fits : FitsProblem k rows) where
  abbrev r : ℕ
  r = least_number (problem_release k) (problem_jobs k)

  -- the rows from the least release date on
  abbrev later : Timetable
  later = drop r rows

  early : (j : ℕ) → IsProblemJob k j → r ≤ problem_release k j
  early = least_number-le-job k (problem_release k)

  later-done : (j : ℕ) → IsProblemJob k j → IsDone later (problem_time k) j
  later-done j h = record {
    units = cells_from rows j r
        (λ s i e. ≤-trans' (early j h) (problem_release-le-row k rows fits j h s i e))
        ∙ (fits.amount j h.0 h.1).in_all (alike_no_shop k alike);
    some = (sound.one_time (alike_no_shop k alike) j h).1;
    once = All-drop (λ row. cells_of j row ≤ 1) r rows (fits.single_place j h.0 h.1);
  }

  later-completion : (j : ℕ) → IsProblemJob k j → completion later j + r ≤ completion rows j
  later-completion j h = at (completion later j) refl
    where
      at : (c : ℕ) → completion later j ≡ c → c + r ≤ completion rows j
      at zero e =
          omega (arith, early j h, one_time-le-completion k sound alike rows fits j h)
      at (suc t) e =
          let last = cell_at_completion j later t e in
          omega (
            arith,
            completion-le-row j h.0 rows (r + t) last.0
                (sym (drop_cell rows r t last.0) ∙ last.1),
          )

  room : All (λ row. sum_by (λ i. cells_of i row) (problem_jobs k) ≤ k.machines) later
  room =
      All-drop (λ row. sum_by (λ i. cells_of i row) (problem_jobs k) ≤ k.machines) r rows
      (All-weaker (λ row. length row ≡ k.machines)
      (λ row. sum_by (λ i. cells_of i row) (problem_jobs k) ≤ k.machines)
      (λ row w. omega (arith, cells-le-length (problem_jobs k) (IsDistinct-problem_jobs k) row)) rows
      fits.width)

  pub shared-le-weighted : (u : ℕ → ℕ)
      → 2 * pairs_value (weighed_task k 0 u)
      + (k.machines - 1) * sum_by (λ j. u j * problem_time k j) (problem_jobs k)
      + 2 * k.machines * (r * sum_by u (problem_jobs k))
      ≤ 2 * k.machines * sum_by (λ j. u j * completion rows j) (problem_jobs k)
  shared-le-weighted u =
      let jobs : List ℕ = problem_jobs k in
      let m : ℕ = k.machines in
      let p : ℕ → ℕ = problem_time k in
      let done : (j : ℕ) → Contains jobs j → IsDone later p j =
      λ j at. later-done j
      (All-contains (IsProblemJob k) jobs j (All-problem_jobs k (IsProblemJob k) (λ i h. h)) at) in
      let fast = fast-le-weighted m jobs later p room done u in
      let each : sum_by (λ j. u j * completion later j + r * u j) jobs
      ≤ sum_by (λ j. u j * completion rows j) jobs =
      sum_by_le_all (λ j. u j * completion later j + r * u j) (λ j. u j * completion rows j) jobs
      (All-problem_jobs k (λ j. u j * completion later j + r * u j ≤ u j * completion rows j)
      (λ j h.
      let le : u j * (completion later j + r) ≤ u j * completion rows j =
      mul-le-mul_left (u j) (later-completion j h) in
      omega (arith, le))) in
      sums (pairs_value (weighed_task k 0 u)) (sum_by (λ j. u j * p j) jobs)
      (pair_sum (λ j i. min (u j * p i) (u i * p j)) jobs)
      (sum_by (λ j. u j * completion later j) jobs) (r * sum_by u jobs)
      (sum_by (λ j. u j * completion rows j) jobs) m sound.some_machine (pairs-weighed k u) fast
      (omega (
        arith,
        each,
        sum_by-plus (λ j. u j * completion later j) (λ j. r * u j) jobs,
        sum_by-times r u jobs,
      ))
    where
      sums : (v t s a b c m : ℕ) → 1 ≤ m → v ≤ t + s → 2 * s + (m + 1) * t ≤ 2 * m * a → a + b ≤ c
          → 2 * v + (m - 1) * t + 2 * m * b ≤ 2 * m * c
      sums v t s a b c zero some is fast le = absurd (omega (arith, some))
      sums v t s a b c (suc m) some is fast le =
          let up : 2 * suc m * (a + b) ≤ 2 * suc m * c = mul-le-mul_left (2 * suc m) le in
          let less : (suc m - 1) * t ≡ m * t = ap (λ x. x * t) (omega arith) in
          omega (arith, up, less, fast, is)

pub shared_multipliers-bound : (k : ProblemData) → IsProblemSound k
    → IsTrue (is_alike k.problem.env) → IsTrue (is_tardy_goal k.problem.goal) → (v l : List ℕ) (q : ℕ)
    → 1 ≤ q → AreMultipliers k v l q → IsLowerBound k (shared_multiplier_value k v l q)
shared_multipliers-bound k sound alike sums v l q some are rows fits =
    let u : ℕ → ℕ = moved k v l in
    let jobs : List ℕ = problem_jobs k in
    let m : ℕ = k.machines in
    let first : ℕ = least_number (problem_release k) (problem_jobs k) in
    let fast : ℕ =
    2 * pairs_value (weighed_task k 0 u) + (m - 1) * sum_by (λ j. u j * problem_time k j) jobs in
    let wait : ℕ = first * sum_by u jobs in
    let gain : ℕ = arcs_gain k l in
    let weighted : ℕ = sum_by (λ j. numerator v j * completion rows j) jobs in
    let owed : ℤ = owed_dues k v in
    let late : ℕ = sum_by (tardy k.problem.goal k rows) jobs in
    let within : (pos weighted -ℤ owed) ≤ℤ pos (q * late) =
    jobs-le-late q (numerator v) (problem_weight k) (completion rows) (problem_due k) jobs
    (All-problem_jobs k (λ j. numerator v j ≤ q * problem_weight k j) are.within) in
    let below : fast + 2 * m * (wait + gain) ≤ 2 * m * weighted =
    add fast wait gain (2 * m) (sum_by (λ j. u j * completion rows j) jobs) weighted
    (shared-le-weighted k sound alike rows fits u)
    (moved-le-weighted k sound rows fits v l are.enough) in
    let all : (pos (fast + 2 * m * (wait + gain)) -ℤ (pos (2 * m) *ℤ owed)) ≤ℤ pos (2 * m * q * late) =
    less (fast + 2 * m * (wait + gain)) (2 * m * weighted) (2 * m * (q * late)) (2 * m * q * late)
    (pos (2 * m) *ℤ owed) below (scale (2 * m) weighted (q * late) owed within) (omega arith) in
    chain (shared_multiplier_value k v l q) (pos late) (problem_cost k rows)
    (share-le (pos (fast + 2 * m * (wait + gain)) -ℤ (pos (2 * m) *ℤ owed)) (2 * m * q) late
    (positive m q sound.some_machine some) all)
    (tardy-cost k.problem.goal sums k rows)
  where
    chain : (a b c : ℤ) → a ≤ℤ b → b ≤ℤ c → a ≤ℤ c
    chain a b c p r = omega (arith, ints)

    positive : (m q : ℕ) → 1 ≤ m → 1 ≤ q → 1 ≤ 2 * m * q
    positive m q one some =
        let up : 2 * m * 1 ≤ 2 * m * q = mul-le-mul_left (2 * m) some in
        omega (arith, up)

    add : (f w g n s t : ℕ) → f + n * w ≤ n * s → s + g ≤ t → f + n * (w + g) ≤ n * t
    add f w g n s t h le =
        let up : n * (s + g) ≤ n * t = mul-le-mul_left n le in
        omega (arith, up, h)

    scale : (n a b : ℕ) (o : ℤ) → (pos a -ℤ o) ≤ℤ pos b
        → (pos (n * a) -ℤ (pos n *ℤ o)) ≤ℤ pos (n * b)
    scale n a b (pos x) h =
        let up : n * a ≤ n * (b + x) = mul-le-mul_left n (omega (arith, ints, h)) in
        omega (arith, ints, up, pos-*ℤ-pos n x)
    scale n a b (negsuc x) h =
        let up : n * (a + suc x) ≤ n * b = mul-le-mul_left n (omega (arith, ints, h)) in
        omega (arith, ints, up, pos-*ℤ-negsuc n x)

    less : (p s b c : ℕ) (o : ℤ) → p ≤ s → (pos s -ℤ o) ≤ℤ pos b → b ≡ c → (pos p -ℤ o) ≤ℤ pos c
    less p s b c o h e is = omega (arith, ints, h, e, is)
