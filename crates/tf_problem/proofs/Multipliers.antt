-- The bound of weighted completions and weighted tardiness by multipliers of jobs (Potts and Van
-- Wassenhove 1985) and arcs, on the only machine or on one of a shop.
use Rattle.std.proofs.Common.{◌≡◌, ℕ, zero, suc, ◌+◌, ◌-◌, ◌*◌, ◌≤◌, ◌<◌, List, [], ◌∷◌, length, drop, refl, sym, ap, ◌∙◌, subst, ⊎_elim, arith, sum_by, All, ℤ, pos, negsuc, ◌+ℤ◌, ◌-ℤ◌, ◌*ℤ◌, ◌≤ℤ◌, IsTrue, mul-le-mul_left, mul-le-mul_right}
use Rattle.std.proofs.Math.IntN.{pos-*ℤ-pos, pos-*ℤ-negsuc}
use Rattle.std.proofs.lemmas.Int.{ints}
use Rattle.std.proofs.lemmas.Bool.{false≢true, cases_lt}
use Rattle.std.proofs.lemmas.List.Sums.{sum_by-cons}
use Rattle.std.proofs.lemmas.List.Elements.{All-nil, All-head, All-tail, All-drop}
use Rattle.tf_model.specs.declared.class.Class.TheVariants.{PrmpWeightedSum}
use Rattle.tf_model.specs.declared.problem.Goal.{Goal}
use Rattle.tf_model.specs.declared.problem.Goal.TheVariants as goals
use Rattle.tf_model.specs.Whole.{as_time}
use Rattle.tf_model.specs.Timetable.{Timetable, cell, all_units, completion}
use Rattle.tf_model.specs.SchedulingTask.{SchedulingTask, JobData, all_jobs, IsJob, job_data}
use Rattle.tf_model.specs.Feasible.{IsKept, FitsBroken}
use Rattle.tf_model.specs.Cost.{total_price}
use Rattle.tf_model.specs.Bounds.{pairs_value}
use Rattle.tf_model.proofs.Sums.{sum_by_le_all, sum_by-plus}
use Rattle.tf_model.proofs.Units.{cell_at_completion}
use Rattle.tf_model.proofs.Costs.{All-all_jobs}
use Rattle.tf_model.proofs.Loads.{IsDistinct-all_jobs, div_ceil_least}
use Rattle.tf_model.proofs.Pairs.{pairs-le-weighted}
use Rattle.tf_check.specs.Bound.{least_number}
use Rattle.tf_posed.specs.ProblemData.{ProblemData, IsProblemSound, IsProblemJob, problem_jobs, problem_time_on, weight_by, problem_weight, due_by, problem_due}
use Rattle.tf_posed.specs.FitsProblem.{FitsProblem}
use Rattle.tf_posed.specs.ProblemCost.{problem_cost, problem_cost_by, IsLowerBound}
use Rattle.tf_problem.specs.Relaxed.{weighed_task, only_time}
use Rattle.tf_problem.specs.ProblemBounds.{head, tail, int_sum, share_up, numerator, arcs_from, arcs_to, arcs_gain, moved, AreMultipliers, owed_dues, arc_multiplier_value, is_tardy_goal, is_by_machine}
use Rattle.tf_problem.proofs.ProblemLists.{units_from, drop_cell}
use Rattle.tf_posed.proofs.Conditions.{All-problem_jobs}
use Rattle.tf_problem.proofs.Relaxing.{length-task_by, job-task_by, problem-job}
use Rattle.tf_problem.proofs.Dropped.{total-task_by}
use Rattle.tf_problem.proofs.Least.{least_number-le-job}
use Rattle.tf_problem.proofs.Routes.{units-on, head-le-row, tail-after-row, route-le-completion}
use Rattle.tf_problem.proofs.Lanes.{lane, lane_width, lane_cell, lane_units, lane_jobs, lane_once}
use Rattle.tf_problem.proofs.Arcs.{arcs-completions}

-- ---- due dates

at-most-as_time : (z : ℤ) (t : ℕ) → pos t ≤ℤ z → t ≤ as_time z
at-most-as_time (pos n) t h = omega (arith, ints)
at-most-as_time (negsuc n) t h = absurd (omega (arith, ints))

pub as_time-at-most : (z : ℤ) (t : ℕ) → z ≤ℤ pos t → as_time z ≤ t
as_time-at-most (pos n) t h = omega (arith, ints)
as_time-at-most (negsuc n) t h = omega arith

-- the completion less the due date, times v, is at most the tardiness times n
job-le-late : (v n c : ℕ) (d : ℤ) → v ≤ n
    → (pos (v * c) -ℤ (pos v *ℤ d)) ≤ℤ pos (n * as_time (pos c -ℤ d))
job-le-late v n c d le = by (as_time (pos c -ℤ d)) d (at-most-as_time (pos c -ℤ d))
  where
    by : (late : ℕ) (d : ℤ) → ((t : ℕ) → pos t ≤ℤ (pos c -ℤ d) → t ≤ late)
        → (pos (v * c) -ℤ (pos v *ℤ d)) ≤ℤ pos (n * late)
    by late (pos m) least =
        let more : v * late ≤ n * late = mul-le-mul_right late le in
        ⊎_elim
        (λ early. let within : v * c ≤ v * m = mul-le-mul_left v (omega arith) in
        omega (arith, ints, within, pos-*ℤ-pos v m))
        (λ still.
        let over : c - m ≤ late = least (c - m) (omega (arith, ints, still)) in
        let whole : v * c ≤ v * (late + m) = mul-le-mul_left v (omega (arith, over, still)) in
        omega (arith, ints, whole, more, pos-*ℤ-pos v m))
        (cases_lt c m)
    by late (negsuc m) least =
        let more : v * late ≤ n * late = mul-le-mul_right late le in
        let over : c + suc m ≤ late = least (c + suc m) (omega (arith, ints)) in
        let whole : v * (c + suc m) ≤ v * late = mul-le-mul_left v over in
        omega (arith, ints, whole, more, pos-*ℤ-negsuc v m)

-- and so it is with the sums
pub jobs-le-late : (q : ℕ) (v w c : ℕ → ℕ) (d : ℕ → ℤ) (jobs : List ℕ) → All (λ j. v j ≤ q * w j) jobs
    → (pos (sum_by (λ j. v j * c j) jobs) -ℤ int_sum (λ j. pos (v j) *ℤ d j) jobs)
    ≤ℤ pos (q * sum_by (λ j. w j * as_time (pos (c j) -ℤ d j)) jobs)
jobs-le-late q v w c d [] le = omega (arith, ints)
jobs-le-late q v w c d (j ∷ jobs) le =
    let late : ℕ → ℕ = λ i. as_time (pos (c i) -ℤ d i) in
    let owed : ℕ → ℤ = λ i. pos (v i) *ℤ d i in
    step (v j * c j) (sum_by (λ i. v i * c i) jobs) (q * w j * late j)
    (q * sum_by (λ i. w i * late i) jobs) (owed j) (int_sum owed jobs)
    (sum_by (λ i. v i * c i) (j ∷ jobs)) (q * sum_by (λ i. w i * late i) (j ∷ jobs))
    (job-le-late (v j) (q * w j) (c j) (d j) (All-head (λ i. v i ≤ q * w i) j jobs le))
    (jobs-le-late q v w c d jobs (All-tail (λ i. v i ≤ q * w i) j jobs le))
    (sum_by-cons (λ i. v i * c i) j jobs)
    (ap (λ s. q * s) (sum_by-cons (λ i. w i * late i) j jobs) ∙ omega arith)
  where
    step : (a b s t : ℕ) (y z : ℤ) (ab st : ℕ) → (pos a -ℤ y) ≤ℤ pos s → (pos b -ℤ z) ≤ℤ pos t
        → ab ≡ a + b → st ≡ s + t → (pos ab -ℤ (y +ℤ z)) ≤ℤ pos st
    step a b s t y z ab st p r e f = omega (arith, ints)

-- a share of what q times a number is at least, rounded up, is at most that number
pub share-le : (z : ℤ) (q cost : ℕ) → 1 ≤ q → z ≤ℤ pos (q * cost) → share_up z q ≤ℤ pos cost
share-le (pos n) q cost some le =
    let within : n ≤ cost * q = omega (arith, ints, le) in
    let least = div_ceil_least n q cost some within in
    omega (arith, ints, least)
share-le (negsuc n) q cost some le = omega (arith, ints)

-- ---- the cost

-- the weighted tardiness: where the objective has no weights they are 1, and where it has no due
-- dates they are 0
abbrev pub tardy : Goal → ProblemData → Timetable → ℕ → ℕ
tardy g k rows j = weight_by g k j * as_time (pos (completion rows j) -ℤ due_by g k j)

pub tardy-cost : (g : Goal) → IsTrue (is_tardy_goal g) → (k : ProblemData) (rows : Timetable)
    → pos (sum_by (tardy g k rows) (problem_jobs k)) ≤ℤ problem_cost_by g k rows
tardy-cost goals.SumWT h k rows = omega (arith, ints)
tardy-cost goals.SumT h k rows =
    let le : sum_by (tardy goals.SumT k rows) (problem_jobs k)
    ≤ sum_by (λ j. as_time (pos (completion rows j) -ℤ due_by goals.SumT k j)) (problem_jobs k) =
    sum_by_le_all (tardy goals.SumT k rows)
    (λ j. as_time (pos (completion rows j) -ℤ due_by goals.SumT k j)) (problem_jobs k)
    (λ i d h. omega arith) in
    omega (arith, ints, le)
tardy-cost goals.SumC h k rows =
    let le : sum_by (tardy goals.SumC k rows) (problem_jobs k) ≤ sum_by (completion rows) (problem_jobs k) =
    sum_by_le_all (tardy goals.SumC k rows) (completion rows) (problem_jobs k)
    (All-problem_jobs k (λ j. tardy goals.SumC k rows j ≤ completion rows j)
    (λ j h. omega (
      arith,
      as_time-at-most (pos (completion rows j) -ℤ pos 0) (completion rows j) (omega (arith, ints)),
    ))) in
    omega (arith, ints, le)
tardy-cost goals.SumWC h k rows =
    let w : ℕ → ℕ = weight_by goals.SumWC k in
    let le : sum_by (tardy goals.SumWC k rows) (problem_jobs k)
    ≤ sum_by (λ j. w j * completion rows j) (problem_jobs k) =
    sum_by_le_all (tardy goals.SumWC k rows) (λ j. w j * completion rows j) (problem_jobs k)
    (All-problem_jobs k (λ j. tardy goals.SumWC k rows j ≤ w j * completion rows j)
    (λ j h. mul-le-mul_left (w j)
    (as_time-at-most (pos (completion rows j) -ℤ pos 0) (completion rows j) (omega (arith, ints))))) in
    omega (arith, ints, le)
tardy-cost _ h k rows = absurd (false≢true h)

-- ---- one machine from a time on

module _ (k : ProblemData) (sound : IsProblemSound k) (by : IsTrue (is_by_machine k.problem.env))
    (rows : Timetable) (fits : FitsProblem k rows) (a : ℕ) (in' : a < k.machines) (r : ℕ)
    (early : (j : ℕ) → IsProblemJob k j → r ≤ head k a j) where
  abbrev other : Timetable
  other = lane a (drop r rows)

  other_cell : (j : ℕ) → IsProblemJob k j → (t i : ℕ) → cell other t i ≡ j → cell rows (r + t) a ≡ j
  other_cell j h t i e = sym (drop_cell rows r t a) ∙ lane_cell a (drop r rows) t i j h.0 e

  other_units : (j : ℕ) → IsProblemJob k j → all_units other j ≡ problem_time_on k j a
  other_units j h =
      lane_units a (drop r rows) j
      ∙ units_from rows j a r
      (λ s c. omega (
        arith,
        early j h,
        head-le-row k sound rows fits by j h a s in' c,
      ))
      ∙ units-on k sound rows fits by j h a in'

  -- a job completes its tail after it is over on the machine
  other_completion : (j : ℕ) → IsProblemJob k j
      → completion other j + (r + tail k a j) ≤ completion rows j
  other_completion j h = at (completion other j) refl
    where
      at : (c : ℕ) → completion other j ≡ c → c + (r + tail k a j) ≤ completion rows j
      at zero e =
          omega (
            arith,
            early j h,
            route-le-completion k sound rows fits by j h a,
          )
      at (suc t) e =
          let last = cell_at_completion j other t e in
          omega (
            arith,
            tail-after-row k sound rows fits by j h a (r + t) in'
                (other_cell j h t last.0 last.1),
          )

  other-fits : (w : ℕ → ℕ) → FitsBroken (weighed_task k a w) other
  other-fits w =
      let f : ℕ → JobData = λ j. record (only_time (problem_time_on k j a)) { weight = w j } in
      let job : (j : ℕ) → IsJob (weighed_task k a w) j → IsProblemJob k j =
      problem-job k PrmpWeightedSum 1 f in
      let its_row : (j : ℕ) → IsProblemJob k j → job_data (weighed_task k a w) j ≡ f j =
      job-task_by k PrmpWeightedSum 1 f in
      record {
        width = lane_width a (drop r rows);
        jobs_only = subst (λ n. All (λ row. All (λ j. j ≤ n) row) other)
            (sym (length-task_by k PrmpWeightedSum 1 f))
            (lane_jobs a (length k.jobs) (drop r rows)
            (All-drop (λ row. All (λ j. j ≤ length k.jobs) row) r rows fits.jobs_only));
        single_place = λ j low high. lane_once a j (drop r rows);
        amount = λ j low high. let h : IsProblemJob k j = job j (low, high) in
            record {
              in_all = λ _. omega (
                arith,
                other_units j h,
                ap (λ d. d.first) (its_row j h),
                ap (λ d. d.second) (its_row j h),
              );
              on_each = λ shop. absurd (false≢true shop);
            };
        released = λ j low high t i c. omega (arith, ap (λ d. d.release) (its_row j (job j (low, high))));
        in_order = All-nil (IsKept other);
        in_flow = λ flow. absurd (false≢true flow);
      }

-- ---- weighted completions

module _ (k : ProblemData) (sound : IsProblemSound k) (rows : Timetable) (fits : FitsProblem k rows) where
  -- ---- one machine

  -- weighted completions are at least those on a machine, in Smith's order, and what each job waits for
  -- the machine and has to go behind it
  pub machine-le-weighted : IsTrue (is_by_machine k.problem.env) → (a : ℕ) → a < k.machines
      → (u : ℕ → ℕ)
      → pairs_value (weighed_task k a u)
      + sum_by (λ j. u j * (least_number (head k a) (problem_jobs k) + tail k a j)) (problem_jobs k)
      ≤ sum_by (λ j. u j * completion rows j) (problem_jobs k)
  machine-le-weighted by a in' u =
      let r : ℕ = least_number (head k a) (problem_jobs k) in
      let early : (j : ℕ) → IsProblemJob k j → r ≤ head k a j = least_number-le-job k (head k a) in
      let f : ℕ → JobData = λ j. record (only_time (problem_time_on k j a)) { weight = u j } in
      let task : SchedulingTask = weighed_task k a u in
      let lone : Timetable = other k sound by rows fits a in' r early in
      let broken : FitsBroken task lone = other-fits k sound by rows fits a in' r early u in
      let pairs : pairs_value task ≤ total_price task lone =
      pairs-le-weighted task lone broken refl (λ j. (job_data task j).weight) (all_jobs task)
      (IsDistinct-all_jobs task) (All-all_jobs task (IsJob task) (λ j h. h)) in
      let total : total_price task lone ≤ sum_by (λ j. u j * completion lone j) (problem_jobs k) =
      total-task_by k PrmpWeightedSum 1 f lone in
      let m : ℕ → ℕ = λ j. r + tail k a j in
      let each : sum_by (λ j. u j * completion lone j + u j * m j) (problem_jobs k)
      ≤ sum_by (λ j. u j * completion rows j) (problem_jobs k) =
      sum_by_le_all (λ j. u j * completion lone j + u j * m j) (λ j. u j * completion rows j)
      (problem_jobs k)
      (All-problem_jobs k
      (λ j. u j * completion lone j + u j * m j ≤ u j * completion rows j)
      (λ j h.
      let le : u j * (completion lone j + m j) ≤ u j * completion rows j =
      mul-le-mul_left (u j) (other_completion k sound by rows fits a in' r early j h) in
      omega (arith, le))) in
      omega (
        arith,
        pairs,
        total,
        each,
        sum_by-plus (λ j. u j * completion lone j) (λ j. u j * m j) (problem_jobs k),
      )

  -- ---- arcs

  -- moved weights and what the arcs gain are at most the weights themselves
  pub moved-le-weighted : (v l : List ℕ)
      → ((j : ℕ) → IsProblemJob k j → arcs_to k l j ≤ numerator v j + arcs_from k l j)
      → sum_by (λ j. moved k v l j * completion rows j) (problem_jobs k) + arcs_gain k l
      ≤ sum_by (λ j. numerator v j * completion rows j) (problem_jobs k)
  moved-le-weighted v l enough =
      let c : ℕ → ℕ = completion rows in
      let jobs : List ℕ = problem_jobs k in
      let each : sum_by (λ j. moved k v l j * c j + arcs_to k l j * c j) jobs
      ≤ sum_by (λ j. numerator v j * c j + arcs_from k l j * c j) jobs =
      sum_by_le_all (λ j. moved k v l j * c j + arcs_to k l j * c j)
      (λ j. numerator v j * c j + arcs_from k l j * c j) jobs
      (All-problem_jobs k
      (λ j. moved k v l j * c j + arcs_to k l j * c j ≤ numerator v j * c j + arcs_from k l j * c j)
      (λ j h. move (numerator v j) (arcs_from k l j) (arcs_to k l j) (c j) (enough j h))) in
      omega (
        arith,
        each,
        arcs-completions k sound rows fits l,
        sum_by-plus (λ j. moved k v l j * c j) (λ j. arcs_to k l j * c j) jobs,
        sum_by-plus (λ j. numerator v j * c j) (λ j. arcs_from k l j * c j) jobs,
      )
    where
      move : (v from to c : ℕ) → to ≤ v + from → (v + from - to) * c + to * c ≤ v * c + from * c
      move v from to c le =
          let same : (v + from - to + to) * c ≡ (v + from) * c = ap (λ s. s * c) (omega arith) in
          omega (arith, same)

-- ---- the bound

pub arc_multipliers-bound : (k : ProblemData) → IsProblemSound k → IsTrue (is_by_machine k.problem.env)
    → IsTrue (is_tardy_goal k.problem.goal) → (a : ℕ) → a < k.machines → (v l : List ℕ) (q : ℕ)
    → 1 ≤ q → AreMultipliers k v l q → IsLowerBound k (arc_multiplier_value k a v l q)
arc_multipliers-bound k sound by sums a in' v l q some are rows fits =
    let u : ℕ → ℕ = moved k v l in
    let jobs : List ℕ = problem_jobs k in
    let wait : ℕ = sum_by (λ j. u j * (least_number (head k a) (problem_jobs k) + tail k a j)) jobs in
    let pairs : ℕ = pairs_value (weighed_task k a u) in
    let gain : ℕ = arcs_gain k l in
    let weighted : ℕ = sum_by (λ j. numerator v j * completion rows j) jobs in
    let owed : ℤ = owed_dues k v in
    let late : ℕ = sum_by (tardy k.problem.goal k rows) jobs in
    let within : (pos weighted -ℤ owed) ≤ℤ pos (q * late) =
    jobs-le-late q (numerator v) (problem_weight k) (completion rows) (problem_due k) jobs
    (All-problem_jobs k (λ j. numerator v j ≤ q * problem_weight k j) are.within) in
    let below : pairs + wait + gain ≤ weighted =
    omega (
      arith,
      machine-le-weighted k sound rows fits by a in' u,
      moved-le-weighted k sound rows fits v l are.enough,
    ) in
    chain (arc_multiplier_value k a v l q) (pos late) (problem_cost k rows)
    (share-le (pos (pairs + wait + gain) -ℤ owed) q late some
    (less (pairs + wait + gain) weighted (q * late) owed below within))
    (tardy-cost k.problem.goal sums k rows)
  where
    chain : (a b c : ℤ) → a ≤ℤ b → b ≤ℤ c → a ≤ℤ c
    chain a b c p r = omega (arith, ints)

    less : (p s l : ℕ) (o : ℤ) → p ≤ s → (pos s -ℤ o) ≤ℤ pos l → (pos p -ℤ o) ≤ℤ pos l
    less p s l o h e = omega (arith, ints)
