-- Operations of which each job has one: the timetable that they are laid in fits, and what its
-- weighted completions add up to at most.
use Rattle.std.proofs.Common.{◌≡◌, ◌≢◌, ◌⊎◌, ℕ, zero, suc, ◌+◌, ◌*◌, ◌<◌, ◌≤◌, pos, ◌≤ℤ◌, max, cond, eqb, List, [], ◌∷◌, ◌++◌, length, get_or, map, refl, sym, ap, subst, ◌∙◌, arith, inl, inr, IsFalse, mul-le-mul_left}
use Rattle.std.specs.List.{All, AllPairs, sum_by, fold, range_with_len}
use Rattle.std.specs.List.Sorted.{IsPermutation}
use Rattle.std.proofs.lemmas.Bool.{cases_eq}
use Rattle.std.proofs.lemmas.Bool.Decides.{nat_tests}
use Rattle.std.proofs.lemmas.Int.{ints}
use Rattle.std.proofs.lemmas.List.{get_or-map, length-map}
use Rattle.std.proofs.lemmas.List.Elements.{All-head, All-tail}
use Rattle.std.proofs.lemmas.List.Sorted.{All-permutation, sum_by-IsPermutation}
use Rattle.std.proofs.lemmas.List.Sums.{sum_by-cons, sum_by-le-sum_by}
use Rattle.tf_model.specs.Cost.{Total, objective_of, cost, cost_by, total_price}
use Rattle.tf_model.specs.ClassTable.{is_shop, is_released, is_ordered}
use Rattle.tf_model.specs.Feasible.{Fits}
use Rattle.tf_model.specs.SchedulingTask.{SchedulingTask, IsJob, all_jobs, job_data, time_of}
use Rattle.tf_model.specs.Sound.{IsSound}
use Rattle.tf_model.specs.Timetable.{completion}
use Rattle.tf_model.proofs.Costs.{All-all_jobs}
use Rattle.tf_model.proofs.Loads.{IsDistinct-all_jobs}
use Rattle.tf_model.proofs.Sums.{sum_by-plus, sum_by-same_all}
use Rattle.tf_model.proofs.Work.{IsDistinct, distinct_apart}
use Rattle.tf_schedule.specs.declared.piece.Piece.{Piece}
use Rattle.tf_schedule.specs.declared.semi_active.Operation.{Operation}
use Rattle.tf_schedule.specs.Piece.{machine_of, job_of}
use Rattle.tf_schedule.specs.Drawing.{drawing, stop_of}
use Rattle.tf_schedule.specs.Amounts.{last_stop}
use Rattle.tf_schedule.specs.SemiActive.{machine_stop, job_stop, stretch, start_after, with_operation, laid}
use Rattle.tf_schedule.proofs.Counting.{sum_by-map, sum_range-same, sum_single_in}
use Rattle.tf_schedule.proofs.Drawing.{completion-drawing}
use Rattle.tf_schedule.proofs.LaidFits.{IsListed, laid_sound, laid_none_twice, laid_on_machines, laid_fits_plain}
use Rattle.tf_schedule.proofs.Laying.{Keeps, line_stop-own, line_stop-other}
use Rattle.tf_schedule.proofs.Times.{sound_times}

-- the jobs of the operations
abbrev pub jobs_of : List Operation → List ℕ
jobs_of os = map (λ o. o.job) os

-- each job of the task has one operation, for all its time, on one of the machines
pub record IsOneEach (k : SchedulingTask) (os : List Operation) : Type 0 where
  pub jobs : IsPermutation (all_jobs k) (jobs_of os)
  pub times : All (λ o. o.time ≡ time_of k o.job) os
  pub machines : All (λ o. (0 < o.machine) × (o.machine ≤ k.machines)) os

-- ---- the weighted completions

-- when each machine is free, where machine i works for a time t more
abbrev pub front_after : (ℕ → ℕ) → ℕ → ℕ → ℕ → ℕ
front_after front i t h = front h + cond (eqb i h) t 0

-- the weighted sum of the ends of operations that start when their machines are free
abbrev pub weighted_ends : (ℕ → ℕ) → (ℕ → ℕ) → List Operation → ℕ
weighted_ends w front [] = 0
weighted_ends w front (o ∷ os) =
    w o.job * (front o.machine + o.time) + weighted_ends w (front_after front o.machine o.time) os

-- a job is free again when it is last over
pub job_stop_is : (ps : List Piece) (j : ℕ) → job_stop ps j ≡ last_stop ps j
job_stop_is [] j = refl
job_stop_is (p ∷ ps) j = ap (λ n. cond (eqb p.job j) (max (stop_of p) n) n) (job_stop_is ps j)

module _ (n : ℕ) (w : ℕ → ℕ) where
  -- the weighted sum of the last stops
  abbrev stops : List Piece → ℕ
  stops ps = sum_by (λ j. w j * job_stop ps j) (range_with_len 1 n)

  module _ (ps : List Piece) (j s t : ℕ) (i : ℕ) (fresh : job_stop ps j ≡ 0) where
    abbrev more : List Piece
    more = ps ++ stretch j i s t

    stop_more : (a : ℕ) → job_stop more a ≤ job_stop ps a + cond (eqb j a) (s + t) 0
    stop_more a = elim (cases_eq j a) [
      | inl same ↦
          let own = line_stop-own job_of ps j i s t a same (omega (arith, ap (job_stop ps) same)) in
          let yes : ◌≡◌ {A = ℕ} (cond (eqb j a) (s + t) 0) (s + t) = grind (arith, nat_tests) in
          omega (arith, own.1, yes)
      | inr differ ↦ omega (arith, line_stop-other job_of ps j i s t a differ)
    ]

    term : (a : ℕ) → w a * job_stop more a ≤ w a * job_stop ps a + cond (eqb j a) (w j * (s + t)) 0
    term a = elim (cases_eq j a) [
      | inl same ↦
          let yes : ◌≡◌ {A = ℕ} (cond (eqb j a) (w j * (s + t)) 0) (w j * (s + t)) =
          grind (arith, nat_tests) in
          let at : w j * (s + t) ≡ w a * (s + t) = ap (λ b. w b * (s + t)) same in
          let here : ◌≡◌ {A = ℕ} (cond (eqb j a) (s + t) 0) (s + t) = grind (arith, nat_tests) in
          let le : w a * job_stop more a ≤ w a * (job_stop ps a + (s + t)) =
          mul-le-mul_left (w a) (omega (arith, stop_more a, here)) in
          omega (arith, le, yes, at)
      | inr differ ↦
          let is : w a * job_stop more a ≡ w a * job_stop ps a =
          ap (λ c. w a * c) (line_stop-other job_of ps j i s t a differ) in
          omega (arith, is)
    ]

    stops_more : (0 < j) × (j ≤ n) → stops more ≤ stops ps + w j * (s + t)
    stops_more job =
        omega (
          arith,
          sum_by-le-sum_by (λ a. w a * job_stop more a)
              (λ a. w a * job_stop ps a + cond (eqb j a) (w j * (s + t)) 0)
              (range_with_len 1 n) term,
          sum_by-plus (λ a. w a * job_stop ps a) (λ a. cond (eqb j a) (w j * (s + t)) 0)
              (range_with_len 1 n),
          sum_single_in j (w j * (s + t)) n job.0 job.1,
        )

    front_more : (front : ℕ → ℕ) → machine_stop ps i ≤ s → s ≤ front i
        → ((h : ℕ) → machine_stop ps h ≤ front h)
        → (h : ℕ) → machine_stop more h ≤ front_after front i t h
    front_more front free start before h = elim (cases_eq i h) [
      | inl same ↦
          let own = line_stop-own machine_of ps j i s t h same
          (omega (arith, ap (machine_stop ps) same)) in
          let yes : ◌≡◌ {A = ℕ} (cond (eqb i h) t 0) t = grind (arith, nat_tests) in
          omega (arith, own.1, yes, ap front same)
      | inr differ ↦ omega (arith, before h, line_stop-other machine_of ps j i s t h differ)
    ]

  abbrev Differ : Operation → Operation → Type 0
  Differ o u = o.job ≢ u.job

  -- behind pieces of other jobs
  stops_fold : (os : List Operation) (ps : List Piece) (front : ℕ → ℕ)
      → ((h : ℕ) → machine_stop ps h ≤ front h)
      → All (λ o. job_stop ps o.job ≡ 0) os → All (λ o. (0 < o.job) × (o.job ≤ n)) os
      → AllPairs Differ os
      → stops (fold with_operation ps os) ≤ stops ps + weighted_ends w front os
  stops_fold [] ps front before fresh jobs differ = omega arith
  stops_fold (o ∷ os) ps front before fresh jobs differ =
      let s : ℕ = start_after ps o in
      let own : job_stop ps o.job ≡ 0 = All-head (λ u. job_stop ps u.job ≡ 0) o os fresh in
      let start : s ≤ front o.machine = omega (arith, before o.machine, own) in
      let free : machine_stop ps o.machine ≤ s = omega arith in
      let rest =
      stops_fold os (with_operation ps o) (front_after front o.machine o.time)
      (front_more ps o.job s o.time o.machine own front free start before)
      (λ a d h. line_stop-other job_of ps o.job o.machine s o.time (get_or os a d).job
      (differ zero (suc a) d (omega arith) (omega arith)) ∙ fresh (suc a) d (omega arith))
      (All-tail (λ u. (0 < u.job) × (u.job ≤ n)) o os jobs)
      (λ a b d lt within. differ (suc a) (suc b) d (omega arith) (omega arith)) in
      let last : w o.job * (s + o.time) ≤ w o.job * (front o.machine + o.time) =
      mul-le-mul_left (w o.job) (omega (arith, start)) in
      omega (
        arith,
        rest,
        stops_more ps o.job s o.time o.machine own
            (All-head (λ u. (0 < u.job) × (u.job ≤ n)) o os jobs),
        last,
      )

-- ---- the timetable

-- job j on machine i and job u on machine h are different jobs
abbrev pub OtherJob : ℕ → ℕ → ℕ → ℕ → Type 0
OtherJob j i u h = j ≢ u

module _ (k : SchedulingTask) (os : List Operation) (sound : IsSound k)
    (each : IsOneEach k os) where
  known_jobs : All (IsJob k) (jobs_of os)
  known_jobs = All-permutation (IsJob k) (all_jobs k) (jobs_of os) each.jobs
      (All-all_jobs k (IsJob k) (λ j h. h))

  job_known : (a : ℕ) (d : Operation) → a < length os → IsJob k (get_or os a d).job
  job_known a d h =
      subst (IsJob k) (get_or-map (λ o. o.job) os a d d.job h)
      (known_jobs a d.job (omega (arith, length-map os (λ o. o.job))))

  distinct_jobs : IsDistinct (jobs_of os)
  distinct_jobs c =
      omega (
        arith,
        sum_by-IsPermutation (λ j. cond (eqb c j) 1 0) (all_jobs k)
            (jobs_of os) each.jobs,
        IsDistinct-all_jobs k c,
      )

  apart_jobs : AllPairs (Keeps OtherJob) os
  apart_jobs a b d lt within same =
      let in' : b < length (jobs_of os) = omega (arith, length-map os (λ o. o.job)) in
      distinct_apart (jobs_of os) distinct_jobs a b d.job lt in'
      (get_or-map (λ o. o.job) os a d d.job (omega arith) ∙ same
      ∙ sym (get_or-map (λ o. o.job) os b d d.job within))

  -- a sum over the operations is one over the jobs
  sum_each : (f : Operation → ℕ) (g : ℕ → ℕ)
      → ((o : Operation) → o.time ≡ time_of k o.job → f o ≡ g o.job)
      → sum_by f os ≡ sum_by g (all_jobs k)
  sum_each f g same =
      sum_by-same_all f (λ o. g o.job) os (λ a d h. same (get_or os a d) (each.times a d h))
      ∙ sym (sum_by-map g (λ o. o.job) os)
      ∙ sum_by-IsPermutation g (all_jobs k) (jobs_of os) each.jobs

  pub one_listed : IsListed OtherJob k os
  one_listed = record {
    never = λ j i differ. differ refl;
    known = λ a d h. record { job = job_known a d h; machine = each.machines a d h };
    keeps = apart_jobs;
    total = omega (arith, sum_each (λ o. o.time) (time_of k) (λ o time. time), sound.total);
  }

  own_time : (j : ℕ) → IsJob k j → sum_by (λ o. cond (eqb o.job j) o.time 0) os ≡ time_of k j
  own_time j job =
      sum_each (λ o. cond (eqb o.job j) o.time 0) (λ i. cond (eqb j i) (time_of k j) 0)
      (λ o time. by_test o time (cases_eq o.job j))
      ∙ sum_single_in j (time_of k j) (length k.jobs) job.0 job.1
    where
      by_test : (o : Operation) → o.time ≡ time_of k o.job → (o.job ≡ j) ⊎ (o.job ≢ j)
          → cond (eqb o.job j) o.time 0 ≡ cond (eqb j o.job) (time_of k j) 0
      by_test o time (inl same) =
          let left : ◌≡◌ {A = ℕ} (cond (eqb o.job j) o.time 0) o.time = grind (arith, nat_tests) in
          let right : ◌≡◌ {A = ℕ} (cond (eqb j o.job) (time_of k j) 0) (time_of k j) =
          grind (arith, nat_tests) in
          left ∙ time ∙ ap (time_of k) same ∙ sym right
      by_test o time (inr differ) =
          let left : ◌≡◌ {A = ℕ} (cond (eqb o.job j) o.time 0) 0 = grind (arith, nat_tests) in
          let right : ◌≡◌ {A = ℕ} (cond (eqb j o.job) (time_of k j) 0) 0 =
          grind (arith, nat_tests) in
          left ∙ sym right

  pub one_fits : IsFalse (is_shop k.class) → IsFalse (is_released k.class)
      → IsFalse (is_ordered k.class) → Fits k (drawing k.machines (laid os))
  one_fits plain unreleased unordered =
      laid_fits_plain OtherJob k os sound one_listed plain unreleased own_time
      (λ j a b differ. differ refl)
      (λ some. absurd (omega (arith, some, ap length (sound.unordered unordered))))
      (no_arcs k.arcs (sound.unordered unordered))
    where
      no_arcs : (arcs : List (ℕ × ℕ)) → arcs ≡ []
          → All (λ arc. (arc.0 ≢ arc.1) × ((a b : ℕ) → ¬ (OtherJob arc.1 a arc.0 b))) arcs
      no_arcs [] none a d h = absurd (omega arith)
      no_arcs (arc ∷ arcs) none a d h = cc

  -- the weighted completions add up to at most the weighted ends, where each starts when its
  -- machine is free
  pub one_cost : objective_of k.class ≡ Total
      → cost k (drawing k.machines (laid os)) ≤ℤ pos
      (weighted_ends (λ j. (job_data k j).weight) (λ _. 0) os)
  one_cost total =
      let ps : List Piece = laid os in
      let w : ℕ → ℕ = λ j. (job_data k j).weight in
      let n : ℕ = length k.jobs in
      let at_total : cost k (drawing k.machines ps) ≡ pos (total_price k (drawing k.machines ps)) =
      ap (λ o. cost_by o k (drawing k.machines ps)) total in
      let completions : total_price k (drawing k.machines ps) ≡ stops n w ps =
      sum_range-same (λ j. w j * completion (drawing k.machines ps) j)
      (λ j. w j * job_stop ps j) 1 n
      (λ j low high. ap (λ c. w j * c)
      (completion-drawing k.machines ps j (laid_none_twice OtherJob k os sound one_listed)
      (laid_on_machines OtherJob k os sound one_listed)
      (λ a d h. sound_times (get_or ps a d) (laid_sound OtherJob k os sound one_listed a d h))
      low ∙ sym (job_stop_is ps j))) in
      let most = stops_fold n w os [] (λ _. 0) (λ h. omega arith)
      (λ a d h. refl) job_known apart_jobs in
      let none : stops n w [] ≡ 0 = sum_range-zero 1 n in
      omega (arith, ints, at_total, completions, most, none)
    where
      sum_range-zero : (a m : ℕ) → sum_by (λ j. (job_data k j).weight * 0) (range_with_len a m) ≡ 0
      sum_range-zero a zero = refl
      sum_range-zero a (suc m) =
          omega (
            arith,
            sum_by-cons (λ j. (job_data k j).weight * 0) a
                (range_with_len (a + 1) m),
            sum_range-zero (a + 1) m,
          )
