-- What is not refused makes a sound task.
use Rattle.std.specs.Prelude.{unwrap_or}
use Rattle.std.proofs.Common.{◌≡◌, ℕ, zero, suc, ◌+◌, ◌-◌, ◌*◌, ◌≤◌, ◌<◌, ◌||◌, ◌&&◌, not, Bool, true, false, Option, None, Some, Ok, Err, List, [], ◌∷◌, length, map, get_or, cond, ltb, eqb, refl, sym, ap, ◌∙◌, subst, arith, All, position, IsTrue, IsFalse, ℤ, pos, negsuc, ◌≤ℤ◌, int_lt, sum_by}
use Rattle.std.proofs.Math.Nat.{mul-le-mul_left}
use Rattle.std.specs.Bool.{then_some}
use Rattle.std.specs.Option.{option_map, option_or}
use Rattle.std.specs.List.{position_or_len}
use Rattle.std.proofs.lemmas.Bool.{ltb-false, cond-false, cond-true}
use Rattle.std.proofs.lemmas.Int.{ints}
use Rattle.std.proofs.lemmas.List.{get_or-map, length-map}
use Rattle.std.proofs.lemmas.List.Sums.{fails_before_first}
use Rattle.tf_model.specs.Limit.{limit, most_jobs, most_machines, most_arcs}
use Rattle.tf_model.specs.declared.class.Class.{Class}
use Rattle.tf_model.specs.declared.job.Times.{Times}
use Rattle.tf_model.specs.declared.job.Times.TheVariants.{One, Two}
use Rattle.tf_model.specs.declared.instance.InstanceFault.TheVariants.{NoJobs, TooManyJobs, TooManyArcs, NegativeNumber, OutOfRange, BadArc}
use Rattle.tf_model.specs.declared.prepare.Refusal.TheVariants.{MachineCount, WrongTimes, ZeroTime, TotalTooLarge}
use Rattle.tf_model.specs.Whole.{as_time, IsWithin}
use Rattle.tf_model.specs.Steps.{no_steps}
use Rattle.tf_model.specs.StepFaults.{IsStepCost}
use Rattle.tf_model.specs.CostLaws.{late_law, none_of_two, step_law}
use Rattle.tf_model.specs.JobFields.{JobFields}
use Rattle.tf_model.specs.InstanceData.{InstanceData, IsInstance, any_time, any_given, is_beyond, has_negative, has_beyond, is_no_job, is_bad_arc, first_with, count_fault, counts_fault}
use Rattle.tf_model.specs.SchedulingTask.{JobData, no_job, SchedulingTask, IsJob, job_data, time_of, all_jobs, costs_of}
use Rattle.tf_model.specs.ClassTable.{is_single, is_shop, is_weighted, is_released, is_due, is_costed, is_ordered, is_sum, is_dearest}
use Rattle.tf_model.specs.Cost.{Objective, Makespan, Lateness, Dearest, Total, objective_of, price_by}
use Rattle.tf_model.specs.Sound.{IsSound}
use Rattle.tf_model.specs.Outcome.{◌>>=◌}
use Rattle.tf_model.specs.CountFor.{IsCountFor}
use Rattle.tf_model.specs.Prepare.{agreed, given, count_for, machines_for, has_two, has_wrong_times, missing_from, has_zero_time, zero_time, first_time, second_time, data_of, steps_of, kept_costs, task_of, work_of, greatest_of, is_too_large, jobs_refusal}
use Rattle.tf_model.proofs.Classes.{shop_not_single}
use Rattle.tf_model.proofs.Outcomes.{bind_ok}
use Rattle.tf_model.proofs.Costs.{sum_by-all_jobs}

-- ---- what an absent fault says

pub none_mapped : {A B : Type 0} (f : A → B) (o : Option A) → option_map f o ≡ None → o ≡ None
none_mapped f (Some x) e = cc
none_mapped f None e = refl

not_then : {A : Type 0} (b : Bool) (x : A) → then_some b x ≡ None → b ≡ false
not_then true x e = cc
not_then false x e = refl

pub neither : (a b : Bool) → (a || b) ≡ false → (a ≡ false) × (b ≡ false)
neither true b e = cc
neither false b e = (refl, e)

not_both : (a b : Bool) → (a && b) ≡ false → a ≡ true → b ≡ false
not_both true b e t = e
not_both false b e t = cc

not_below : (n : ℕ) → ltb n 1 ≡ false → 1 ≤ n
not_below n e = ltb-false n 1 e

pub none_at : {X : Type 0} (p : X → Bool) (xs : List X) → position p xs ≡ None
    → All (λ x. p x ≡ false) xs
none_at p xs e k d h =
    fails_before_first p xs k d
    (omega (arith, h, beyond (ltb (position_or_len p xs) (length xs)) refl e))
  where
    beyond : (b : Bool) → ltb (position_or_len p xs) (length xs) ≡ b
        → cond b (Some (position_or_len p xs)) None ≡ None → length xs ≤ position_or_len p xs
    beyond true is e = cc
    beyond false is e = ltb-false _ _ is

-- ---- the number of machines

count_for-Ok : (class : Class) (n m : ℕ) → count_for class n ≡ Ok m → count_for class m ≡ Ok m
count_for-Ok class n m e = let is : n ≡ m = same _ e in subst (λ z. count_for class z ≡ Ok m) is e
  where
    same : (t : Bool) → cond t (Err (MachineCount n)) (Ok n) ≡ Ok m → n ≡ m
    same true e = cc
    same false e = cc

pub IsCountFor-machines_for : (class : Class) (notation argument instance : Option ℕ) (m : ℕ)
    → machines_for class notation argument instance ≡ Ok m → IsCountFor class m
IsCountFor-machines_for class notation argument instance m = by_single (is_single class)
  where
    at_last : (agreed notation argument >>= λ x. agreed x instance >>= λ y. given y
        >>= λ n. count_for class n) ≡ Ok m
        → count_for class m ≡ Ok m
    at_last e =
        let first = bind_ok (agreed notation argument)
        (λ x. agreed x instance >>= λ y. given y >>= λ n. count_for class n) m e in
        let second =
        bind_ok (agreed first.0 instance) (λ y. given y >>= λ n. count_for class n) m first.2 in
        let third = bind_ok (given second.0) (λ n. count_for class n) m second.2 in
        count_for-Ok class third.0 m third.2

    by_single : (s : Bool)
        → cond s (Ok 1)
        (agreed notation argument >>= λ x. agreed x instance >>= λ y. given y
        >>= λ n. count_for class n) ≡ Ok m
        → cond s (Ok 1) (count_for class m) ≡ Ok m
    by_single true e = e
    by_single false e = at_last e

record FitsMachines (class : Class) (m : ℕ) : Type 0 where
  some : 1 ≤ m
  few : m ≤ most_machines
  single : IsTrue (is_single class) → m ≡ 1
  shop : IsTrue (is_shop class) → m ≡ 2

counted : (class : Class) (m : ℕ) → IsCountFor class m → FitsMachines class m
counted class m = by_single (is_single class) refl
  where
    accepted : (t : Bool) → cond t (Err (MachineCount m)) (Ok m) ≡ Ok m → t ≡ false
    accepted true e = cc
    accepted false e = refl

    has_two_of : (b : Bool) → eqb m 2 ≡ b → not b ≡ false → m ≡ 2
    has_two_of true is e = grind (arith, is)
    has_two_of false is e = cc

    by_single : (s : Bool) → is_single class ≡ s → cond s (Ok 1) (count_for class m) ≡ Ok m
        → FitsMachines class m
    by_single true is e =
        let one : m ≡ 1 = cc in
        record {
          some = omega arith;
          few = omega arith;
          single = λ _. one;
          shop = λ h. let not : is_single class ≡ false = shop_not_single class h in cc;
        }
    by_single false is e =
        let tests = neither (ltb m 1 || ltb most_machines m) (is_shop class && not (eqb m 2))
        (accepted _ e) in
        let counts = neither (ltb m 1) (ltb most_machines m) tests.0 in
        record {
          some = ltb-false m 1 counts.0;
          few = ltb-false most_machines m counts.1;
          single = λ h. cc;
          shop = λ h. has_two_of (eqb m 2) refl (not_both (is_shop class) (not (eqb m 2)) tests.1 h);
        }

-- ---- numbers

-- a job of which nothing is said
abbrev no_fields : JobFields
no_fields = record { times = One (pos 0); weight = None; due = None; release = None; cost = None }

one_work : (times : Times) → has_two times ≡ false → any_time (λ p. int_lt p (pos 1)) times ≡ false
    → 1 ≤ as_time (first_time times) + as_time (second_time times)
one_work (One (pos n)) one worked = omega (arith, ints)
one_work (One (negsuc n)) one worked = cc
one_work (Two a b) one worked = cc

no_second : (times : Times) → has_two times ≡ false → as_time (second_time times) ≡ 0
no_second (One a) one = refl
no_second (Two a b) one = cc

within : (z : ℤ) → is_beyond z ≡ false → IsWithin z
within (pos n) e = let le : n ≤ limit = ltb-false _ _ e in
    (omega (arith, ints), omega (arith, ints))
within (negsuc n) e = let le : suc n ≤ limit = ltb-false _ _ e in
    (omega (arith, ints), omega (arith, ints))

due_within : (due : Option ℤ) → any_given is_beyond due ≡ false → IsWithin (unwrap_or due (pos 0))
due_within None e = within (pos 0) refl
due_within (Some z) e = within z e

kept_within : (b : Bool) (z : ℤ) → IsWithin z → IsWithin (cond b z (pos 0))
kept_within true z h = h
kept_within false z h = within (pos 0) refl

release-le-greatest : (jobs : List JobData) (i : ℕ) (d : JobData) → i < length jobs
    → (get_or jobs i d).release ≤ greatest_of (map (λ (job : JobData). job.release) jobs)
release-le-greatest [] i d h = absurd (omega (arith, h))
release-le-greatest (job ∷ jobs) zero d h = omega arith
release-le-greatest (job ∷ jobs) (suc i) d h =
    omega (arith, release-le-greatest jobs i d (omega (arith, h)))

-- ---- costs

price_rises : (o : Objective) (k : SchedulingTask) (j c e : ℕ)
    → (o ≡ Dearest → IsStepCost (costs_of k j)) → c ≤ e → price_by o k j c ≤ℤ price_by o k j e
price_rises Makespan k j c e steps le = omega (arith, ints)
price_rises Lateness k j c e steps le = late_law (job_data k j).due c e le
price_rises Dearest k j c e steps le = step_law (costs_of k j) c e (steps refl) le
price_rises Total k j c e steps le =
    let less : (job_data k j).weight * c ≤ (job_data k j).weight * e =
    mul-le-mul_left (job_data k j).weight le in omega (arith, ints)

-- ---- times

-- where nothing is refused, each job has as many times as the class wants
pub times_right : (class : Class) (jobs : List JobFields) → jobs_refusal class jobs ≡ None
    → All (λ job. has_wrong_times class job ≡ false) jobs
times_right class jobs refusal =
    let parts = none_of_two (option_map WrongTimes (first_with (has_wrong_times class) jobs))
    (option_or (missing_from class 1 jobs)
    (option_or (zero_time class jobs)
    (then_some (is_too_large class (map (data_of class) jobs)) TotalTooLarge))) refusal in
    none_at (has_wrong_times class) jobs (none_mapped _ _ (none_mapped _ _ parts.0))

-- ---- the task

module _ (class : Class) (m : ℕ) (i : InstanceData) (instance : IsInstance i)
    (refusal : jobs_refusal class i.jobs ≡ None) where
  few : (1 ≤ length i.jobs) × (length i.jobs ≤ most_jobs) × (length i.arcs ≤ most_arcs)
  few =
      let counts =
      none_of_two (counts_fault (length i.jobs) i.machines (length i.arcs))
      (option_or (option_map NegativeNumber (first_with has_negative i.jobs))
      (option_or (option_map OutOfRange (first_with has_beyond i.jobs))
      (option_map BadArc (first_with (is_bad_arc (length i.jobs)) i.arcs)))) instance in
      let no_jobs =
      none_of_two (then_some (eqb (length i.jobs) 0) NoJobs)
      (option_or (then_some (ltb most_jobs (length i.jobs)) TooManyJobs)
      (option_or (count_fault i.machines)
      (then_some (ltb most_arcs (length i.arcs)) TooManyArcs))) counts.0 in
      let many_jobs =
      none_of_two (then_some (ltb most_jobs (length i.jobs)) TooManyJobs)
      (option_or (count_fault i.machines)
      (then_some (ltb most_arcs (length i.arcs)) TooManyArcs)) no_jobs.1 in
      let many_arcs =
      none_of_two (count_fault i.machines) (then_some (ltb most_arcs (length i.arcs)) TooManyArcs)
      many_jobs.1 in (
        not_zero (length i.jobs) (not_then _ _ no_jobs.0),
        ltb-false _ _ (not_then _ _ many_jobs.0),
        ltb-false _ _ (not_then _ _ many_arcs.1),
      )
    where
      not_zero : (n : ℕ) → eqb n 0 ≡ false → 1 ≤ n
      not_zero zero e = cc
      not_zero (suc n) e = omega arith

  few_arcs : (is_kept : Bool) → length (cond is_kept i.arcs []) ≤ most_arcs
  few_arcs true = few.2
  few_arcs false = omega arith

  good_jobs : All (λ job. has_beyond job ≡ false) i.jobs
      × All (λ arc. is_bad_arc (length i.jobs) arc ≡ false) i.arcs
  good_jobs =
      let counts =
      none_of_two (counts_fault (length i.jobs) i.machines (length i.arcs))
      (option_or (option_map NegativeNumber (first_with has_negative i.jobs))
      (option_or (option_map OutOfRange (first_with has_beyond i.jobs))
      (option_map BadArc (first_with (is_bad_arc (length i.jobs)) i.arcs)))) instance in
      let negative =
      none_of_two (option_map NegativeNumber (first_with has_negative i.jobs))
      (option_or (option_map OutOfRange (first_with has_beyond i.jobs))
      (option_map BadArc (first_with (is_bad_arc (length i.jobs)) i.arcs))) counts.1 in
      let beyond =
      none_of_two (option_map OutOfRange (first_with has_beyond i.jobs))
      (option_map BadArc (first_with (is_bad_arc (length i.jobs)) i.arcs)) negative.1 in (
        none_at has_beyond i.jobs (none_mapped _ _ (none_mapped _ _ beyond.0)),
        none_at (is_bad_arc (length i.jobs)) i.arcs (none_mapped _ _ (none_mapped _ _ beyond.1)),
      )

  right_times : All (λ job. has_wrong_times class job ≡ false) i.jobs
  right_times = times_right class i.jobs refusal

  enough : (zero_time class i.jobs ≡ None)
      × (is_too_large class (map (data_of class) i.jobs) ≡ false)
  enough =
      let parts = none_of_two (option_map WrongTimes (first_with (has_wrong_times class) i.jobs))
      (option_or (missing_from class 1 i.jobs)
      (option_or (zero_time class i.jobs)
      (then_some (is_too_large class (map (data_of class) i.jobs)) TotalTooLarge))) refusal in
      let missing =
      none_of_two (missing_from class 1 i.jobs)
      (option_or (zero_time class i.jobs)
      (then_some (is_too_large class (map (data_of class) i.jobs)) TotalTooLarge)) parts.1 in
      let zero_times =
      none_of_two (zero_time class i.jobs)
      (then_some (is_too_large class (map (data_of class) i.jobs)) TotalTooLarge) missing.1 in
      (zero_times.0, not_then _ _ zero_times.1)

  totals : (jobs : List JobData) → is_too_large class jobs ≡ false
      → (work_of jobs ≤ limit)
      × (greatest_of (map (λ (job : JobData). job.release) jobs) + work_of jobs ≤ limit)
      × (IsTrue (is_sum class) → sum_by (λ (job : JobData). job.weight) jobs * work_of jobs ≤ limit)
  totals jobs e =
      let last : ℕ = greatest_of (map (λ (job : JobData). job.release) jobs) in
      let weight : ℕ = sum_by (λ (job : JobData). job.weight) jobs in
      let tests = neither (ltb limit (work_of jobs) || ltb limit (last + work_of jobs))
      (is_sum class && ltb limit (weight * work_of jobs)) e in
      let first = neither (ltb limit (work_of jobs)) (ltb limit (last + work_of jobs)) tests.0 in (
        ltb-false _ _ first.0,
        ltb-false _ _ first.1,
        λ h. ltb-false _ _
            (not_both (is_sum class) (ltb limit (weight * work_of jobs)) tests.1 h),
      )

  fields : ℕ → JobFields
  fields j = get_or i.jobs (j - 1) no_fields

  data-at : (j : ℕ) → IsJob (task_of class m i) j
      → job_data (task_of class m i) j ≡ data_of class (fields j)
  unfolding fields
  data-at j h =
      get_or-map (data_of class) i.jobs (j - 1) no_fields no_job
      (omega (arith, h.0, h.1, length-map i.jobs (data_of class)))

  each : (p : JobFields → Bool) → All (λ job. p job ≡ false) i.jobs → (j : ℕ)
      → IsJob (task_of class m i) j → p (fields j) ≡ false
  unfolding fields
  each p all j h =
      all (j - 1) no_fields (omega (arith, h.0, h.1, length-map i.jobs (data_of class)))

  one_time : IsFalse (is_shop class) → (job : JobFields) → has_wrong_times class job ≡ false
      → has_two job.times ≡ false
  one_time plain job e =
      sym (cond-false (is_shop class) (not (has_two job.times)) (has_two job.times) plain) ∙ e

  worked : IsFalse (is_shop class) → All (λ job. has_zero_time job ≡ false) i.jobs
  worked plain =
      none_at has_zero_time i.jobs
      (none_mapped _ _
      (none_mapped _ _
      (sym (cond-false (is_shop class) None (option_map ZeroTime (first_with has_zero_time i.jobs))
      plain) ∙ enough.0)))

  arcs_in : (b : Bool)
      → All (λ arc. IsJob (task_of class m i) arc.0 × IsJob (task_of class m i) arc.1)
      (cond b i.arcs [])
  arcs_in true n d h =
      let tests = neither (is_no_job (length i.jobs) (get_or i.arcs n d).0)
      (is_no_job (length i.jobs) (get_or i.arcs n d).1) (good_jobs.1 n d h) in
      (there _ tests.0, there _ tests.1)
    where
      there : (j : ℕ) → is_no_job (length i.jobs) j ≡ false → IsJob (task_of class m i) j
      there j e = let parts = neither (ltb j 1) (ltb (length i.jobs) j) e in (
        ltb-false j 1 parts.0,
        omega (arith, ltb-false (length i.jobs) j parts.1, length-map i.jobs (data_of class)),
      )
  arcs_in false n d h = absurd (omega (arith, h))

  pub task_of-IsSound : IsCountFor class m → All IsStepCost (kept_costs class i.jobs)
      → IsSound (task_of class m i)
  task_of-IsSound machines steps =
      let k : SchedulingTask = task_of class m i in
      let fits : FitsMachines class m = counted class m machines in
      let same : length k.jobs ≡ length i.jobs = length-map i.jobs (data_of class) in
      let sums = totals k.jobs enough.1 in
      let work : sum_by (time_of k) (all_jobs k) ≡ work_of k.jobs =
      sum_by-all_jobs k (λ job. job.first + job.second) in
      let weights : sum_by (λ j. (job_data k j).weight) (all_jobs k)
      ≡ sum_by (λ (job : JobData). job.weight) k.jobs = sum_by-all_jobs k (λ job. job.weight) in
      let costed : IsTrue (is_costed class) → length k.costs ≡ length k.jobs =
      λ h. ap length (cond-true (is_costed class) (map steps_of i.jobs) [] h)
      ∙ length-map i.jobs steps_of ∙ sym same in
      record {
        some_job = omega (arith, same, few.0);
        few_jobs = omega (arith, same, few.1);
        few_arcs = few_arcs (is_ordered class);
        some_machine = fits.some;
        few_machines = fits.few;
        single = fits.single;
        shop = fits.shop;
        worked = λ plain j h.
            subst (λ (job : JobData). 1 ≤ job.first + job.second) (sym (data-at j h))
            (one_work (fields j).times
            (one_time plain (fields j) (each (has_wrong_times class) right_times j h))
            (each has_zero_time (worked plain) j h));
        one_time = λ plain j h. ap (λ (job : JobData). job.second) (data-at j h)
            ∙ no_second (fields j).times
            (one_time plain (fields j) (each (has_wrong_times class) right_times j h));
        unit_weights = λ plain j h. ap (λ (job : JobData). job.weight) (data-at j h)
            ∙ cond-false (is_weighted class) _ 1 plain;
        unreleased = λ plain j h. ap (λ (job : JobData). job.release) (data-at j h)
            ∙ cond-false (is_released class) _ 0 plain;
        unordered = λ plain. cond-false (is_ordered class) i.arcs [] plain;
        uncosted = λ plain. cond-false (is_costed class) (map steps_of i.jobs) [] plain;
        costed = costed;
        arcs_in = arcs_in (is_ordered class);
        dues = λ j h.
            subst (λ (job : JobData). IsWithin job.due) (sym (data-at j h))
            (kept_within (is_due class) (unwrap_or (fields j).due (pos 0))
            (due_within (fields j).due
            (due_not_beyond (fields j) (each has_beyond good_jobs.0 j h))));
        total = omega (arith, work, sums.0);
        horizon = λ j h. omega (
          arith,
          work,
          sums.1,
          release-le-greatest k.jobs (j - 1) no_job (omega (arith, h.0, h.1)),
        );
        weighted_total =
            λ h. subst (λ n. n ≤ limit)
            (sym (ap (λ n. n * sum_by (time_of k) (all_jobs k)) weights
            ∙ ap (λ n. sum_by (λ (job : JobData). job.weight) k.jobs * n) work)) (sums.2 h);
        rising = λ j c e h le. price_rises (objective_of class) k j c e
            (λ o. steps (j - 1) no_steps (omega (arith, h.0, h.1, costed (ap is_dearest o)))) le;
      }
    where
      due_not_beyond : (job : JobFields) → has_beyond job ≡ false
          → any_given is_beyond job.due ≡ false
      due_not_beyond job e =
          let most = neither
          (any_time is_beyond job.times || any_given is_beyond job.weight
          || any_given is_beyond job.due) (any_given is_beyond job.release) e in
          (neither (any_time is_beyond job.times || any_given is_beyond job.weight)
          (any_given is_beyond job.due) most.0).1
