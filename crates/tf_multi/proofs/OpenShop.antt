-- The timetable of the rule for open shops fits the task, and no timetable that fits is shorter.
use Rattle.std.proofs.Common.{IsTrue, IsFalse, ◌≡◌, ◌≢◌, ◌⊎◌, ℕ, zero, suc, ◌+◌, ◌<◌, ◌≤◌, pos, Bool, true, false, not, cond, ◌&&◌, eqb, max, List, length, get_or, filter, Ok, refl, sym, ap, subst, ◌∙◌, arith, inl, inr}
use Rattle.std.specs.List.{All, AllPairs, sum_by}
use Rattle.std.specs.List.Sorted.{IsPermutation}
use Rattle.std.proofs.lemmas.Bool.{cases_eq, cases_lt, eq-eqb, ne_eqb, false≢true}
use Rattle.std.proofs.lemmas.Bool.Decides.{nat_tests}
use Rattle.std.proofs.lemmas.Int.{ints}
use Rattle.std.proofs.lemmas.List.Sums.{sum_by-cons, sum_by-append}
use Rattle.tf_model.specs.Cost.{cost}
use Rattle.tf_model.specs.Feasible.{Fits}
use Rattle.tf_model.specs.SchedulingTask.{SchedulingTask, IsJob, all_jobs, time_of, time_on}
use Rattle.tf_model.specs.ClassTable.{is_shop, is_flow}
use Rattle.tf_model.specs.Sound.{IsSound}
use Rattle.tf_model.specs.Limit.{limit}
use Rattle.tf_model.proofs.Classes.{shop_by_makespan}
use Rattle.tf_schedule.specs.declared.piece.Piece.{Piece}
use Rattle.tf_schedule.specs.Piece.{machine_of}
use Rattle.tf_schedule.specs.Schedule.{ComesBefore, IsSchedule}
use Rattle.tf_schedule.specs.Drawing.{drawing, greatest_stop}
use Rattle.tf_schedule.proofs.Counting.{sum_by-same, sum_single_in}
use Rattle.tf_schedule.proofs.Drawing.{greatest_stop_le}
use Rattle.tf_check.specs.Accepted.{IsAccepted}
use Rattle.tf_check.specs.Bound.{bound_by}
use Rattle.tf_check.specs.Claim.{Claim, ByMachine, ByOneJob}
use Rattle.tf_check.proofs.LaidAccepted.{laid_accepted}
use Rattle.tf_schedule.specs.SemiActive.{machine_stop, laid, IsOperation}
use Rattle.tf_multi.specs.TwoMachines.{time_at, first_machine, second_machine}
use Rattle.tf_multi.specs.OpenShop.{is_early, IsLeader, is_in_group, followers, operations_led_by, machine_time, open_claim}
use Rattle.tf_schedule.proofs.Laying.{IsLaid, Keeps, stop-le-line_stop}
use Rattle.tf_multi.proofs.Fronts.{enclosed_fronts}
use Rattle.tf_multi.proofs.LedParts.{machines_differ}
use Rattle.tf_multi.proofs.Routes.{OnceEach, All-enclosed, differ_enclosed, sum_enclosed}
use Rattle.tf_schedule.proofs.LaidFits.{IsListed, is_laid, laid_fits_shop, laid_cost, sorted_schedule}
use Rattle.tf_multi.proofs.Leading.{sum_led, led_apart, led_jobs, leads, all_ours_fast, all_theirs_fast}

-- ---- the two machines

first_there : (e : Bool) → (0 < first_machine e) × (first_machine e ≤ 2)
first_there true = (omega arith, omega arith)
first_there false = (omega arith, omega arith)

second_there : (e : Bool) → (0 < second_machine e) × (second_machine e ≤ 2)
second_there true = (omega arith, omega arith)
second_there false = (omega arith, omega arith)

one_of_two : (e : Bool) (i : ℕ) → 0 < i → i ≤ 2 → (i ≡ first_machine e) ⊎ (i ≡ second_machine e)
one_of_two true i low high = elim (cases_lt i 2)
    [ inl lt ↦ inl (omega arith) | inr le ↦ inr (omega arith) ]
one_of_two false i low high = elim (cases_lt i 2)
    [ inl lt ↦ inr (omega arith) | inr le ↦ inl (omega arith) ]

-- what the operations of job i give to job j on the one machine and on the other
first_term : (i j x y p q t : ℕ) → x ≢ y → (i ≡ j → p ≡ t)
    → cond (eqb i j && eqb x x) p 0 + cond (eqb i j && eqb y x) q 0 ≡ cond (eqb j i) t 0
first_term i j x y p q t two value = elim (cases_eq i j) [
  | inl same ↦ let is : p ≡ t = value same in grind (arith, nat_tests)
  | inr differ ↦ grind (arith, nat_tests)
]

second_term : (i j x y p q t : ℕ) → x ≢ y → (i ≡ j → q ≡ t)
    → cond (eqb i j && eqb x y) p 0 + cond (eqb i j && eqb y y) q 0 ≡ cond (eqb j i) t 0
second_term i j x y p q t two value = elim (cases_eq i j) [
  | inl same ↦ let is : q ≡ t = value same in grind (arith, nat_tests)
  | inr differ ↦ grind (arith, nat_tests)
]

either_total : (task : SchedulingTask) (r : ℕ) (e : Bool)
    → max (max (machine_time task (first_machine e)) (machine_time task (second_machine e)))
    (time_at task r (first_machine e) + time_at task r (second_machine e))
    ≡ max (max (machine_time task 1) (machine_time task 2)) (time_of task r)
either_total task r true = refl
either_total task r false = omega arith

-- ---- which certificate is given

pub first_claim : (task : SchedulingTask) (l v : ℕ) → machine_time task 1 ≡ v
    → ByMachine 1 ≡ open_claim task l v
first_claim task l v is = rw (eq-eqb (machine_time task 1) v is) refl

pub second_claim : (task : SchedulingTask) (l v : ℕ) → (machine_time task 1 ≡ v → ⊥)
    → machine_time task 2 ≡ v → ByMachine 2 ≡ open_claim task l v
second_claim task l v differs is =
    rw (ne_eqb (machine_time task 1) v differs, eq-eqb (machine_time task 2) v is) refl

pub job_claim : (task : SchedulingTask) (l v : ℕ) → (machine_time task 1 ≡ v → ⊥)
    → (machine_time task 2 ≡ v → ⊥) → ByOneJob l ≡ open_claim task l v
job_claim task l v differs neither =
    rw (ne_eqb (machine_time task 1) v differs, ne_eqb (machine_time task 2) v neither) refl

module _ (task : SchedulingTask) (sound : IsSound task) (shop : IsTrue (is_shop task.class))
    (any_order : IsFalse (is_flow task.class)) (r : ℕ) (leader : IsLeader task r) where
  two : task.machines ≡ 2
  two = sound.shop shop

  abbrev e : Bool
  e = is_early task r

  abbrev x : ℕ
  x = first_machine e

  abbrev y : ℕ
  y = second_machine e

  abbrev ps : List Piece
  ps = laid (operations_led_by task r)

  -- ---- the operations

  pub led_operations : All (IsOperation (length task.jobs) 2) (operations_led_by task r)
  led_operations = All-enclosed (time_at task) x y (IsOperation (length task.jobs) 2) r
      (followers task r e) (λ k d h.
      let job = led_jobs task r leader.job e k d h in (
        record { job = (omega (arith, job.0), job.1); machine = first_there e },
        record { job = (omega (arith, job.0), job.1); machine = second_there e },
      ))

  led_differ : AllPairs (Keeps OnceEach) (operations_led_by task r)
  led_differ = differ_enclosed (time_at task) x y (machines_differ e) r (followers task r e)
      (led_apart task r leader.job e)

  both_times : (i : ℕ) (b : Bool)
      → time_at task i (first_machine b) + time_at task i (second_machine b) ≡ time_of task i
  both_times i true = refl
  both_times i false = omega arith

  pub led_total : sum_by (λ o. o.time) (operations_led_by task r) ≤ limit
  led_total = omega (
    arith,
    sum_enclosed (time_at task) x y (λ o. o.time) r (followers task r e),
    sum_led task r leader.job e (λ j. time_at task j x + time_at task j y),
    sum_by-same (λ j. time_at task j x + time_at task j y) (time_of task) (λ j. both_times j e)
        (all_jobs task),
    sound.total,
  )

  -- ---- the work of each job

  led_work : (j i : ℕ) → IsJob task j → 0 < i → i ≤ 2
      → sum_by (λ o. cond (eqb o.job j && eqb o.machine i) o.time 0) (operations_led_by task r)
      ≡ time_at task j i
  led_work j i job low high =
      sum_enclosed (time_at task) x y (λ o. cond (eqb o.job j && eqb o.machine i) o.time 0) r
      (followers task r e)
      ∙ sum_led task r leader.job e
      (λ h. cond (eqb h j && eqb x i) (time_at task h x) 0 + cond (eqb h j && eqb y i)
      (time_at task h y) 0)
      ∙ sum_by-same (λ h. cond (eqb h j && eqb x i) (time_at task h x) 0 + cond (eqb h j && eqb y i)
      (time_at task h y) 0) (λ h. cond (eqb j h) (time_at task j i) 0)
      (λ h. term h (one_of_two e i low high)) (all_jobs task)
      ∙ sum_single_in j (time_at task j i) (length task.jobs) job.0 job.1
    where
      term : (h : ℕ) → (i ≡ x) ⊎ (i ≡ y)
          → cond (eqb h j && eqb x i) (time_at task h x) 0 + cond (eqb h j && eqb y i)
          (time_at task h y) 0 ≡ cond (eqb j h) (time_at task j i) 0
      term h (inl same) =
          subst (λ n. cond (eqb h j && eqb x n) (time_at task h x) 0 + cond (eqb h j && eqb y n)
          (time_at task h y) 0 ≡ cond (eqb j h) (time_at task j n) 0) (sym same)
          (first_term h j x y (time_at task h x) (time_at task h y) (time_at task j x)
          (machines_differ e) (λ own. ap (λ n. time_at task n x) own))
      term h (inr same) =
          subst (λ n. cond (eqb h j && eqb x n) (time_at task h x) 0 + cond (eqb h j && eqb y n)
          (time_at task h y) 0 ≡ cond (eqb j h) (time_at task j n) 0) (sym same)
          (second_term h j x y (time_at task h x) (time_at task h y) (time_at task j y)
          (machines_differ e) (λ own. ap (λ n. time_at task n y) own))

  led_times : (j i : ℕ) → IsJob task j → i < 2
      → sum_by (λ o. cond (eqb o.job j && eqb o.machine (i + 1)) o.time 0)
      (operations_led_by task r) ≡ time_on task j i
  led_times j zero job lt = led_work j 1 job (omega arith) (omega arith)
  led_times j (suc zero) job lt = led_work j 2 job (omega arith) (omega arith)
  led_times j (suc (suc i)) job lt = absurd (omega arith)

  -- ---- the pieces

  listed : IsListed OnceEach task (operations_led_by task r)
  listed = record {
    never = λ j i once. once refl refl;
    known = subst (λ m. All (IsOperation (length task.jobs) m) (operations_led_by task r)) (sym two)
        led_operations;
    keeps = led_differ;
    total = led_total;
  }

  led_laid : IsLaid OnceEach (length task.jobs) task.machines ps
  led_laid = is_laid OnceEach task (operations_led_by task r) sound listed

  pub led_fits : Fits task (drawing task.machines ps)
  led_fits = laid_fits_shop OnceEach task (operations_led_by task r) sound listed shop led_times
      (λ flow. absurd (false≢true (sym any_order ∙ flow)))

  -- ---- when it ends

  led_machine_total : (i : ℕ) → time_at task r i +
      (sum_by (λ j. time_at task j i) (filter (is_in_group task r e) (all_jobs task)) + sum_by
      (λ j. time_at task j i) (filter (is_in_group task r (not e)) (all_jobs task)))
      ≡ machine_time task i
  led_machine_total i = omega (
    arith,
    sum_led task r leader.job e (λ j. time_at task j i),
    sum_by-cons (λ j. time_at task j i) r (followers task r e),
    sum_by-append (λ j. time_at task j i) (filter (is_in_group task r e) (all_jobs task))
        (filter (is_in_group task r (not e)) (all_jobs task)),
  )

  -- no machine works longer than one of the two, or than the leader takes
  pub led_stop : greatest_stop ps ≤ max (max (machine_time task 1) (machine_time task 2))
      (time_of task r)
  led_stop =
      let fronts = enclosed_fronts (time_at task) x y (machines_differ e) r
      (filter (is_in_group task r e) (all_jobs task))
      (filter (is_in_group task r (not e)) (all_jobs task))
      (led_apart task r leader.job e) (leads task r leader e refl)
      (all_ours_fast task r leader e refl) (all_theirs_fast task r leader e refl) in
      let on_first = led_machine_total x in
      let on_second = led_machine_total y in
      let first : machine_stop ps x ≤ max (max (machine_time task x) (machine_time task y))
      (time_at task r x + time_at task r y) = omega (arith, fronts.first) in
      let second : machine_stop ps y ≤ max (max (machine_time task x) (machine_time task y))
      (time_at task r x + time_at task r y) = omega (arith, fronts.second) in
      greatest_stop_le ps (max (max (machine_time task 1) (machine_time task 2)) (time_of task r))
      (λ k d h.
      let p = led_laid.placed k d h in
      elim (one_of_two e (get_or ps k d).machine p.machine.0 (omega (arith, p.machine.1, two))) [
        | inl at ↦ omega
            (arith, stop-le-line_stop machine_of ps x k d h at, first, either_total task r e)
        | inr at ↦ omega
            (arith, stop-le-line_stop machine_of ps y k d h at, second, either_total task r e)
      ])

  led_cost : cost task (drawing task.machines ps) ≡ pos (greatest_stop ps)
  led_cost = laid_cost OnceEach task (operations_led_by task r) sound listed
      (shop_by_makespan task.class shop)

  -- ---- the pieces in another order

  module _ (qs : List Piece) (same : IsPermutation ps qs) where
    pub led_schedule : AllPairs ComesBefore qs → IsSchedule qs
    led_schedule = sorted_schedule OnceEach task (operations_led_by task r) sound listed qs same

    -- the greatest of the three bounds, where job l is a longest one, is a value that a
    -- certificate shows
    pub led_accepted : (l v : ℕ) → ((j : ℕ) → IsJob task j → time_of task j ≤ time_of task l)
        → v ≡ max (max (machine_time task 1) (machine_time task 2)) (time_of task l)
        → (claim : Claim) → bound_by claim task ≡ Ok (pos v)
        → IsAccepted task (record { pieces = qs; value = pos v; certificate = claim })
    led_accepted l v longest is_value claim bounded =
        let most : greatest_stop ps ≤ v = omega (arith, led_stop, longest r leader.job) in
        laid_accepted OnceEach task (operations_led_by task r) sound listed qs same led_fits
        (pos v) claim bounded (omega (arith, ints, led_cost))
