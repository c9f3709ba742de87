-- The two groups of jobs behind the leader: every job is in one place, and what the groups have in
-- common.
use Rattle.std.proofs.Common.{◌≡◌, ◌≢◌, ℕ, ◌+◌, ◌<◌, ◌≤◌, Bool, true, false, not, cond, ◌&&◌, ◌==◌, eqb, nat_le, List, ◌∷◌, length, get_or, filter, refl, sym, ap, arith, inl, inr}
use Rattle.std.specs.List.{All, AllPairs, sum_by}
use Rattle.std.proofs.lemmas.Bool.{cases_eq, and_parts}
use Rattle.std.proofs.lemmas.Bool.Decides.{nat_tests}
use Rattle.std.proofs.lemmas.List.Elements.{All-append, All-filter, All-cons, filter_passes}
use Rattle.std.proofs.lemmas.List.Sums.{sum_by-cons, sum_by-append}
use Rattle.tf_model.specs.SchedulingTask.{SchedulingTask, IsJob, all_jobs}
use Rattle.tf_model.proofs.Costs.{All-all_jobs}
use Rattle.tf_model.proofs.Loads.{once}
use Rattle.tf_schedule.proofs.Counting.{sum_by-same, sum_by-split, sum_single_in}
use Rattle.tf_schedule.proofs.Filters.{sum_by-filter}
use Rattle.tf_model.proofs.Work.{distinct_apart}
use Rattle.tf_multi.specs.TwoMachines.{time_at, first_machine, second_machine}
use Rattle.tf_multi.specs.OpenShop.{is_early, IsLeader, is_in_group, followers}

-- ---- the leader and the groups

-- a job is the leader, or in the one group or in the other
place_step : (same early : Bool) (e : Bool) (n : ℕ)
    → cond same n 0 +
    (cond (not same && cond e early (not early)) n 0 + cond
    (not same && cond (not e) early (not early)) n 0) ≡ n
place_step true true true n = omega arith
place_step true true false n = omega arith
place_step true false true n = omega arith
place_step true false false n = omega arith
place_step false true true n = omega arith
place_step false true false n = omega arith
place_step false false true n = omega arith
place_step false false false n = omega arith

only_leader : (h : ℕ → ℕ) (r j : ℕ) → cond (eqb j r) (h j) 0 ≡ cond (eqb r j) (h r) 0
only_leader h r j = elim (cases_eq j r) [
  | inl same ↦ let value : h j ≡ h r = ap h same in grind (arith, nat_tests)
  | inr differ ↦ grind (arith, nat_tests)
]

module _ (task : SchedulingTask) (r : ℕ) (job : IsJob task r) (e : Bool) where
  abbrev ours : List ℕ
  ours = filter (is_in_group task r e) (all_jobs task)

  abbrev theirs : List ℕ
  theirs = filter (is_in_group task r (not e)) (all_jobs task)

  -- a sum over the leader and the groups is one over all jobs
  pub sum_led : (h : ℕ → ℕ) → sum_by h (r ∷ followers task r e) ≡ sum_by h (all_jobs task)
  sum_led h = omega (
    arith,
    sum_by-cons h r (followers task r e),
    sum_by-append h ours theirs,
    sum_by-filter (is_in_group task r e) h (all_jobs task),
    sum_by-filter (is_in_group task r (not e)) h (all_jobs task),
    sum_by-split h (λ j. cond (eqb j r) (h j) 0)
        (λ j. cond (is_in_group task r e j) (h j) 0 + cond (is_in_group task r (not e) j) (h j) 0)
        (λ j. sym (place_step (eqb j r) (is_early task j) e (h j))) (all_jobs task),
    sum_by-split (λ j. cond (is_in_group task r e j) (h j) 0 + cond (is_in_group task r (not e) j)
        (h j) 0) (λ j. cond (is_in_group task r e j) (h j) 0)
        (λ j. cond (is_in_group task r (not e) j) (h j) 0) (λ j. refl) (all_jobs task),
    sum_by-same (λ j. cond (eqb j r) (h j) 0) (λ j. cond (eqb r j) (h r) 0) (only_leader h r)
        (all_jobs task),
    sum_single_in r (h r) (length task.jobs) (omega (arith, job.0)) job.1,
  )

  -- no job is there twice
  pub led_apart : AllPairs (λ i j. i ≢ j) (r ∷ followers task r e)
  led_apart = distinct_apart (r ∷ followers task r e)
      (λ o. omega (arith, sum_led (λ i. cond (eqb o i) 1 0), once 1 (length task.jobs) o))

  pub led_jobs : All (IsJob task) (r ∷ followers task r e)
  led_jobs =
      let all = All-all_jobs task (IsJob task) (λ j h. h) in
      All-cons (IsJob task) r (followers task r e) job
      (All-append (IsJob task) ours theirs
      (All-filter (is_in_group task r e) (IsJob task) (all_jobs task) all)
      (All-filter (is_in_group task r (not e)) (IsJob task) (all_jobs task) all))

-- ---- their times

early_says : (a b : ℕ) → nat_le a b ≡ true → a ≤ b
early_says a b e = grind (arith, nat_tests)

late_says : (a b : ℕ) → nat_le a b ≡ false → b < a
late_says a b e = grind (arith, nat_tests)

not_true : (b : Bool) → not b ≡ true → b ≡ false
not_true true e = cc
not_true false e = refl

module _ (task : SchedulingTask) (r : ℕ) (leader : IsLeader task r) where
  -- the leader
  pub leads : (e : Bool) → is_early task r ≡ e
      → time_at task r (first_machine e) ≤ time_at task r (second_machine e)
  leads true is = early_says (time_at task r 1) (time_at task r 2) is
  leads false is = omega (arith, late_says (time_at task r 1) (time_at task r 2) is)

  -- a job of the leader's group
  pub ours_fast : (e : Bool) → is_early task r ≡ e → (j : ℕ) → IsJob task j
      → is_in_group task r e j ≡ true
      → (time_at task j (first_machine e) ≤ time_at task j (second_machine e)) ×
      (time_at task j (first_machine e) ≤ time_at task r (first_machine e))
  ours_fast true is j job in_group =
      let here = early_says (time_at task j 1) (time_at task j 2)
      (and_parts (not (j == r)) (is_early task j) in_group).1 in
      let lead = early_says (time_at task r 1) (time_at task r 2) is in
      let most = leader.most j job in
      (here, omega arith)
  ours_fast false is j job in_group =
      let here = late_says (time_at task j 1) (time_at task j 2)
      (not_true (is_early task j)
      (and_parts (not (j == r)) (not (is_early task j)) in_group).1) in
      let lead = late_says (time_at task r 1) (time_at task r 2) is in
      let most = leader.most j job in
      (omega arith, omega arith)

  -- a job of the other group
  pub theirs_fast : (e : Bool) → is_early task r ≡ e → (j : ℕ) → IsJob task j
      → is_in_group task r (not e) j ≡ true
      → (time_at task j (second_machine e) ≤ time_at task j (first_machine e)) ×
      (time_at task j (second_machine e) ≤ time_at task r (first_machine e))
  theirs_fast true is j job in_group =
      let here = late_says (time_at task j 1) (time_at task j 2)
      (not_true (is_early task j)
      (and_parts (not (j == r)) (not (is_early task j)) in_group).1) in
      let lead = early_says (time_at task r 1) (time_at task r 2) is in
      let most = leader.most j job in
      (omega arith, omega arith)
  theirs_fast false is j job in_group =
      let here = early_says (time_at task j 1) (time_at task j 2)
      (and_parts (not (j == r)) (is_early task j) in_group).1 in
      let lead = late_says (time_at task r 1) (time_at task r 2) is in
      let most = leader.most j job in
      (here, omega arith)

  pub all_ours_fast : (e : Bool) → is_early task r ≡ e
      → All (λ j. (time_at task j (first_machine e) ≤ time_at task j (second_machine e)) ×
      (time_at task j (first_machine e) ≤ time_at task r (first_machine e)))
      (filter (is_in_group task r e) (all_jobs task))
  all_ours_fast e is n d h =
      ours_fast e is (get_or (filter (is_in_group task r e) (all_jobs task)) n d)
      (All-filter (is_in_group task r e) (IsJob task) (all_jobs task)
      (All-all_jobs task (IsJob task) (λ j job. job)) n d h)
      (filter_passes (is_in_group task r e) (all_jobs task) n d h)

  pub all_theirs_fast : (e : Bool) → is_early task r ≡ e
      → All (λ j. (time_at task j (second_machine e) ≤ time_at task j (first_machine e)) ×
      (time_at task j (second_machine e) ≤ time_at task r (first_machine e)))
      (filter (is_in_group task r (not e)) (all_jobs task))
  all_theirs_fast e is n d h =
      theirs_fast e is (get_or (filter (is_in_group task r (not e)) (all_jobs task)) n d)
      (All-filter (is_in_group task r (not e)) (IsJob task) (all_jobs task)
      (All-all_jobs task (IsJob task) (λ j job. job)) n d h)
      (filter_passes (is_in_group task r (not e)) (all_jobs task) n d h)
