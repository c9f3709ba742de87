-- What the task of a class keeps as the task of its problem, and its readings.
use Rattle.std.proofs.Common.{◌≡◌, ◌≢◌, Bool, true, false, ℕ, zero, suc, ◌<◌, [], ◌∷◌, length, slice_index, cond, refl, sym, ap, ◌∙◌, arith, All}
use Rattle.std.proofs.lemmas.Bool.{false≢true}
use Rattle.std.proofs.lemmas.List.FromFn.{length-range_with_len, get_or-range_with_len}
use Rattle.tf_model.specs.declared.problem.Env.{Env}
use Rattle.tf_model.specs.declared.problem.Env.TheVariants.{Flow, JobShop}
use Rattle.tf_model.specs.ClassTable.{notation_of, is_flow, is_flow_env, is_shop}
use Rattle.tf_model.specs.SchedulingTask.{SchedulingTask, IsJob, job_data}
use Rattle.tf_model.specs.Sound.{IsSound}
use Rattle.tf_posed.specs.ProblemData.{IsProblemJob, problem_job, problem_time, problem_time_on, route_by, route_of, is_job_shop}
use Rattle.tf_posed.specs.Agreement.{posed}
use Rattle.tf_posed.proofs.Conditions.{size, its_job, no_job_shop}
use Rattle.tf_schedule.specs.Asks.{IsLimited}

module _ (k : SchedulingTask) (j : ℕ) where
  pub of_class : IsProblemJob (posed k) j → IsJob k j
  of_class h = (h.0, omega (arith, size k, h.1))

  module _ (job : IsProblemJob (posed k) j) where
    pub time_is : problem_time (posed k) j ≡ (job_data k j).first
    time_is = ap (λ d. slice_index d.times 0) (its_job k j (of_class job))

    pub time_on_first : (i : ℕ) → i ≡ 0 → problem_time_on (posed k) j i ≡ (job_data k j).first
    time_on_first i is = ap (problem_time_on (posed k) j) is ∙ time_is

    -- a job has two times at most
    pub time_on_second : (i : ℕ) → i < length (problem_job (posed k) j).times → i ≢ 0
        → problem_time_on (posed k) j i ≡ (job_data k j).second
    time_on_second i lt other =
        ap (λ d. slice_index d.times i) (its_job k j (of_class job))
        ∙ by (is_shop k.class) i (omega (arith, lt, ap (λ d. length d.times) (its_job k j (of_class job)))) other
      where
        by : (s : Bool) (i : ℕ)
            → i < length ((job_data k j).first ∷ cond s ((job_data k j).second ∷ []) []) → i ≢ 0
            → slice_index ((job_data k j).first ∷ cond s ((job_data k j).second ∷ []) []) i
            ≡ (job_data k j).second
        by s zero h some = absurd (some refl)
        by true (suc zero) h some = refl
        by true (suc (suc i)) h some = absurd (omega (arith, h))
        by false (suc i) h some = absurd (omega (arith, h))

    pub release_is : (problem_job (posed k) j).release ≡ (job_data k j).release
    release_is = ap (λ d. d.release) (its_job k j (of_class job))

  -- a route is of the machines one by one, or there is none
  visits_by : (e : Env) → (notation_of k.class).env ≡ e
      → length (route_by e (posed k) j) ≡ cond (is_flow_env e) k.machines 0
  visits_by Flow is = length-range_with_len 0 k.machines
  visits_by JobShop is = absurd (false≢true (sym (no_job_shop k.class) ∙ ap is_job_shop is))
  visits_by _ is = refl

  pub visits : (flows : Bool) → is_flow k.class ≡ flows
      → length (route_of (posed k) j) ≡ cond flows k.machines 0
  visits flows is =
      visits_by (notation_of k.class).env refl ∙ ap (λ b. cond b k.machines 0) is

  visited_by : (e : Env) → (notation_of k.class).env ≡ e → (i : ℕ)
      → i < length (route_by e (posed k) j) → slice_index (route_by e (posed k) j) i ≡ i
  visited_by Flow is i h =
      omega (
        arith,
        get_or-range_with_len 0 k.machines i 0
            (omega (arith, h, length-range_with_len 0 k.machines)),
      )
  visited_by JobShop is i h =
      absurd (false≢true (sym (no_job_shop k.class) ∙ ap is_job_shop is))
  visited_by _ is i h = absurd (omega (arith, h))

  pub visited : (i : ℕ) → i < length (route_of (posed k) j)
      → slice_index (route_of (posed k) j) i ≡ i
  visited = visited_by (notation_of k.class).env refl

  below : (e : Env) → (notation_of k.class).env ≡ e
      → All (λ a. a < k.machines) (route_by e (posed k) j)
  below Flow is = λ i d h.
      let in' : i < k.machines = omega (arith, h, length-range_with_len 0 k.machines) in
      omega (arith, in', get_or-range_with_len 0 k.machines i d in')
  below JobShop is = absurd (false≢true (sym (no_job_shop k.class) ∙ ap is_job_shop is))
  below _ is = λ i d h. absurd (omega (arith, h))

  pub route_below : All (λ a. a < k.machines) (route_of (posed k) j)
  route_below = below (notation_of k.class).env refl

module _ (k : SchedulingTask) (sound : IsSound k) where
  pub limited : IsLimited (posed k)
  limited = record {
    few_jobs = omega (arith, size k, sound.few_jobs);
    few_machines = sound.few_machines;
    times = λ shop j h.
        ap (λ d. length d.times) (its_job k j (of_class k j h))
        ∙ ap (λ s. length ((job_data k j).first ∷ cond s ((job_data k j).second ∷ []) [])) shop
        ∙ sym (sound.shop shop);
    releases = λ j h. omega (
      arith,
      release_is k j h,
      sound.horizon j (of_class k j h),
    );
    routes = λ j h. route_below k j;
    arcs_in = λ i d lt. let arc = sound.arcs_in i d lt in
        ((arc.0.0, omega (arith, size k, arc.0.1)), (arc.1.0, omega (arith, size k, arc.1.1)));
  }
