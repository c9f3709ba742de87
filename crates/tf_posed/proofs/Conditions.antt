-- Each condition of a task of a class is that of its problem, job by job; and where it has no cost
-- functions, the task of its problem is sound.
use Rattle.std.proofs.Common.{◌≡◌, Bool, true, false, ℕ, zero, suc, ◌+◌, ◌-◌, ◌≤◌, ◌<◌, Option, [], ◌∷◌, length, slice_index, slice_index_or, cond, refl, sym, ap, ◌∙◌, subst, arith, All, IsTrue, IsFalse}
use Rattle.std.specs.List.{AllPairs, range_with_len}
use Rattle.std.proofs.lemmas.Bool.{false≢true, true≢false}
use Rattle.std.proofs.lemmas.List.FromFn.{length-range_with_len, get_or-range_with_len, get_or-map-range_with_len, length-map-range_with_len}
use Rattle.tf_model.specs.declared.class.Class.{Class}
use Rattle.tf_model.specs.declared.class.Class.TheVariants.{WeightedSum, Hmax, PrecHmax, PrmpHmax, PrmpPrecHmax, FlowTwo, OpenTwo, PrmpFlowTwo, PrmpOpenTwo}
use Rattle.tf_model.specs.declared.problem.Env.{Env}
use Rattle.tf_model.specs.declared.problem.Env.TheVariants.{Flow, JobShop}
use Rattle.tf_model.specs.ClassTable.{notation_of, is_shop, is_flow, is_flow_env, is_released, is_costed}
use Rattle.tf_model.specs.Timetable.{Timetable, cell, units}
use Rattle.tf_model.specs.SchedulingTask.{SchedulingTask, all_jobs, IsJob, job_data, time_on, time_of}
use Rattle.tf_model.specs.Feasible.{HasAmount, IsWhole, IsReleased, IsInFlow}
use Rattle.tf_model.specs.Sound.{IsSound}
use Rattle.tf_model.proofs.Classes.{flow_is_shop}
use Rattle.tf_posed.specs.ProblemData.{is_job_shop, is_covered, needs_time, route_by, ProblemData, IsProblemSound, IsProblemJob, problem_job, problem_jobs, problem_time, problem_time_on, time_over, no_problem_job}
use Rattle.tf_posed.specs.FitsProblem.{HasProblemTime, IsProblemUnbroken, IsProblemReleased, VisitsFirst, IsOnRoute}
use Rattle.tf_posed.specs.Agreement.{posed, posed_job}

-- what holds of each job holds all along the jobs
pub All-problem_jobs : (k : ProblemData) (P : ℕ → Type 0) → ((j : ℕ) → IsProblemJob k j → P j)
    → All P (problem_jobs k)
All-problem_jobs k P all i d h =
    let in' : i < length k.jobs = omega (arith, length-range_with_len 1 (length k.jobs)) in
    subst P (sym (get_or-range_with_len 1 (length k.jobs) i d in'))
    (all (1 + i) (omega arith, omega arith))

pub no_prmu : (c : Class) → (notation_of c).prmu ≡ false
no_prmu WeightedSum = refl
no_prmu _ = refl

pub no_nwt : (c : Class) → (notation_of c).nwt ≡ false
no_nwt WeightedSum = refl
no_nwt _ = refl

pub no_job_shop : (c : Class) → is_job_shop (notation_of c).env ≡ false
no_job_shop WeightedSum = refl
no_job_shop _ = refl

covered : (c : Class) → IsFalse (is_costed c) → IsTrue (is_covered (notation_of c))
covered Hmax h = absurd (true≢false h)
covered PrecHmax h = absurd (true≢false h)
covered PrmpHmax h = absurd (true≢false h)
covered PrmpPrecHmax h = absurd (true≢false h)
covered _ h = refl

pub no_need : (c : Class) → IsTrue (is_shop c) → IsFalse (needs_time (notation_of c))
no_need FlowTwo h = refl
no_need OpenTwo h = refl
no_need PrmpFlowTwo h = refl
no_need PrmpOpenTwo h = refl
no_need _ h = absurd (false≢true h)

is_flow_shop : (e : Env) → IsTrue (is_flow_env e) → e ≡ Flow
is_flow_shop Flow h = refl
is_flow_shop _ h = absurd (false≢true h)

-- the task of a problem of the class, which may be given a number of machines
abbrev pub counted : SchedulingTask → Option ℕ → ProblemData
counted k n = record (posed k) { problem = record (notation_of k.class) { count = n } }

pub size : (k : SchedulingTask) → length (posed k).jobs ≡ length k.jobs
size k = length-map-range_with_len (posed_job k) 1 (length k.jobs)

pub its_job : (k : SchedulingTask) (j : ℕ) → IsJob k j → problem_job (posed k) j ≡ posed_job k j
its_job k j h =
    get_or-map-range_with_len (posed_job k) 1 (length k.jobs) (j - 1) j no_problem_job
    (omega (arith, h.0, h.1)) (omega (arith, h.0))

-- what holds of each job holds all along the jobs
pub All-all_jobs : (k : SchedulingTask) (P : ℕ → Type 0) → ((j : ℕ) → IsJob k j → P j)
    → All P (all_jobs k)
All-all_jobs k P all =
    subst (All P) (ap (range_with_len 1) (size k))
    (All-problem_jobs (posed k) P (λ j h. all j (h.0, omega (arith, h.1, size k))))

module _ (k : SchedulingTask) (sound : IsSound k) (n : Option ℕ) (rows : Timetable) (j : ℕ)
    (h : IsJob k j) where
  abbrev task : ProblemData
  task = counted k n

  one_time : IsFalse (is_shop k.class) → problem_time task j ≡ time_of k j
  one_time plain =
      ap (λ d. slice_index d.times 0) (its_job k j h) ∙ omega (arith, sound.one_time plain j h)

  first : problem_time_on task j 0 ≡ (job_data k j).first
  first = ap (λ d. slice_index d.times 0) (its_job k j h)

  second : IsTrue (is_shop k.class) → problem_time_on task j 1 ≡ (job_data k j).second
  second shop =
      ap (λ d. slice_index d.times 1) (its_job k j h)
      ∙ ap (λ s. slice_index ((job_data k j).first ∷ cond s ((job_data k j).second ∷ []) []) 1) shop

  pub amount_to : HasAmount k rows j → HasProblemTime task rows j
  amount_to had = record {
    in_all = λ plain. had.in_all plain ∙ sym (one_time plain);
    on_each = λ shop i lt. on_each shop i lt;
  }
    where
      on_each : IsTrue (is_shop k.class) → (i : ℕ) → i < k.machines
          → units rows j i ≡ problem_time_on task j i
      on_each shop zero lt = had.on_each shop 0 (omega arith) ∙ sym first
      on_each shop (suc zero) lt = had.on_each shop 1 (omega arith) ∙ sym (second shop)
      on_each shop (suc (suc i)) lt = absurd (omega (arith, sound.shop shop))

  pub amount_from : HasProblemTime task rows j → HasAmount k rows j
  amount_from had = record {
    in_all = λ plain. had.in_all plain ∙ one_time plain;
    on_each = λ shop i lt. on_each shop i lt;
  }
    where
      on_each : IsTrue (is_shop k.class) → (i : ℕ) → i < 2 → units rows j i ≡ time_on k j i
      on_each shop zero lt = had.on_each shop 0 (omega (arith, sound.shop shop)) ∙ first
      on_each shop (suc zero) lt = had.on_each shop 1 (omega (arith, sound.shop shop)) ∙ second shop
      on_each shop (suc (suc i)) lt = absurd (omega arith)

  pub whole_to : IsWhole k rows j → IsProblemUnbroken task rows j
  whole_to had = record { no_gap = had.no_gap; one_machine = had.one_machine }

  pub whole_from : IsProblemUnbroken task rows j → IsWhole k rows j
  whole_from had = record { no_gap = had.no_gap; one_machine = had.one_machine }

  pub released_to : IsReleased k rows j → IsProblemReleased task rows j
  released_to had t i e = omega (arith, had t i e, ap (λ d. d.release) (its_job k j h))

  pub released_from : (IsTrue (is_released k.class) → IsProblemReleased task rows j)
      → IsReleased k rows j
  released_from had t i e = by (is_released k.class) refl
    where
      by : (b : Bool) → is_released k.class ≡ b → (job_data k j).release ≤ t
      by true is = omega (arith, had is t i e, ap (λ d. d.release) (its_job k j h))
      by false is = omega (arith, sound.unreleased is j h)

  pub route_to : (IsTrue (is_flow k.class) → IsInFlow rows j) → IsOnRoute task rows j
  route_to had = by (notation_of k.class).env refl
    where
      by : (e : Env) → (notation_of k.class).env ≡ e
          → AllPairs (VisitsFirst rows j) (route_by e task j)
      by Flow e =
          λ m n d lt in' s t p q.
          let flows : IsTrue (is_flow k.class) = ap is_flow_env e in
          let width : k.machines ≡ 2 = sound.shop (flow_is_shop k.class flows) in
          let size : length (range_with_len 0 k.machines) ≡ k.machines =
          length-range_with_len 0 k.machines in
          let at_first : slice_index_or (range_with_len 0 k.machines) m d ≡ 0 =
          get_or-range_with_len 0 k.machines m d (omega arith) ∙ omega arith in
          let at_second : slice_index_or (range_with_len 0 k.machines) n d ≡ 1 =
          get_or-range_with_len 0 k.machines n d (omega arith) ∙ omega arith in
          had flows s t (sym (ap (cell rows s) at_first) ∙ p) (sym (ap (cell rows t) at_second) ∙ q)
      by JobShop e = absurd (false≢true (sym (no_job_shop k.class) ∙ ap is_job_shop e))
      by _ e = λ m n d lt in'. absurd (omega arith)

  pub route_from : IsOnRoute task rows j → IsTrue (is_flow k.class) → IsInFlow rows j
  route_from had flows s t p q =
      let route : route_by (notation_of k.class).env task j ≡ range_with_len 0 k.machines =
      ap (λ e. route_by e task j) (is_flow_shop (notation_of k.class).env flows) in
      let width : k.machines ≡ 2 = sound.shop (flow_is_shop k.class flows) in
      let pairs : AllPairs (VisitsFirst rows j) (range_with_len 0 k.machines) =
      subst (AllPairs (VisitsFirst rows j)) route had in
      let at_first : slice_index_or (range_with_len 0 k.machines) 0 0 ≡ 0 =
      get_or-range_with_len 0 k.machines 0 0 (omega arith) in
      let at_second : slice_index_or (range_with_len 0 k.machines) 1 0 ≡ 1 =
      get_or-range_with_len 0 k.machines 1 0 (omega arith) in
      pairs 0 1 0 (omega arith) (omega (arith, length-range_with_len 0 k.machines)) s t
      (ap (cell rows s) at_first ∙ p) (ap (cell rows t) at_second ∙ q)

-- ---- soundness

module _ (k : SchedulingTask) (sound : IsSound k) (n : Option ℕ)
    (plain : IsFalse (is_costed k.class)) where
  of_class : {j : ℕ} → IsProblemJob (counted k n) j → IsJob k j
  of_class h = (h.0, omega (arith, h.1, size k))

  one : IsFalse (is_shop k.class) → (j : ℕ) → IsProblemJob (counted k n) j
      → (length (problem_job (counted k n) j).times ≡ 1) × (1 ≤ problem_time (counted k n) j)
  one single j h = (
    ap (λ d. length d.times) (its_job k j (of_class h))
        ∙ ap (λ s. length ((job_data k j).first ∷ cond s ((job_data k j).second ∷ []) [])) single,
    omega (arith, one_time k sound n [] j (of_class h) single, sound.worked single j (of_class h)),
  )

  each : IsTrue (is_shop k.class) → (j : ℕ) → IsProblemJob (counted k n) j
      → (length (problem_job (counted k n) j).times ≡ k.machines)
      × (IsTrue (needs_time (notation_of k.class)) → 1 ≤ time_over (counted k n) j 0 k.machines)
  each shop j h = (
    ap (λ d. length d.times) (its_job k j (of_class h))
        ∙ ap (λ s. length ((job_data k j).first ∷ cond s ((job_data k j).second ∷ []) [])) shop
        ∙ sym (sound.shop shop),
    λ needs. absurd (false≢true (sym (no_need k.class shop) ∙ needs)),
  )

  pub posed-sound : IsProblemSound (counted k n)
  posed-sound = record {
    covered = covered k.class plain;
    some_job = omega (arith, size k, sound.some_job);
    some_machine = sound.some_machine;
    single = sound.single;
    one_time = one;
    shop_times = each;
    routes = λ is. absurd (false≢true (sym (no_job_shop k.class) ∙ is));
    arcs_in = λ i d lt. let arc = sound.arcs_in i d lt in
        ((arc.0.0, omega (arith, size k, arc.0.1)), (arc.1.0, omega (arith, size k, arc.1.1)));
  }
