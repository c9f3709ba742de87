-- The task of a problem that is that of a class is within the limits, as the class's is.
use Rattle.std.specs.List.{sum_by}
use Rattle.std.proofs.Common.{◌≡◌, Bool, true, false, ℕ, ◌+◌, ◌-◌, ◌*◌, ◌≤◌, List, [], ◌∷◌, length, map, sum, cond, Option, refl, sym, ap, ◌∙◌, subst, arith, IsTrue, IsFalse}
use Rattle.std.proofs.Math.Nat.{mul-le-mul_left}
use Rattle.std.proofs.lemmas.Bool.{false≢true}
use Rattle.std.proofs.lemmas.List.Elements.{All-map}
use Rattle.std.proofs.lemmas.List.Sums.{sum_by-cons, get_or-le-sum_by}
use Rattle.tf_model.specs.declared.class.Class.{Class}
use Rattle.tf_model.specs.declared.class.Class.TheVariants.{WeightedSum, PrmpWeightedSum}
use Rattle.tf_model.specs.Limit.{limit}
use Rattle.tf_model.specs.SchedulingTask.{SchedulingTask, JobData, all_jobs, no_job, IsJob, job_data, time_of}
use Rattle.tf_model.specs.ClassTable.{notation_of, is_shop, is_sum, is_weighted, is_costed}
use Rattle.tf_model.specs.Sound.{IsSound}
use Rattle.tf_model.proofs.Costs.{sum_by-all_jobs}
use Rattle.tf_model.proofs.Sums.{sum_by-same_all}
use Rattle.tf_posed.specs.ProblemData.{ProblemData, IsProblemSound, needs_time}
use Rattle.tf_posed.specs.Agreement.{posed_job}
use Rattle.tf_posed.proofs.Conditions.{counted, All-all_jobs, no_job_shop, no_need, size, posed-sound}
use Rattle.tf_bound.specs.Sized.{IsSized, IsSizedJob, work, all_work}

mapped-sum : {X Y : Type 0} (g : Y → ℕ) (f : X → Y) (xs : List X)
    → sum_by g (map f xs) ≡ sum_by (λ x. g (f x)) xs
mapped-sum g f [] = refl
mapped-sum g f (x ∷ xs) =
    sum_by-cons g (f x) (map f xs) ∙ ap (λ n. g (f x) + n) (mapped-sum g f xs)
    ∙ sym (sum_by-cons (λ y. g (f y)) x xs)

weighted_sums : (c : Class) → IsTrue (is_weighted c) → IsTrue (is_sum c) × IsFalse (is_shop c)
weighted_sums WeightedSum h = (refl, refl)
weighted_sums PrmpWeightedSum h = (refl, refl)
weighted_sums _ h = absurd (false≢true h)

module _ (k : SchedulingTask) (sound : IsSound k) (n : Option ℕ)
    (plain : IsFalse (is_costed k.class)) where
  abbrev task : ProblemData
  task = counted k n

  -- ---- the time of a job, and of all

  work_is : (j : ℕ) → IsJob k j → work (posed_job k j) ≡ time_of k j
  work_is j job = by (is_shop k.class) refl
    where
      by : (b : Bool) → is_shop k.class ≡ b → work (posed_job k j) ≡ time_of k j
      by true shop =
          ap (λ s. sum ((job_data k j).first ∷ cond s ((job_data k j).second ∷ []) [])) shop
          ∙ omega arith
      by false single =
          ap (λ s. sum ((job_data k j).first ∷ cond s ((job_data k j).second ∷ []) [])) single
          ∙ omega (arith, sound.one_time single j job)

  all_work_is : all_work task ≡ sum_by (time_of k) (all_jobs k)
  all_work_is =
      mapped-sum work (posed_job k) (all_jobs k)
      ∙ sum_by-same_all (λ j. work (posed_job k j)) (time_of k) (all_jobs k)
      (All-all_jobs k (λ j. work (posed_job k j) ≡ time_of k j) work_is)

  -- ---- weights

  -- the weights times the work are within the limit, and there is some work
  weight-le-limit : (j : ℕ) → IsJob k j → (job_data k j).weight ≤ limit
  weight-le-limit j job = by (is_weighted k.class) refl
    where
      by : (b : Bool) → is_weighted k.class ≡ b → (job_data k j).weight ≤ limit
      by false light = omega (arith, sound.unit_weights light j job)
      by true weighs =
          let first : IsJob k 1 = (omega arith, sound.some_job) in
          let weights : ℕ = sum_by (λ (d : JobData). d.weight) k.jobs in
          let times : ℕ = sum_by (λ (d : JobData). d.first + d.second) k.jobs in
          let some : 1 ≤ times =
          omega (
            arith,
            sound.worked (weighted_sums k.class weighs).1 1 first,
            get_or-le-sum_by (λ (d : JobData). d.first + d.second) k.jobs 0 no_job
                (omega (arith, sound.some_job)),
          ) in
          let more : weights * 1 ≤ weights * times = mul-le-mul_left weights some in
          let within : weights * times ≤ limit =
          subst (λ x. x * times ≤ limit) (sum_by-all_jobs k (λ d. d.weight))
          (subst (λ x. sum_by (λ j. (job_data k j).weight) (all_jobs k) * x ≤ limit)
          (sum_by-all_jobs k (λ d. d.first + d.second))
          (sound.weighted_total (weighted_sums k.class weighs).0)) in
          omega (
            arith,
            more,
            within,
            get_or-le-sum_by (λ (d : JobData). d.weight) k.jobs (j - 1) no_job
                (omega (arith, job.0, job.1)),
          )

  -- ---- the jobs

  sized_job : (j : ℕ) → IsJob k j → IsSizedJob task.problem task.machines (posed_job k j)
  sized_job j job = record {
    one_time = λ single.
        ap (λ s. length ((job_data k j).first ∷ cond s ((job_data k j).second ∷ []) [])) single;
    shop_times = λ shop.
        ap (λ s. length ((job_data k j).first ∷ cond s ((job_data k j).second ∷ []) [])) shop
        ∙ sym (sound.shop shop);
    routed = λ is. absurd (false≢true (sym (no_job_shop k.class) ∙ is));
    some_route = λ is. absurd (false≢true (sym (no_job_shop k.class) ∙ is));
    some_time = λ needs. some_time (is_shop k.class) refl needs;
    weight = weight-le-limit j job;
    release = omega (arith, sound.horizon j job);
    due = sound.dues j job;
  }
    where
      some_time : (b : Bool) → is_shop k.class ≡ b → IsTrue (needs_time (notation_of k.class))
          → 1 ≤ work (posed_job k j)
      some_time true shop needs = absurd (false≢true (sym (no_need k.class shop) ∙ needs))
      some_time false single needs = omega (arith, work_is j job, sound.worked single j job)

  pub posed-sized : IsSized task
  posed-sized =
      let its : IsProblemSound task = posed-sound k sound n plain in
      record {
        covered = its.covered;
        some_job = its.some_job;
        few_jobs = omega (arith, size k, sound.few_jobs);
        some_machine = its.some_machine;
        few_machines = sound.few_machines;
        single = its.single;
        jobs = All-map (IsSizedJob task.problem task.machines) (posed_job k) (all_jobs k)
            (All-all_jobs k (λ j. IsSizedJob task.problem task.machines (posed_job k j)) sized_job);
        arcs_in = its.arcs_in;
        total = omega (arith, all_work_is, sound.total);
        horizon = All-map (λ x. x.release + all_work task ≤ limit) (posed_job k) (all_jobs k)
            (All-all_jobs k (λ j. (job_data k j).release + all_work task ≤ limit)
            (λ j job. omega (arith, all_work_is, sound.horizon j job)));
      }
