-- A task that is refused breaks what every task satisfies; the faults of its jobs by themselves.
use Rattle.std.proofs.Common.{◌≡◌, ⊎_elim, ℕ, ◌+◌, ◌≤◌, ◌<◌, true, List, [], length, get_or, take, sym, ap, ◌∙◌, subst, inl, inr, All, sum_by, arith}
use Rattle.std.proofs.lemmas.Bool.{false≢true}
use Rattle.std.proofs.lemmas.List.{get_or_default, take_all}
use Rattle.std.proofs.lemmas.List.Sums.{sum_by-take-le, get_or-le-sum_by}
use Rattle.tf_model.specs.declared.problem.Problem.{Problem}
use Rattle.tf_posed.specs.ProblemData.{ProblemData, ProblemJobData, is_job_shop, no_problem_job}
use Rattle.tf_bound.specs.Sized.{IsSized, IsSizedJob, task_of, work, all_work}
use Rattle.tf_model.specs.Limit.{limit}
use Rattle.tf_bound.specs.Refused.{IsFitJob, AreFit, IsUnfitAt, IsTooMuchAt, IsJobsFault, IsCounted, IsInHorizon, AreArcsIn, IsTaskFault}
use Rattle.tf_bound.proofs.Steps.{sum_next}
use Rattle.tf_bound.specs.declared.fault.TaskFault.{TaskFault}
use Rattle.tf_bound.specs.declared.fault.TaskFault.TheVariants.{NotCovered, Jobs, Machines, Times, TooLarge, Arc}

-- ---- the jobs

-- a job of a job shop without a route is not as the problem asks
pub unrouted_unfit : (p : Problem) → is_job_shop p.env ≡ true → (x : ProblemJobData)
    → length x.route ≡ 0 → (machines : ℕ) → IsFitJob p machines x → ⊥
unrouted_unfit p shop x none machines fit = absurd (omega (arith, fit.0.some_route shop, none))

-- the time of the jobs before one, and the job
module _ (p : Problem) (machines : ℕ) (jobs : List ProblemJobData) (i all : ℕ)
    (sized : All (IsSizedJob p machines) (take i jobs)) (value : all ≡ sum_by work (take i jobs))
    (small : all ≤ limit) (x : ProblemJobData) (lt : i < length jobs) (at : x ≡ get_or jobs i x) where
  fit_before : AreFit p machines jobs i
  fit_before = record { sized = sized; total = omega (arith, value, small) }

  is_there : x ≡ get_or jobs i no_problem_job
  is_there = at ∙ get_or_default jobs i x no_problem_job lt

  pub unfit_at : (IsFitJob p machines x → ⊥) → IsUnfitAt p machines jobs i
  unfit_at unfit = record {
    before = fit_before;
    place = lt;
    unfit = subst (λ (y : ProblemJobData). IsFitJob p machines y → ⊥) is_there unfit;
  }

  pub too_much_at : IsSizedJob p machines x → work x ≤ limit → limit < all + work x
      → IsTooMuchAt p machines jobs i
  too_much_at its its_work much = record {
    before = fit_before;
    place = lt;
    fit = subst (λ (y : ProblemJobData). IsFitJob p machines y) is_there (its, its_work);
    beyond = omega (arith, much, value, sum_next work jobs i x lt at);
  }

module _ (k : ProblemData) (sized : IsSized k) where
  jobs_fault_not_sized : (f : TaskFault)
      → IsJobsFault k.problem k.machines k.jobs f → ⊥
  jobs_fault_not_sized (Times i) fault =
      fault.unfit (
        sized.jobs i no_problem_job fault.place,
        omega (arith, get_or-le-sum_by work k.jobs i no_problem_job fault.place, sized.total),
      )
  jobs_fault_not_sized TooLarge fault =
      absurd (omega (
        arith,
        fault.1.beyond,
        sum_by-take-le work k.jobs (fault.0 + 1),
        sized.total,
      ))
  jobs_fault_not_sized NotCovered fault = fault
  jobs_fault_not_sized Jobs fault = fault
  jobs_fault_not_sized Machines fault = fault
  jobs_fault_not_sized Arc fault = fault

  -- ---- the task

  pub not_sized : (f : TaskFault) → IsTaskFault k f → ⊥
  not_sized NotCovered fault = false≢true (sym fault ∙ sized.covered)
  not_sized Jobs fault = fault.1 (sized.some_job, sized.few_jobs)
  not_sized Machines fault =
      fault.2 (record {
        some = sized.some_machine;
        few = sized.few_machines;
        single = sized.single;
      })
  not_sized (Times i) fault = jobs_fault_not_sized (Times i) fault.1
  not_sized TooLarge fault =
      ⊎_elim (λ much. jobs_fault_not_sized TooLarge much) (λ late. late.late sized.horizon) fault.1
  not_sized Arc fault = fault.1 sized.arcs_in

-- what is wrong with the jobs, where all before is right
pub jobs_fault : (k : ProblemData) → IsCounted k → (f : TaskFault)
    → IsJobsFault k.problem k.machines k.jobs f → IsTaskFault k f
jobs_fault k counted (Times i) fault = (counted, fault)
jobs_fault k counted TooLarge fault = (counted, inl fault)
jobs_fault k counted NotCovered fault = absurd fault
jobs_fault k counted Jobs fault = absurd fault
jobs_fault k counted Machines fault = absurd fault
jobs_fault k counted Arc fault = absurd fault

-- ---- the parts of a task

module _ (k : ProblemData) (counted : IsCounted k) (all : ℕ) (value : all ≡ all_work k)
    (small : all ≤ limit) (its : All (IsSizedJob k.problem k.machines) k.jobs) where
  all_fit : AreFit k.problem k.machines k.jobs (length k.jobs)
  all_fit =
      let whole : take (length k.jobs) k.jobs ≡ k.jobs =
      take_all (length k.jobs) k.jobs (omega arith) in
      record {
        sized = subst (λ (ys : List ProblemJobData). All (IsSizedJob k.problem k.machines) ys)
            (sym whole) its;
        total = omega (arith, small, value, ap (sum_by work) whole);
      }

  -- not all work after some release date is within the limit
  pub too_late : (All (λ x. x.release + all ≤ limit) k.jobs → ⊥) → IsTaskFault k TooLarge
  too_late late = (
    counted,
    inr (record {
      fit = all_fit;
      late = subst (λ (n : ℕ). All (λ (x : ProblemJobData). x.release + n ≤ limit) k.jobs → ⊥) value
          late;
    }),
  )

  module _ (within : All (λ x. x.release + all ≤ limit) k.jobs) where
    horizon : IsInHorizon k
    horizon = subst (λ (n : ℕ). All (λ (x : ProblemJobData). x.release + n ≤ limit) k.jobs) value
        within

    -- an arc is not between two of the jobs
    pub not_in : (AreArcsIn k → ⊥) → IsTaskFault k Arc
    not_in none = (record { counted = counted; fit = all_fit; horizon = horizon }, none)

    pub sized_task : AreArcsIn k → IsSized k
    sized_task arcs = record {
      covered = counted.taken;
      some_job = counted.jobs.0;
      few_jobs = counted.jobs.1;
      some_machine = counted.machines.some;
      few_machines = counted.machines.few;
      single = counted.machines.single;
      jobs = its;
      arcs_in = arcs;
      total = omega (arith, value, small);
      horizon = horizon;
    }

-- a task whose jobs and arcs are named otherwise
pub same_task : (Q : ProblemData → Type 0) (problem : Problem) (machines : ℕ)
    (xs jobs : List ProblemJobData) (ys arcs : List (ℕ × ℕ)) → xs ≡ jobs → ys ≡ arcs
    → Q (task_of problem machines xs ys) → Q (task_of problem machines jobs arcs)
same_task Q problem machines xs jobs ys arcs is are h =
    subst (λ (js : List ProblemJobData). Q (task_of problem machines js arcs)) is
    (subst (λ (zs : List (ℕ × ℕ)). Q (task_of problem machines xs zs)) are h)
