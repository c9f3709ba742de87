-- The steps of a job and its route.
use Rattle.std.proofs.Common.{◌≡◌, Bool, true, false, ◌||◌, IsTrue, ℕ, ◌≤◌, ◌<◌, length, refl, sym, ap, subst, arith, All}
use Rattle.std.specs.List.{range_with_len}
use Rattle.std.proofs.lemmas.Bool.{false≢true}
use Rattle.tf_model.specs.declared.problem.Env.{Env}
use Rattle.tf_model.specs.declared.problem.Env.TheVariants.{Single, Parallel, Uniform, Unrelated, Flow, OpenShop, JobShop}
use Rattle.tf_model.specs.ClassTable.{is_shop_env, is_flow_env}
use Rattle.tf_posed.specs.ProblemData.{ProblemData, ProblemJobData, IsProblemJob, problem_job, route_by, route_of, is_job_shop}
use Rattle.tf_problem.proofs.RouteLists.{range-apart, range-below, Contains-range}
use Rattle.tf_bound.specs.Route.{IsRouted}
use Rattle.tf_bound.specs.Sized.{IsSized}
use Rattle.tf_bound.specs.Steps.{steps_by, steps_of}
use Rattle.tf_bound.proofs.Routes.{has_route}
use Rattle.tf_bound.proofs.Sound.{sized_job}

pub steps_elsewhere : (e : Env) → is_job_shop e ≡ false → (x : ProblemJobData)
    → steps_by e x ≡ range_with_len 0 (length x.times)
steps_elsewhere JobShop h x = absurd (false≢true (sym h))
steps_elsewhere Single h x = refl
steps_elsewhere Parallel h x = refl
steps_elsewhere Uniform h x = refl
steps_elsewhere Unrelated h x = refl
steps_elsewhere Flow h x = refl
steps_elsewhere OpenShop h x = refl

module _ (k : ProblemData) (sized : IsSized k) where
  -- a route is followed step by step
  pub route_steps : IsTrue (is_flow_env k.problem.env || is_job_shop k.problem.env) → (j : ℕ)
      → IsProblemJob k j → route_of k j ≡ steps_of k j
  route_steps routed j job = by k.problem.env refl routed
    where
      by : (e : Env) → k.problem.env ≡ e → IsTrue (is_flow_env e || is_job_shop e)
          → route_by e k j ≡ steps_by e (problem_job k j)
      by Flow is h =
          ap (range_with_len 0)
          (sym ((sized_job k sized j job).shop_times (ap is_shop_env is)))
      by JobShop is h = refl
      by _ is h = absurd (false≢true h)

  times_few : (j : ℕ) → IsProblemJob k j → length (problem_job k j).times ≤ k.machines
  times_few j job = by (is_shop_env k.problem.env) refl
    where
      by : (b : Bool) → is_shop_env k.problem.env ≡ b
          → length (problem_job k j).times ≤ k.machines
      by true e = omega (arith, (sized_job k sized j job).shop_times e)
      by false e = omega (arith, (sized_job k sized j job).one_time e, sized.some_machine)

  -- each is on a machine for which the job has a time
  pub steps_timed : (j : ℕ) → IsProblemJob k j
      → All (λ a. a < length (problem_job k j).times) (steps_of k j)
  steps_timed j job = by k.problem.env refl
    where
      by : (e : Env) → k.problem.env ≡ e
          → All (λ a. a < length (problem_job k j).times) (steps_by e (problem_job k j))
      by JobShop is =
          let its = sized_job k sized j job in
          subst (λ m. All (λ a. a < m) (problem_job k j).route)
          (sym (its.shop_times (ap is_shop_env is))) (its.routed (ap is_job_shop is)).of_machines
      by _ is = range-below (length (problem_job k j).times)

  -- and of the task
  pub steps_below : (j : ℕ) → IsProblemJob k j → All (λ a. a < k.machines) (steps_of k j)
  steps_below j job p d h = omega (arith, steps_timed j job p d h, times_few j job)

  -- they are a route of the job, whatever the environment is
  pub steps_routed : (j : ℕ) → IsProblemJob k j
      → IsRouted (length (problem_job k j).times) (problem_job k j).times (steps_of k j)
  steps_routed j job = by k.problem.env refl
    where
      by : (e : Env) → k.problem.env ≡ e
          → IsRouted (length (problem_job k j).times) (problem_job k j).times
          (steps_by e (problem_job k j))
      by JobShop is = has_route k sized (ap is_job_shop is) j job
      by _ is = record {
        of_machines = range-below (length (problem_job k j).times);
        no_twice = range-apart 0 (length (problem_job k j).times);
        has_all = λ a lt some. Contains-range (length (problem_job k j).times) a lt;
      }
