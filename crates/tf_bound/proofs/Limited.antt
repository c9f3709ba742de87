-- What the task of a problem keeps that schedules are judged by, and its routes.
use Rattle.std.proofs.Common.{◌≡◌, ℕ, ◌<◌, length, slice_index, refl, sym, ap, arith, All, IsFalse}
use Rattle.std.proofs.lemmas.Bool.{false≢true}
use Rattle.std.proofs.lemmas.List.FromFn.{length-range_with_len, get_or-range_with_len}
use Rattle.tf_model.specs.declared.problem.Env.{Env}
use Rattle.tf_model.specs.declared.problem.Env.TheVariants.{Flow, JobShop}
use Rattle.tf_posed.specs.ProblemData.{ProblemData, IsProblemJob, route_by, route_of, is_job_shop}
use Rattle.tf_problem.proofs.RouteLists.{range-below}
use Rattle.tf_schedule.specs.Asks.{IsLimited}
use Rattle.tf_bound.specs.Sized.{IsSized}
use Rattle.tf_bound.proofs.Sound.{sized_job}

module _ (k : ProblemData) (j : ℕ) where
  -- outside job shops a route is of the machines one by one, or there is none
  elsewhere : (e : Env) → IsFalse (is_job_shop e) → (i : ℕ) → i < length (route_by e k j)
      → slice_index (route_by e k j) i ≡ i
  elsewhere Flow none i h =
      omega (
        arith,
        get_or-range_with_len 0 k.machines i 0
            (omega (arith, h, length-range_with_len 0 k.machines)),
      )
  elsewhere JobShop none i h = absurd (false≢true (sym none))
  elsewhere _ none i h = absurd (omega (arith, h))

  pub visited_elsewhere : IsFalse (is_job_shop k.problem.env) → (i : ℕ)
      → i < length (route_of k j) → slice_index (route_of k j) i ≡ i
  visited_elsewhere = elsewhere k.problem.env

module _ (k : ProblemData) (sized : IsSized k) where
  below : (j : ℕ) → IsProblemJob k j → (e : Env) → k.problem.env ≡ e
      → All (λ a. a < k.machines) (route_by e k j)
  below j job Flow is = range-below k.machines
  below j job JobShop is = ((sized_job k sized j job).routed (ap is_job_shop is)).of_machines
  below j job _ is = λ i d h. absurd (omega (arith, h))

  pub limited : IsLimited k
  limited = record {
    few_jobs = sized.few_jobs;
    few_machines = sized.few_machines;
    times = λ shop j job. (sized_job k sized j job).shop_times shop;
    releases = λ j job. (sized_job k sized j job).release;
    routes = λ j job. below j job k.problem.env refl;
    arcs_in = sized.arcs_in;
  }
