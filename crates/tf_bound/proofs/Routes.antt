-- Heads and tails of jobs.
use Rattle.std.proofs.Common.{◌≡◌, true, false, ℕ, zero, suc, ◌+◌, ◌-◌, ◌≤◌, ◌<◌, List, [], length, sum, sum_by, take, drop, slice_index, refl, sym, ap, ◌∙◌, subst, arith}
use Rattle.std.specs.List.{range_with_len}
use Rattle.std.proofs.lemmas.Bool.{false≢true}
use Rattle.std.proofs.lemmas.List.{drop_more}
use Rattle.std.proofs.lemmas.List.Sums.{sum_by-cons, sum_by-take-le, sum_by-take-drop, get_or-le-sum_by}
use Rattle.tf_model.specs.declared.problem.Env.{Env}
use Rattle.tf_model.specs.declared.problem.Env.TheVariants.{Single, Parallel, Uniform, Unrelated, Flow, OpenShop, JobShop}
use Rattle.tf_model.specs.ClassTable.{is_flow_env, is_shop_env}
use Rattle.tf_model.specs.Limit.{limit}
use Rattle.tf_posed.specs.ProblemData.{ProblemData, IsProblemJob, problem_job, problem_release, route_by, no_problem_job, is_job_shop}
use Rattle.tf_problem.specs.ProblemBounds.{before, behind, head, tail}
use Rattle.tf_problem.proofs.RouteLists.{before-range, behind-range}
use Rattle.tf_bound.specs.Route.{IsRouted}
use Rattle.tf_bound.specs.Sized.{IsSized, work}
use Rattle.tf_bound.proofs.Sound.{sized_job}

-- the numbers at places in a row
pub range_sum : (xs : List ℕ) (s n : ℕ) → s + n ≤ length xs
    → sum_by (slice_index xs) (range_with_len s n) ≡ sum (take n (drop s xs))
range_sum xs s zero h = refl
range_sum xs s (suc n) h =
    let lt : s < length xs = omega arith in
    sum_by-cons (slice_index xs) s (range_with_len (s + 1) n)
    ∙ ap (λ t. slice_index xs s + t) (range_sum xs (s + 1) n (omega arith))
    ∙ sym (sum_by-cons (λ x. x) (slice_index xs s) (take n (drop (s + 1) xs)))
    ∙ ap (λ l. sum (take (suc n) l)) (sym (drop_more xs s 0 lt))

-- no job has more time than all
pub work_small : (k : ProblemData) → IsSized k → (j : ℕ) → IsProblemJob k j
    → sum (problem_job k j).times ≤ limit
work_small k sized j job =
    omega (
      arith,
      get_or-le-sum_by work k.jobs (j - 1) no_problem_job (omega (arith, job.0, job.1)),
      sized.total,
    )

pub part_small : (xs : List ℕ) (s n : ℕ) → sum (take n (drop s xs)) ≤ sum xs
part_small xs s n =
    omega (arith, sum_by-take-le (λ x. x) (drop s xs) n, sum_by-take-drop (λ x. x) xs s)

flow_shop : (e : Env) → is_flow_env e ≡ true → is_shop_env e ≡ true
flow_shop Flow h = refl
flow_shop Single h = absurd (false≢true h)
flow_shop Parallel h = absurd (false≢true h)
flow_shop Uniform h = absurd (false≢true h)
flow_shop Unrelated h = absurd (false≢true h)
flow_shop OpenShop h = absurd (false≢true h)
flow_shop JobShop h = absurd (false≢true h)

-- in a flow shop a job has a time for each machine
pub flow_times : (k : ProblemData) → IsSized k → is_flow_env k.problem.env ≡ true → (j : ℕ)
    → IsProblemJob k j → length (problem_job k j).times ≡ k.machines
flow_times k sized flow j job =
    (sized_job k sized j job).shop_times (flow_shop k.problem.env flow)

flow_route : (e : Env) → is_flow_env e ≡ true → (k : ProblemData) (j : ℕ)
    → route_by e k j ≡ range_with_len 0 k.machines
flow_route Flow h k j = refl
flow_route Single h k j = absurd (false≢true h)
flow_route Parallel h k j = absurd (false≢true h)
flow_route Uniform h k j = absurd (false≢true h)
flow_route Unrelated h k j = absurd (false≢true h)
flow_route OpenShop h k j = absurd (false≢true h)
flow_route JobShop h k j = absurd (false≢true h)

job_route : (e : Env) → is_job_shop e ≡ true → (k : ProblemData) (j : ℕ)
    → route_by e k j ≡ (problem_job k j).route
job_route JobShop h k j = refl
job_route _ h k j = absurd (false≢true h)

pub shop_of_routes : (e : Env) → is_job_shop e ≡ true → is_shop_env e ≡ true
shop_of_routes JobShop h = refl
shop_of_routes _ h = absurd (false≢true h)

-- in a job shop a job has a route
pub has_route : (k : ProblemData) → IsSized k → is_job_shop k.problem.env ≡ true → (j : ℕ)
    → IsProblemJob k j
    → IsRouted (length (problem_job k j).times) (problem_job k j).times (problem_job k j).route
has_route k sized routed j job =
    let its = sized_job k sized j job in
    subst (λ m. IsRouted m (problem_job k j).times (problem_job k j).route)
    (sym (its.shop_times (shop_of_routes k.problem.env routed))) (its.routed routed)

-- elsewhere a job has no route
pub no_route : (e : Env) → is_flow_env e ≡ false → is_job_shop e ≡ false → (k : ProblemData) (j : ℕ)
    → route_by e k j ≡ []
no_route Flow h i k j = absurd (false≢true (sym h))
no_route Single h i k j = refl
no_route Parallel h i k j = refl
no_route Uniform h i k j = refl
no_route Unrelated h i k j = refl
no_route OpenShop h i k j = refl
no_route JobShop h i k j = absurd (false≢true (sym i))

module _ (k : ProblemData) (flow : is_flow_env k.problem.env ≡ true) (a j : ℕ) (in' : a < k.machines)
    (as_many : length (problem_job k j).times ≡ k.machines) where
  pub head_in_flow : head k a j ≡ problem_release k j + sum (take a (problem_job k j).times)
  head_in_flow =
      let times : List ℕ = (problem_job k j).times in
      ap (λ r. problem_release k j + sum_by (slice_index times) (before a r))
      (flow_route k.problem.env flow k j)
      ∙ ap (λ r. problem_release k j + sum_by (slice_index times) r)
      (before-range a 0 k.machines (omega arith) (omega arith) ∙ ap (range_with_len 0) (whole a))
      ∙ ap (λ t. problem_release k j + t) (range_sum times 0 a (omega (arith, as_many)))
    where
      whole : (n : ℕ) → n - 0 ≡ n
      whole n = omega arith

  pub tail_in_flow : tail k a j
      ≡ sum (take (k.machines - (a + 1)) (drop (a + 1) (problem_job k j).times))
  tail_in_flow =
      let times : List ℕ = (problem_job k j).times in
      ap (λ r. sum_by (slice_index times) (behind a r)) (flow_route k.problem.env flow k j)
      ∙ ap (λ r. sum_by (slice_index times) r)
      (behind-range a 0 k.machines (omega arith) (omega arith)
      ∙ ap (range_with_len (a + 1)) (whole k.machines (a + 1)))
      ∙ range_sum times (a + 1) (k.machines - (a + 1)) (omega (arith, as_many))
    where
      whole : (n b : ℕ) → 0 + n - b ≡ n - b
      whole n b = omega arith

module _ (k : ProblemData) (routed : is_job_shop k.problem.env ≡ true) (a j : ℕ) where
  pub head_in_job_shop : head k a j
      ≡ problem_release k j
      + sum_by (slice_index (problem_job k j).times) (before a (problem_job k j).route)
  head_in_job_shop =
      ap (λ r. problem_release k j + sum_by (slice_index (problem_job k j).times) (before a r))
      (job_route k.problem.env routed k j)

  pub tail_in_job_shop : tail k a j
      ≡ sum_by (slice_index (problem_job k j).times) (behind a (problem_job k j).route)
  tail_in_job_shop =
      ap (λ r. sum_by (slice_index (problem_job k j).times) (behind a r))
      (job_route k.problem.env routed k j)
