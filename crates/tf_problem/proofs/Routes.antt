-- A job on one machine or in a shop: its heads, its tails and its time in all.
use Rattle.std.proofs.Common.{◌≡◌, ◌≢◌, ◌⊎◌, inl, inr, Bool, true, false, not, ◌||◌, cond, ℕ, ◌+◌, ◌-◌, ◌≤◌, ◌<◌, slice_index_or, List, [], length, take, drop, refl, sym, ap, ◌∙◌, subst, ⊎_elim, arith, sum_by, All, Contains, IsTrue, length-take, length-drop}
use Rattle.std.specs.List.{AllPairs, range_with_len}
use Rattle.std.proofs.lemmas.Bool.{false≢true, or_cases, or_left, or_right}
use Rattle.std.proofs.lemmas.List.Elements.{All-take, All-drop}
use Rattle.tf_model.specs.Timetable.{Timetable, cell, cells_of, units, completion}
use Rattle.tf_model.specs.ClassTable.{is_single_env, is_shop_env, is_flow_env}
use Rattle.std.proofs.lemmas.List.Sums.{sum_by-cons}
use Rattle.tf_model.proofs.Sums.{sum_by_le_all}
use Rattle.tf_model.proofs.Units.{completion-le-row}
use Rattle.tf_model.proofs.Split.{take_cell}
use Rattle.tf_model.specs.declared.problem.Env.{Env}
use Rattle.tf_model.specs.declared.problem.Env.TheVariants.{Flow, JobShop}
use Rattle.tf_posed.specs.ProblemData.{ProblemData, IsProblemSound, IsProblemJob, IsRoute, is_job_shop, needs_time, problem_job, route_by, route_of, problem_time_on, time_over, problem_release}
use Rattle.tf_posed.specs.FitsProblem.{FitsProblem, VisitsFirst}
use Rattle.tf_problem.specs.ProblemBounds.{before, behind, head, tail, is_by_machine}
use Rattle.tf_problem.proofs.ProblemLists.{units_before, units_from, units-one, unit_at}
use Rattle.tf_problem.proofs.RouteLists.{units_on_route, before-says, behind-says, All-before, All-behind, AllPairs-before, AllPairs-behind, sum_by-before-behind, range-apart, range-below, Contains-range}
use Rattle.tf_problem.proofs.Relaxing.{problem_release-le-row}
use Rattle.tf_problem.proofs.Dropped.{single_no_shop}

pub flow_shop : (e : Env) → IsTrue (is_flow_env e) → IsTrue (is_shop_env e)
flow_shop Flow h = refl
flow_shop _ h = absurd (false≢true h)

-- a job that takes time wherever it is needed takes some, or is released at once
pub timed-or-free : (k : ProblemData) (j n : ℕ) → (IsTrue (needs_time k.problem) → 1 ≤ n)
    → (1 ≤ n) ⊎ (problem_release k j ≡ 0)
timed-or-free k j n some = by k.problem.release refl
  where
    by : (named : Bool) → k.problem.release ≡ named
        → (1 ≤ n) ⊎ (cond named (problem_job k j).release 0 ≡ 0)
    by true is = inl (some (or_right (not (is_shop_env k.problem.env))
        (k.problem.release || k.problem.prec) (or_left k.problem.release k.problem.prec is)))
    by false is = inr refl

-- ---- a job on one machine, or in a shop

module _ (k : ProblemData) (sound : IsProblemSound k) (rows : Timetable) (fits : FitsProblem k rows)
    (by : IsTrue (is_by_machine k.problem.env)) (j : ℕ) (job : IsProblemJob k j) where
  -- it has its time on each machine
  pub units-on : (a : ℕ) → a < k.machines → units rows j a ≡ problem_time_on k j a
  units-on a in' =
      ⊎_elim
      (λ single.
      let first : a ≡ 0 = omega (arith, sound.single single) in
      let one : All (λ row. length row ≡ 1) rows =
      subst (λ m. All (λ row. length row ≡ m) rows) (sound.single single) fits.width in
      let at_first : units rows j 0 ≡ problem_time_on k j 0 =
      sym (units-one rows one j)
      ∙ (fits.amount j job.0 job.1).in_all (single_no_shop k.problem.env single) in
      subst (λ i. units rows j i ≡ problem_time_on k j i) (sym first) at_first)
      (λ shop. (fits.amount j job.0 job.1).on_each shop a in')
      (or_cases (is_single_env k.problem.env) (is_shop_env k.problem.env) by)

  -- and some time in all, or it is released at once
  pub some_time : (1 ≤ time_over k j 0 k.machines) ⊎ (problem_release k j ≡ 0)
  some_time =
      ⊎_elim
      (λ single. inl (subst (λ m. 1 ≤ time_over k j 0 m) (sym (sound.single single))
      (omega (
        arith,
        (sound.one_time (single_no_shop k.problem.env single) j job).1,
        sum_by-cons (problem_time_on k j) 0 [],
      ))))
      (λ shop. timed-or-free k j (time_over k j 0 k.machines) (sound.shop_times shop j job).1)
      (or_cases (is_single_env k.problem.env) (is_shop_env k.problem.env) by)

  -- where the units of a job on some machines all stand between two rows, they have room there
  pub over-le-rows : (route : List ℕ) → AllPairs (λ a b. a ≢ b) route
      → All (λ a. a < k.machines) route → (from to : ℕ)
      → All (λ i. (s : ℕ) → cell rows s i ≡ j → (from ≤ s) × (s < to)) route
      → sum_by (problem_time_on k j) route ≤ to - from
  over-le-rows route apart in' from to between =
      let part : Timetable = drop from (take to rows) in
      let once : All (λ row. cells_of j row ≤ 1) part =
      All-drop (λ row. cells_of j row ≤ 1) from (take to rows)
      (All-take (λ row. cells_of j row ≤ 1) to rows (fits.single_place j job.0 job.1)) in
      let each : All (λ i. problem_time_on k j i ≤ units part j i) route =
      λ p d h. at (slice_index_or route p d) (in' p d h) (between p d h) in
      omega (
        arith,
        sum_by_le_all (problem_time_on k j) (units part j) route each,
        units_on_route part j job.0 once route apart,
        length-drop from (take to rows),
        length-take to rows,
      )
    where
      at : (i : ℕ) → i < k.machines → ((s : ℕ) → cell rows s i ≡ j → (from ≤ s) × (s < to))
          → problem_time_on k j i ≤ units (drop from (take to rows)) j i
      at i lt within =
          omega (
            arith,
            units-on i lt,
            units_before rows j i to (λ s e. (within s e).1),
            units_from (take to rows) j i from
                (λ s e. (within s (take_cell to rows s i j job.0 e)).0),
          )

  -- a job's cells are from its release date on and before its completion
  cell_within : (i s : ℕ) → cell rows s i ≡ j
      → (problem_release k j ≤ s) × (s < completion rows j)
  cell_within i s e =
      (problem_release-le-row k rows fits j job s i e, completion-le-row j job.0 rows s i e)

  -- a job is released and then has all its time before it completes
  pub total-le-completion : problem_release k j + time_over k j 0 k.machines ≤ completion rows j
  total-le-completion =
      ⊎_elim (λ timed. omega (arith, timed, room)) (λ free. omega (arith, free, room)) some_time
    where
      room : time_over k j 0 k.machines ≤ completion rows j - problem_release k j
      room = over-le-rows (range_with_len 0 k.machines) (range-apart 0 k.machines)
          (range-below k.machines) (problem_release k j) (completion rows j)
          (λ p d h. cell_within (slice_index_or (range_with_len 0 k.machines) p d))

  -- ---- its route

  -- it has one, or may visit the machines in any order
  pub routes : IsRoute k j (route_of k j) ⊎ (route_of k j ≡ [])
  routes = routes_by k.problem.env refl
    where
      routes_by : (e : Env) → k.problem.env ≡ e
          → IsRoute k j (route_by e k j) ⊎ (route_by e k j ≡ [])
      routes_by Flow is = inl (record {
        of_machines = range-below k.machines;
        no_twice = range-apart 0 k.machines;
        has_all = λ a lt some. Contains-range k.machines a lt;
      })
      routes_by JobShop is = inl (sound.routes (ap is_job_shop is) j job)
      routes_by _ is = inr refl

  -- a job on a machine has its head behind it
  pub head-le-row : (a t : ℕ) → a < k.machines → cell rows t a ≡ j → head k a j ≤ t
  head-le-row a t lt e =
      ⊎_elim
      (λ route.
      let at : Contains (route_of k j) a =
      route.has_all a lt (omega (arith, unit_at rows j a t job.0 e, units-on a lt)) in
      let first : All (λ i. VisitsFirst rows j i a) (before a (route_of k j)) =
      before-says (VisitsFirst rows j) a (route_of k j) (fits.on_route j job.0 job.1) at in
      omega (
        arith,
        problem_release-le-row k rows fits j job t a e,
        over-le-rows (before a (route_of k j))
            (AllPairs-before (λ a b. a ≢ b) a (route_of k j) route.no_twice)
            (All-before (λ a. a < k.machines) a (route_of k j) route.of_machines)
            (problem_release k j) t
            (λ p d h s c. (
              problem_release-le-row k rows fits j job s
                  (slice_index_or (before a (route_of k j)) p d) c,
              first p d h s t c e,
            )),
      ))
      (λ none.
      omega (
        arith,
        problem_release-le-row k rows fits j job t a e,
        ap (λ route. sum_by (problem_time_on k j) (before a route)) none,
      ))
      routes

  -- and its tail before it
  pub tail-after-row : (a t : ℕ) → a < k.machines → cell rows t a ≡ j
      → t + 1 + tail k a j ≤ completion rows j
  tail-after-row a t lt e =
      ⊎_elim
      (λ route.
      let later : All (λ i. VisitsFirst rows j a i) (behind a (route_of k j)) =
      behind-says (VisitsFirst rows j) a (route_of k j) (fits.on_route j job.0 job.1) in
      omega (
        arith,
        completion-le-row j job.0 rows t a e,
        over-le-rows (behind a (route_of k j))
            (AllPairs-behind (λ a b. a ≢ b) a (route_of k j) route.no_twice)
            (All-behind (λ a. a < k.machines) a (route_of k j) route.of_machines)
            (t + 1) (completion rows j)
            (λ p d h s c. (
              next (later p d h t s e c),
              completion-le-row j job.0 rows s (slice_index_or (behind a (route_of k j)) p d) c,
            )),
      ))
      (λ none.
      omega (
        arith,
        completion-le-row j job.0 rows t a e,
        ap (λ route. sum_by (problem_time_on k j) (behind a route)) none,
      ))
      routes
    where
      next : {s t : ℕ} → t < s → t + 1 ≤ s
      next h = omega arith

  -- both are within its time in all
  pub route-le-completion : (a : ℕ) → head k a j + tail k a j ≤ completion rows j
  route-le-completion a =
      ⊎_elim
      (λ route.
      omega (
        arith,
        total-le-completion,
        over-le-rows (route_of k j) route.no_twice route.of_machines (problem_release k j)
            (completion rows j)
            (λ p d h. cell_within (slice_index_or (route_of k j) p d)),
        sum_by-before-behind (problem_time_on k j) a (route_of k j),
      ))
      (λ none.
      omega (
        arith,
        total-le-completion,
        ap (λ route. sum_by (problem_time_on k j) (before a route)) none,
        ap (λ route. sum_by (problem_time_on k j) (behind a route)) none,
      ))
      routes
