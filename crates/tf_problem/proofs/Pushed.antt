-- Release dates and due dates that follow from the arcs.
use Rattle.std.proofs.Common.{◌≡◌, Bool, true, false, ℕ, zero, suc, ◌+◌, ◌-◌, ◌≤◌, ◌<◌, ◌||◌, ◌&&◌, not, slice_index, slice_index_or, List, length, cond, refl, sym, ap, ◌∙◌, subst, ⊎_elim, arith, sum_by, All, Contains, ℤ, pos, ◌-ℤ◌, ◌≤ℤ◌, IsTrue}
use Rattle.std.specs.List.{AllPairs, range_with_len}
use Rattle.std.specs.List.Sorted.{IsPermutation}
use Rattle.std.proofs.lemmas.Int.{ints}
use Rattle.std.proofs.lemmas.Bool.{false≢true, and_parts, or_cases, or_right}
use Rattle.std.proofs.lemmas.List.Elements.{All-contains}
use Rattle.std.proofs.lemmas.List.FromFn.{get_or-map-range_with_len, length-map-range_with_len}
use Rattle.tf_model.specs.declared.problem.Goal.{Goal}
use Rattle.tf_model.specs.declared.problem.Goal.TheVariants as goals
use Rattle.tf_model.specs.declared.problem.Env.{Env}
use Rattle.tf_model.specs.declared.problem.Env.TheVariants.{Single, Parallel, Uniform, Unrelated, Flow, OpenShop, JobShop}
use Rattle.tf_model.specs.Timetable.{Timetable, cell, completion}
use Rattle.tf_model.specs.ClassTable.{is_single_env, is_shop_env}
use Rattle.tf_model.specs.Feasible.{IsKept}
use Rattle.tf_model.proofs.Units.{cell_at_completion, completion-le-row, completion-le-length}
use Rattle.tf_posed.specs.ProblemData.{ProblemData, IsProblemSound, IsProblemJob, needs_time, problem_job, problem_time, time_over, problem_due, route_by, no_problem_job, is_covered_env, is_covered_goal, IsRoute}
use Rattle.tf_posed.specs.FitsProblem.{FitsProblem, VisitsFirst}
use Rattle.tf_posed.specs.ProblemCost.{problem_cost}
use Rattle.tf_problem.specs.ProblemBounds.{problem_work, is_alike, is_max_goal}
use Rattle.tf_problem.specs.Pushed.{release_in, due_in, pushed_job, pushed, dated_goal, AreReleases, AreDues}
use Rattle.tf_problem.proofs.Relaxing.{problem_release-le-row}
use Rattle.tf_problem.proofs.Least.{late-le-cost}
use Rattle.tf_problem.proofs.Routes.{over-le-rows}
use Rattle.tf_problem.proofs.RouteLists.{range-apart, range-below}
use Rattle.tf_problem.proofs.Windows.{alike_no_shop, cells-between, units-le-rows}

pub known_env : (e : Env) → IsTrue (is_covered_env e) → IsTrue (is_alike e || is_shop_env e)
known_env Single h = refl
known_env Parallel h = refl
known_env Uniform h = absurd (false≢true h)
known_env Unrelated h = absurd (false≢true h)
known_env Flow h = refl
known_env OpenShop h = refl
known_env JobShop h = refl

-- a job that waits for another takes time
pub needed-by_arcs : (k : ProblemData) → IsTrue k.problem.prec → IsTrue (needs_time k.problem)
needed-by_arcs k prec =
    or_right (not (is_shop_env k.problem.env)) (k.problem.release || k.problem.prec)
    (or_right k.problem.release k.problem.prec prec)

module _ (k : ProblemData) (sound : IsProblemSound k) (rows : Timetable) (fits : FitsProblem k rows) where
  env : IsTrue (is_alike k.problem.env || is_shop_env k.problem.env)
  env = known_env k.problem.env
      (and_parts (is_covered_env k.problem.env) (is_covered_goal k.problem.goal)
      (and_parts (is_covered_env k.problem.env && is_covered_goal k.problem.goal)
      (not (k.problem.block || k.problem.rcrc)) sound.covered).0).0

  -- ---- a job's whole work

  -- where all of a job's cells stand between two rows, its work has room there
  pub work-le-rows : (j : ℕ) → IsProblemJob k j → (from to : ℕ)
      → ((s i : ℕ) → cell rows s i ≡ j → (from ≤ s) × (s < to)) → problem_work k j ≤ to - from
  work-le-rows j h from to between =
      ⊎_elim
      (λ alike.
      let plain : is_shop_env k.problem.env ≡ false = alike_no_shop k alike in
      let ends : completion rows j ≤ to = by_last (completion rows j) refl in
      omega (
        arith,
        ap (λ s. cond s (time_over k j 0 k.machines) (problem_time k j)) plain,
        cells-between k sound alike rows fits j h from to (λ s i e. (between s i e).0) ends,
        units-le-rows k sound alike rows fits j h from to,
      ))
      (λ shop.
      omega (
        arith,
        ap (λ s. cond s (time_over k j 0 k.machines) (problem_time k j)) shop,
        over-le-rows k sound rows fits
            (or_right (is_single_env k.problem.env) (is_shop_env k.problem.env) shop) j h
            (range_with_len 0 k.machines) (range-apart 0 k.machines) (range-below k.machines) from to
            (λ p d in' s e. between s (slice_index_or (range_with_len 0 k.machines) p d) e),
      ))
      (or_cases (is_alike k.problem.env) (is_shop_env k.problem.env) env)
    where
      by_last : (c : ℕ) → completion rows j ≡ c → completion rows j ≤ to
      by_last zero e = omega (arith, e)
      by_last (suc c) e =
          let last = cell_at_completion j rows c e in
          omega (arith, e, between c last.0 last.1)

  -- it takes time where time is needed
  pub some_work : IsTrue (needs_time k.problem) → (j : ℕ) → IsProblemJob k j → 1 ≤ problem_work k j
  some_work needed j h = by (is_shop_env k.problem.env) refl
    where
      by : (s : Bool) → is_shop_env k.problem.env ≡ s
          → 1 ≤ cond s (time_over k j 0 k.machines) (problem_time k j)
      by true shop = (sound.shop_times shop j h).1 needed
      by false plain = (sound.one_time plain j h).1

  kept : IsTrue k.problem.prec → (i j : ℕ) → Contains k.arcs (i, j) → (s t a b : ℕ)
      → cell rows s a ≡ i → cell rows t b ≡ j → s < t
  kept prec i j at = All-contains (IsKept rows) k.arcs (i, j) (fits.in_order prec) at

  job_of_arc : (i j : ℕ) → Contains k.arcs (i, j) → IsProblemJob k i × IsProblemJob k j
  job_of_arc i j at =
      All-contains (λ arc. IsProblemJob k arc.0 × IsProblemJob k arc.1) k.arcs (i, j) sound.arcs_in at

  -- ---- release dates

  -- so it is if the jobs in earlier rows keep theirs
  up_to : IsTrue k.problem.prec → (r : List ℕ) → AreReleases k r → (n j : ℕ) → IsProblemJob k j
      → (t a : ℕ) → t ≤ n → cell rows t a ≡ j
      → ((i : ℕ) → IsProblemJob k i → (s b : ℕ) → s < t → cell rows s b ≡ i → release_in r i ≤ s)
      → release_in r j ≤ t
  up_to prec r are n j h t a le e before =
      ⊎_elim
      (λ own. omega (arith, own, problem_release-le-row k rows fits j h t a e))
      (λ by_arc.
      let i : ℕ = by_arc.0 in
      let g : IsProblemJob k i = (job_of_arc i j by_arc.1).0 in
      let room : problem_work k i ≤ t - release_in r i =
      work-le-rows i g (release_in r i) t
      (λ s b c. let lt : s < t = kept prec i j by_arc.1 s t b a c e in
      (before i g s b lt c, lt)) in
      omega (arith, by_arc.2, room, some_work (needed-by_arcs k prec) i g))
      (are j h)

  -- no row before it has the job
  release-le-row : IsTrue k.problem.prec → (r : List ℕ) → AreReleases k r → (n j : ℕ)
      → IsProblemJob k j → (t a : ℕ) → t ≤ n → cell rows t a ≡ j → release_in r j ≤ t
  release-le-row prec r are zero j h t a le e = up_to prec r are zero j h t a le e
      (λ i g s b lt c. absurd (omega (arith, lt, le)))
  release-le-row prec r are (suc n) j h t a le e = up_to prec r are (suc n) j h t a le e
      (λ i g s b lt c. release-le-row prec r are n i g s b (omega (arith, lt, le)) c)

  -- ---- due dates

  -- a job that comes behind by an arc completes later, by its work
  pub behind-arc : IsTrue k.problem.prec → (i j : ℕ) → Contains k.arcs (i, j)
      → completion rows i + problem_work k j ≤ completion rows j
  behind-arc prec i j at =
      let g : IsProblemJob k i = (job_of_arc i j at).0 in
      let h : IsProblemJob k j = (job_of_arc i j at).1 in
      omega (
        arith,
        some_work (needed-by_arcs k prec) j h,
        work-le-rows j h (completion rows i) (completion rows j)
            (λ t b e. (
              by_last (completion rows i) refl t b e,
              completion-le-row j h.0 rows t b e,
            )),
      )
    where
      by_last : (c : ℕ) → completion rows i ≡ c → (t b : ℕ) → cell rows t b ≡ j
          → completion rows i ≤ t
      by_last zero is t b e = omega (arith, is)
      by_last (suc c) is t b e =
          let last = cell_at_completion i rows c is in
          omega (arith, is, kept prec i j at c t last.0 b last.1 e)

  -- so it is if the jobs that complete later keep theirs
  down_from : IsTrue k.problem.prec → IsTrue (is_max_goal k.problem.goal) → (d : List ℤ)
      → AreDues k d → (i : ℕ) → IsProblemJob k i
      → ((j : ℕ) → IsProblemJob k j → completion rows i < completion rows j
      → (pos (completion rows j) -ℤ due_in d j) ≤ℤ problem_cost k rows)
      → (pos (completion rows i) -ℤ due_in d i) ≤ℤ problem_cost k rows
  down_from prec max d are i h behind =
      ⊎_elim
      (λ own.
      later (pos (completion rows i)) (problem_due k i) (due_in d i) (problem_cost k rows) own
      (late-le-cost k rows max i h (completion rows i) (omega arith)))
      (λ by_arc.
      let j : ℕ = by_arc.0 in
      let g : IsProblemJob k j = (job_of_arc i j by_arc.1).1 in
      let after : completion rows i + problem_work k j ≤ completion rows j =
      behind-arc prec i j by_arc.1 in
      by_work (completion rows i) (problem_work k j) (completion rows j) (due_in d i) (due_in d j)
      (problem_cost k rows) after by_arc.2
      (behind j g (omega (arith, after, some_work (needed-by_arcs k prec) j g))))
      (are i h)
    where
      later : (c d e o : ℤ) → d ≤ℤ e → (c -ℤ d) ≤ℤ o → (c -ℤ e) ≤ℤ o
      later c d e o p q = omega (arith, ints)

      by_work : (c w e : ℕ) (d f o : ℤ) → c + w ≤ e → (f -ℤ pos w) ≤ℤ d → (pos e -ℤ f) ≤ℤ o
          → (pos c -ℤ d) ≤ℤ o
      by_work c w e d f o p q r = omega (arith, ints)

  -- a job's lateness by such a due date is within the cost
  pub due-le-cost : IsTrue k.problem.prec → IsTrue (is_max_goal k.problem.goal) → (d : List ℤ)
      → AreDues k d → (n i : ℕ) → IsProblemJob k i → length rows ≤ completion rows i + n
      → (pos (completion rows i) -ℤ due_in d i) ≤ℤ problem_cost k rows
  due-le-cost prec max d are zero i h le = down_from prec max d are i h
      (λ j g lt. absurd (omega (arith, lt, le, completion-le-length j rows)))
  due-le-cost prec max d are (suc n) i h le = down_from prec max d are i h
      (λ j g lt. due-le-cost prec max d are n j g (omega (arith, lt, le)))

-- ---- the task with these dates

module _ (k : ProblemData) (r : List ℕ) (d : List ℤ) where
  pub size : length (pushed k r d).jobs ≡ length k.jobs
  size = length-map-range_with_len (pushed_job k r d) 1 (length k.jobs)

  pub its_job : (j : ℕ) → IsProblemJob k j → problem_job (pushed k r d) j ≡ pushed_job k r d j
  its_job j h =
      get_or-map-range_with_len (pushed_job k r d) 1 (length k.jobs) (j - 1) j no_problem_job
      (omega (arith, h.0, h.1)) (omega (arith, h.0))

  job : (j : ℕ) → IsProblemJob (pushed k r d) j → IsProblemJob k j
  job j h = (h.0, omega (arith, h.1, size))

  -- its times and its route are those of the job
  times : (j : ℕ) → IsProblemJob k j → (problem_job (pushed k r d) j).times ≡ (problem_job k j).times
  times j h = ap (λ x. x.times) (its_job j h)

  route : (j : ℕ) → IsProblemJob k j → (e : Env) → route_by e (pushed k r d) j ≡ route_by e k j
  route j h Flow = refl
  route j h JobShop = ap (λ x. x.route) (its_job j h)
  route j h _ = refl

  pub pushed-sound : IsTrue k.problem.prec → IsProblemSound k → IsProblemSound (pushed k r d)
  pushed-sound prec sound = record {
    covered = subst (λ (b : Bool). (is_covered_env k.problem.env && b
        && not (k.problem.block || k.problem.rcrc)) ≡ true) (same_goal k.problem.goal) sound.covered;
    some_job = omega (arith, sound.some_job, size);
    some_machine = sound.some_machine;
    single = sound.single;
    one_time = λ plain j h. let g : IsProblemJob k j = job j h in
        let own = sound.one_time plain j g in (
          ap length (times j g) ∙ own.0,
          omega (arith, own.1, ap (λ xs. slice_index xs 0) (times j g)),
        );
    shop_times = λ shop j h. let g : IsProblemJob k j = job j h in
        let own = sound.shop_times shop j g in (
          ap length (times j g) ∙ own.0,
          λ _. omega (
            arith,
            own.1 (needed-by_arcs k prec),
            ap (λ xs. sum_by (slice_index xs) (range_with_len 0 k.machines)) (times j g),
          ),
        );
    routes = λ shop j h. let g : IsProblemJob k j = job j h in
        routed j g (sound.routes shop j g);
    arcs_in = λ i e in'. let own = sound.arcs_in i e in' in (
      (own.0.0, omega (arith, own.0.1, size)),
      (own.1.0, omega (arith, own.1.1, size)),
    );
  }
    where
      same_goal : (g : Goal) → is_covered_goal g ≡ is_covered_goal (dated_goal g)
      same_goal goals.Cmax = refl
      same_goal goals.Lmax = refl
      same_goal goals.Hmax = refl
      same_goal goals.SumC = refl
      same_goal goals.SumWC = refl
      same_goal goals.SumT = refl
      same_goal goals.SumWT = refl
      same_goal goals.SumU = refl
      same_goal goals.SumWU = refl

      routed : (j : ℕ) → IsProblemJob k j → IsRoute k j (problem_job k j).route
          → IsRoute (pushed k r d) j (problem_job (pushed k r d) j).route
      routed j g is =
          subst (IsRoute (pushed k r d) j) (sym (ap (λ x. x.route) (its_job j g)))
          (record {
            of_machines = is.of_machines;
            no_twice = is.no_twice;
            has_all = λ a lt some. is.has_all a lt
                (omega (arith, some, ap (λ xs. slice_index xs a) (times j g)));
          })

  pub pushed-fits : IsProblemSound k → IsTrue k.problem.prec → AreReleases k r → (rows : Timetable)
      → FitsProblem k rows → FitsProblem (pushed k r d) rows
  pushed-fits sound prec are rows fits = record {
    width = fits.width;
    jobs_only = subst (λ n. All (λ row. All (λ j. j ≤ n) row) rows) (sym size) fits.jobs_only;
    single_place = λ j low high. fits.single_place j low (job j (low, high)).1;
    amount = λ j low high. let g : IsProblemJob k j = job j (low, high) in
        record {
          in_all = λ plain. (fits.amount j g.0 g.1).in_all plain
              ∙ sym (ap (λ xs. slice_index xs 0) (times j g));
          on_each = λ shop i lt. (fits.amount j g.0 g.1).on_each shop i lt
              ∙ sym (ap (λ xs. slice_index xs i) (times j g));
        };
    unbroken = λ whole j low high. let g : IsProblemJob k j = job j (low, high) in
        let its = fits.unbroken whole j g.0 g.1 in
        record { no_gap = its.no_gap; one_machine = its.one_machine };
    released = λ _ j low high t i e. let g : IsProblemJob k j = job j (low, high) in
        omega (
          arith,
          ap (λ x. x.release) (its_job j g),
          release-le-row k sound rows fits prec r are t j g t i (omega arith) e,
        );
    in_order = fits.in_order;
    on_route = λ j low high. let g : IsProblemJob k j = job j (low, high) in
        subst (AllPairs (VisitsFirst rows j)) (sym (route j g k.problem.env))
        (fits.on_route j g.0 g.1);
    one_order = λ is. let own = fits.one_order is in (
      own.0,
      subst (λ n. IsPermutation (range_with_len 1 n) own.0) (sym size) own.1,
      own.2,
    );
    without_wait = λ is j low high. let g : IsProblemJob k j = job j (low, high) in
        fits.without_wait is j g.0 g.1;
  }
