-- A flow shop of any number of machines: the bound by two of them.
use Rattle.std.proofs.Common.{◌≡◌, ℕ, zero, suc, ◌+◌, ◌-◌, ◌≤◌, ◌<◌, length, take, drop, sym, ap, ◌∙◌, subst, arith, All, ℤ, pos, ◌+ℤ◌, ◌≤ℤ◌, IsTrue, length-take, length-drop}
use Rattle.std.proofs.lemmas.Int.{ints}
use Rattle.std.proofs.lemmas.Bool.{or_right, true≢false}
use Rattle.std.proofs.lemmas.List.FromFn.{length-range_with_len}
use Rattle.std.proofs.lemmas.List.Elements.{All-nil, All-take, All-drop, All-contains}
use Rattle.tf_model.specs.declared.class.Class.TheVariants.{PrmpFlowTwo}
use Rattle.tf_model.specs.declared.problem.Goal.TheVariants as goals
use Rattle.tf_model.specs.Timetable.{Timetable, cell, units, completion}
use Rattle.tf_model.specs.SchedulingTask.{JobData, IsJob, job_data, time_on}
use Rattle.tf_model.specs.ClassTable.{is_single_env, is_shop_env, is_flow_env}
use Rattle.tf_model.specs.Feasible.{IsKept, FitsBroken}
use Rattle.tf_model.specs.Cost.{cost}
use Rattle.tf_model.proofs.Units.{completion-le-length}
use Rattle.tf_model.proofs.Loads.{latest}
use Rattle.tf_model.proofs.Costs.{greatest_price_reached}
use Rattle.tf_model.proofs.Split.{take_cell}
use Rattle.tf_check.specs.Bound.{least_number}
use Rattle.tf_posed.specs.ProblemData.{ProblemData, IsProblemSound, IsProblemJob, problem_jobs, problem_time_on}
use Rattle.tf_posed.specs.FitsProblem.{FitsProblem}
use Rattle.tf_posed.specs.ProblemCost.{problem_cost, problem_cost_by}
use Rattle.tf_problem.specs.Relaxed.{IsRelaxation, pair_task, only_time}
use Rattle.tf_problem.specs.ProblemBounds.{is_by_machine, head, tail, pair_margin}
use Rattle.tf_problem.proofs.ProblemLists.{units_before, units_from, drop_cell}
use Rattle.tf_posed.proofs.Conditions.{All-problem_jobs}
use Rattle.tf_problem.proofs.Relaxing.{at-le-greatest, length-task_by, job-task_by, problem-job}
use Rattle.tf_problem.proofs.Least.{Contains-problem_jobs, least_number-le-job}
use Rattle.tf_problem.proofs.Routes.{flow_shop, units-on}
use Rattle.tf_problem.proofs.FlowRoutes.{on-flow, head-before-row, tail-behind-row, heads-and-tails}
use Rattle.tf_problem.proofs.Lanes.{lanes, lanes_length, lanes_width, lanes_first, lanes_second, lanes_units_first, lanes_units_second, lanes_jobs, lanes_once}

-- ---- the end of a timetable

-- some time that no job completes after is within the makespan
pub end-of : (k : ProblemData) (rows : Timetable) → 1 ≤ length k.jobs → k.problem.goal ≡ goals.Cmax
    → (e : ℕ) × ((j : ℕ) → IsProblemJob k j → completion rows j ≤ e) × (pos e ≤ℤ problem_cost k rows)
end-of k rows some is =
    let last = latest rows (problem_jobs k)
    (omega (arith, some, length-range_with_len 1 (length k.jobs))) in
    let l : ℕ = last.0 in
    let job : IsProblemJob k l = All-contains (IsProblemJob k) (problem_jobs k) l
    (All-problem_jobs k (IsProblemJob k) (λ j h. h)) last.1 in (
      completion rows l,
      λ j h. All-contains (λ i. completion rows i ≤ completion rows l) (problem_jobs k) j last.2
          (Contains-problem_jobs k j h),
      subst (λ z. pos (completion rows l) ≤ℤ z) (sym (ap (λ g. problem_cost_by g k rows) is))
          (at-le-greatest k (λ j. pos (completion rows j)) l job),
    )

-- ---- two machines of a flow shop

module _ (k : ProblemData) (sound : IsProblemSound k) (flow : IsTrue (is_flow_env k.problem.env))
    (is : k.problem.goal ≡ goals.Cmax) where
  by : IsTrue (is_by_machine k.problem.env)
  by = or_right (is_single_env k.problem.env) (is_shop_env k.problem.env)
      (flow_shop k.problem.env flow)

  module _ (rows : Timetable) (fits : FitsProblem k rows) (e : ℕ)
      (ends : (j : ℕ) → IsProblemJob k j → completion rows j ≤ e) (a b : ℕ) (lt : a < b)
      (in' : b < k.machines) (r : ℕ) (early : (j : ℕ) → IsProblemJob k j → r ≤ head k a j) (q : ℕ)
      (late : (j : ℕ) → IsProblemJob k j → q ≤ tail k b j) where
    -- the rows from r on that have a tail behind them
    abbrev part : Timetable
    part = drop r (take (e - q) rows)

    -- machines a and b of them
    abbrev pair : Timetable
    pair = lanes a b part

    part_cell : (s i j : ℕ) → 1 ≤ j → cell part s i ≡ j → cell rows (r + s) i ≡ j
    part_cell s i j h c =
        take_cell (e - q) rows (r + s) i j h (sym (drop_cell (take (e - q) rows) r s i) ∙ c)

    part_units : (i j : ℕ) → a ≤ i → i ≤ b → IsProblemJob k j → units part j i ≡ problem_time_on k j i
    part_units i j low high h =
        omega (
          arith,
          units-on k sound rows fits by j h i (omega arith),
          units_before rows j i (e - q)
              (λ s c. omega (
                arith,
                late j h,
                ends j h,
                tail-behind-row k sound flow rows fits j h i b s high in' c,
              )),
          units_from (take (e - q) rows) j i r
              (λ s c. omega (
                arith,
                early j h,
                head-before-row k sound flow rows fits j h a i s low (omega arith)
                    (take_cell (e - q) rows s i j h.0 c),
              )),
        )

    pair-fits : FitsBroken (pair_task k a b) pair
    pair-fits =
        let f : ℕ → JobData = λ j. record (only_time (problem_time_on k j a)) {
          second = problem_time_on k j b;
        } in
        let job : (j : ℕ) → IsJob (pair_task k a b) j → IsProblemJob k j = problem-job k PrmpFlowTwo 2 f in
        let its_row : (j : ℕ) → IsProblemJob k j → job_data (pair_task k a b) j ≡ f j =
        job-task_by k PrmpFlowTwo 2 f in
        record {
          width = lanes_width a b part;
          jobs_only = subst (λ n. All (λ row. All (λ j. j ≤ n) row) pair)
              (sym (length-task_by k PrmpFlowTwo 2 f))
              (lanes_jobs a b (length k.jobs) part
              (All-drop (λ row. All (λ j. j ≤ length k.jobs) row) r (take (e - q) rows)
              (All-take (λ row. All (λ j. j ≤ length k.jobs) row) (e - q) rows fits.jobs_only)));
          single_place = λ j low high. let h : IsProblemJob k j = job j (low, high) in
              lanes_once a b j part
              (λ t c d. absurd
              (omega (
                arith,
                on-flow k sound flow rows fits j h a b (r + t) (r + t) lt in' (part_cell t a j h.0 c)
                    (part_cell t b j h.0 d),
              )));
          amount = λ j low high. let h : IsProblemJob k j = job j (low, high) in
              record {
                in_all = λ no. absurd (true≢false no);
                on_each = λ _ i two. on_each j h (its_row j h) i two;
              };
          released = λ j low high t i c. let h : IsProblemJob k j = job j (low, high) in
              omega (arith, ap (λ d. d.release) (its_row j h));
          in_order = All-nil (IsKept pair);
          in_flow = λ _ j low high s t c d. let h : IsProblemJob k j = job j (low, high) in
              omega (
                arith,
                on-flow k sound flow rows fits j h a b (r + s) (r + t) lt in'
                    (part_cell s a j h.0 (sym (lanes_first a b part s) ∙ c))
                    (part_cell t b j h.0 (sym (lanes_second a b part t) ∙ d)),
              );
        }
      where
        on_each : (j : ℕ) → IsProblemJob k j
            → job_data (pair_task k a b) j
            ≡ record (only_time (problem_time_on k j a)) { second = problem_time_on k j b }
            → (i : ℕ) → i < 2 → units pair j i ≡ time_on (pair_task k a b) j i
        on_each j h is zero two =
            lanes_units_first a b part j ∙ part_units a j (omega arith) (omega arith) h
            ∙ sym (ap (λ d. d.first) is)
        on_each j h is (suc zero) two =
            lanes_units_second a b part j ∙ part_units b j (omega arith) (omega arith) h
            ∙ sym (ap (λ d. d.second) is)
        on_each j h is (suc (suc i)) two = absurd (omega arith)

    pair-cost : (cost (pair_task k a b) pair +ℤ pos (r + q)) ≤ℤ pos e
    pair-cost =
        let f : ℕ → JobData = λ j. record (only_time (problem_time_on k j a)) {
          second = problem_time_on k j b;
        } in
        let last = greatest_price_reached (pair_task k a b) pair
        (omega (arith, sound.some_job, length-task_by k PrmpFlowTwo 2 f)) in
        let one : IsProblemJob k 1 = (omega arith, sound.some_job) in
        let room : r + q ≤ e =
        omega (
          arith,
          early 1 one,
          late 1 one,
          ends 1 one,
          heads-and-tails k sound flow rows fits 1 one a b (omega arith) in',
        ) in
        let short : completion pair last.0 + (r + q) ≤ e =
        omega (
          arith,
          room,
          completion-le-length last.0 pair,
          lanes_length a b part,
          length-drop r (take (e - q) rows),
          length-take (e - q) rows,
        ) in
        within (cost (pair_task k a b) pair) (completion pair last.0) (r + q) last.2 short
      where
        within : (c : ℤ) (d m : ℕ) → c ≡ pos d → d + m ≤ e → (c +ℤ pos m) ≤ℤ pos e
        within c d m is le = omega (arith, ints)

  -- `Fm|..|Cmax` asks at least what `F2|prmp|Cmax` does of two of its machines, and besides the least
  -- head and the least tail
  pub pair_task-relaxes : (a b : ℕ) → a < b → b < k.machines
      → IsRelaxation k (pair_task k a b) (pos (pair_margin k a b))
  pair_task-relaxes a b lt in' rows fits =
      let e = end-of k rows sound.some_job is in
      let r : ℕ = least_number (head k a) (problem_jobs k) in
      let q : ℕ = least_number (tail k b) (problem_jobs k) in
      let early : (j : ℕ) → IsProblemJob k j → r ≤ head k a j = least_number-le-job k (head k a) in
      let late : (j : ℕ) → IsProblemJob k j → q ≤ tail k b j = least_number-le-job k (tail k b) in (
        pair rows fits e.0 e.1 a b lt in' r early q late,
        record {
          broken = pair-fits rows fits e.0 e.1 a b lt in' r early q late;
          unbroken = λ no. absurd (true≢false no);
        },
        chain (cost (pair_task k a b) (pair rows fits e.0 e.1 a b lt in' r early q late)) (r + q) e.0
            (problem_cost k rows) (pair-cost rows fits e.0 e.1 a b lt in' r early q late) e.2,
      )
    where
      chain : (c : ℤ) (m e : ℕ) (o : ℤ) → (c +ℤ pos m) ≤ℤ pos e → pos e ≤ℤ o → (c +ℤ pos m) ≤ℤ o
      chain c m e o p s = omega (arith, ints)
