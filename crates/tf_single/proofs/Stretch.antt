-- The jobs of the last stretch before the latest job reach its lateness.
use Rattle.std.proofs.Common.{◌≡◌, ℕ, zero, suc, ◌+◌, ◌-◌, ◌≤◌, ◌<◌, ⊎_elim, List, [], ◌∷◌, Bool, true, false, ◌&&◌, ◌==◌, cond, nat_le, length, get_or, take, drop, refl, sym, ap, ◌∙◌, subst, arith, sum_by, count_by, filter, All, Contains, ℤ, ◌≤ℤ◌, IsTrue, length-take, length-drop}
use Rattle.std.proofs.lemmas.Int.{ints}
use Rattle.std.proofs.lemmas.Bool.{cases_lt, false≢true, and_parts, and_from, leb-true, le-leb, eq-eqb}
use Rattle.std.proofs.lemmas.List.{get_or-take, get_or-drop, get_or_past}
use Rattle.std.proofs.lemmas.List.Sums.{sum_by-cons, sum_by-take-drop, get_or-le-sum_by}
use Rattle.std.proofs.lemmas.List.Elements.{All-contains, All-filter, All-weaker, filter_passes, All-from_get_or, Contains-get_or, All-head, All-tail}
use Rattle.tf_model.specs.Timetable.{Row, Timetable, cell, cells_of, completion}
use Rattle.tf_model.specs.ClassTable.{is_single}
use Rattle.tf_model.specs.SchedulingTask.{SchedulingTask, all_jobs, IsJob, job_data, time_of}
use Rattle.tf_model.specs.Feasible.{FitsBroken}
use Rattle.tf_model.specs.Sound.{IsSound}
use Rattle.tf_model.specs.Cost.{Lateness, price_by}
use Rattle.tf_model.proofs.Sums.{sum_by_le_all, sum_by-swap}
use Rattle.tf_model.proofs.Units.{cell-le-cells_of, completion-le-row, completion-le-length}
use Rattle.tf_model.proofs.Work.{IsDistinct}
use Rattle.tf_model.proofs.Loads.{IsDistinct-all_jobs}
use Rattle.tf_model.proofs.Costs.{All-all_jobs}
use Rattle.tf_model.proofs.Classes.{single_is_no_shop}
use Rattle.tf_model.proofs.LastOf.{last_cell}
use Rattle.tf_model.proofs.SplitBound.{Contains-all_jobs}
use Rattle.tf_model.proofs.Window.{window-le-last}
use Rattle.tf_single.specs.EarliestDue.{IsWaiting, RunsDueBy, RunsEarliestDue, IsStretch, jobs_within}

-- ---- lists

-- what passes the test stays
pub Contains-filter : {X : Type 0} (p : X → Bool) (xs : List X) (x : X) → Contains xs x → p x ≡ true
    → Contains (filter p xs) x
Contains-filter p [] x at e = absurd (omega (arith, at.1))
Contains-filter p (y ∷ ys) x at e = by_place (λ c. Contains-filter p ys x c e) at.0 at.1 at.2
  where
    later : (b : Bool) → Contains (filter p ys) x
        → Contains (cond b (y ∷ filter p ys) (filter p ys)) x
    later true c = (suc c.0, omega (arith, c.1), c.2)
    later false c = c

    here : (b : Bool) → b ≡ true → y ≡ x → Contains (cond b (y ∷ filter p ys) (filter p ys)) x
    here true _ same = (0, omega arith, same)
    here false f same = absurd (false≢true f)

    by_place : (Contains ys x → Contains (filter p ys) x) → (i : ℕ) → i < suc (length ys)
        → get_or (y ∷ ys) i x ≡ x → Contains (cond (p y) (y ∷ filter p ys) (filter p ys)) x
    by_place rest zero h same = here (p y) (ap p same ∙ e) same
    by_place rest (suc i) h same = later (p y) (rest (i, omega arith, same))

count-filter-le : (f p : ℕ → Bool) (xs : List ℕ) → count_by f (filter p xs) ≤ count_by f xs
count-filter-le f p [] = omega arith
count-filter-le f p (x ∷ xs) = by_test (count-filter-le f p xs) (p x)
  where
    by_test : count_by f (filter p xs) ≤ count_by f xs → (b : Bool)
        → count_by f (cond b (x ∷ filter p xs) (filter p xs)) ≤ count_by f (x ∷ xs)
    by_test rest true =
        omega (
          arith,
          sum_by-cons (λ y. cond (f y) 1 0) x (filter p xs),
          sum_by-cons (λ y. cond (f y) 1 0) x xs,
        )
    by_test rest false = omega (arith, sum_by-cons (λ y. cond (f y) 1 0) x xs)

pub IsDistinct-filter : (p : ℕ → Bool) (xs : List ℕ) → IsDistinct xs → IsDistinct (filter p xs)
IsDistinct-filter p xs d c = omega (arith, d c, count-filter-le (λ j. c == j) p xs)

-- rows with some of what f counts are no more than that
length-le-sum_by : {X : Type 0} (f : X → ℕ) (xs : List X) → All (λ x. 1 ≤ f x) xs
    → length xs ≤ sum_by f xs
length-le-sum_by f [] all = omega arith
length-le-sum_by f (x ∷ xs) all =
    omega (
      arith,
      sum_by-cons f x xs,
      All-head (λ y. 1 ≤ f y) x xs all,
      length-le-sum_by f xs (All-tail (λ y. 1 ≤ f y) x xs all),
    )

term-le-sum_by : (f : ℕ → ℕ) (xs : List ℕ) (x : ℕ) → Contains xs x → f x ≤ sum_by f xs
term-le-sum_by f xs x at = omega (arith, ap f at.2, get_or-le-sum_by f xs at.0 x at.1)

abbrev as_one : Bool → ℕ
as_one b = cond b 1 0

-- ---- the stretch

module _ (k : SchedulingTask) (rows : Timetable) (sound : IsSound k) (fits : FitsBroken k rows)
    (single : IsTrue (is_single k.class)) where
  row-le-one : (t : ℕ) → length (get_or rows t []) ≤ 1
  row-le-one t = ⊎_elim
      (λ lt. omega (arith, fits.width t [] lt, sound.single single))
      (λ le. omega (arith, ap (λ (row : Row). length row) (get_or_past rows t [] le)))
      (cases_lt t (length rows))

  -- a job in some cell is in the cell of the one machine
  pub on_the_machine : (j t i : ℕ) → 1 ≤ j → cell rows t i ≡ j → cell rows t 0 ≡ j
  on_the_machine j t zero some e = e
  on_the_machine j t (suc i) some e =
      let none : cell rows t (suc i) ≡ 0 =
      get_or_past (get_or rows t []) (suc i) 0 (omega (arith, row-le-one t)) in
      absurd (omega arith)

  pub job_in_cell : (t : ℕ) → 1 ≤ cell rows t 0 → IsJob k (cell rows t 0)
  job_in_cell t some =
      let before : t < length rows =
      omega (
        arith,
        completion-le-row (cell rows t 0) some rows t 0 refl,
        completion-le-length (cell rows t 0) rows,
      ) in
      let wide : length (get_or rows t []) ≡ k.machines = fits.width t [] before in
      (some, fits.jobs_only t [] before 0 0 (omega (arith, wide, sound.some_machine)))

  -- the last row of a job, on the one machine
  pub last_row : (j : ℕ) → IsJob k j → (c : ℕ) × (completion rows j ≡ suc c) × (cell rows c 0 ≡ j)
  last_row j job =
      let end = last_cell k rows sound fits (single_is_no_shop k.class single) j job in
      (end.0, end.1, on_the_machine j end.0 (end.2).0 job.0 (end.2).1)

  due_in_cell : (j t : ℕ) (due : ℤ) → cell rows t 0 ≡ j → RunsDueBy k rows due t
      → (job_data k j).due ≤ℤ due
  due_in_cell j t due e runs = subst (λ i. (job_data k i).due ≤ℤ due) e runs.urgent

module _ (k : SchedulingTask) (rows : Timetable) (sound : IsSound k) (fits : FitsBroken k rows)
    (single : IsTrue (is_single k.class)) (earliest : RunsEarliestDue k rows)
    (l : ℕ) (job : IsJob k l)
    (greatest : (j : ℕ) → IsJob k j
    → price_by Lateness k j (completion rows j) ≤ℤ price_by Lateness k l (completion rows l))
    (s : ℕ) (stretch : IsStretch k rows (job_data k l).due s (completion rows l)) where
  -- a job that runs in the stretch is released there
  released_within : (j t : ℕ) → IsJob k j → s ≤ t → t < completion rows l → cell rows t 0 ≡ j
      → s ≤ (job_data k j).release
  released_within j t j_job from until e = ⊎_elim
      (λ early.
      let waiting : IsWaiting k rows j (s - 1) =
      record {
        job = j_job;
        released = omega arith;
        unfinished = omega (arith, completion-le-row j j_job.0 rows t 0 e);
      } in
      let busy : 1 ≤ cell rows (s - 1) 0 = earliest.busy j (s - 1) waiting in
      let soon : (job_data k (cell rows (s - 1) 0)).due ≤ℤ (job_data k j).due =
      earliest.urgent j (s - 1) waiting busy in
      let its : (job_data k j).due ≤ℤ (job_data k l).due =
      due_in_cell k rows sound fits single j t (job_data k l).due e
      (stretch.along t from until) in
      absurd (stretch.before (omega arith)
      (record { busy = busy; urgent = omega (arith, ints) })))
      (λ le. le)
      (cases_lt (job_data k j).release s)

  -- and completes there
  over_within : (j t : ℕ) → IsJob k j → s ≤ t → t < completion rows l → cell rows t 0 ≡ j
      → completion rows j ≤ completion rows l
  over_within j t j_job from until e =
      let its : (job_data k j).due ≤ℤ (job_data k l).due =
      due_in_cell k rows sound fits single j t (job_data k l).due e
      (stretch.along t from until) in
      omega (arith, ints, greatest j j_job)

  pub runs_within : (t : ℕ) → s ≤ t → t < completion rows l
      → Contains (jobs_within k rows s (completion rows l)) (cell rows t 0)
  runs_within t from until =
      let c : ℕ = cell rows t 0 in
      let its : IsJob k c =
      job_in_cell k rows sound fits single t (stretch.along t from until).busy in
      Contains-filter
      (λ j. nat_le s (job_data k j).release && nat_le (completion rows j) (completion rows l))
      (all_jobs k) c (Contains-all_jobs k c its)
      (and_from _ _ (le-leb s (job_data k c).release (released_within c t its from until refl))
      (le-leb (completion rows c) (completion rows l) (over_within c t its from until refl)))

  pub window_jobs : All (IsJob k) (jobs_within k rows s (completion rows l))
  window_jobs =
      All-filter
      (λ j. nat_le s (job_data k j).release && nat_le (completion rows j) (completion rows l))
      (IsJob k) (all_jobs k) (All-all_jobs k (IsJob k) (λ j h. h))

  pub window_distinct : IsDistinct (jobs_within k rows s (completion rows l))
  window_distinct =
      IsDistinct-filter
      (λ j. nat_le s (job_data k j).release && nat_le (completion rows j) (completion rows l))
      (all_jobs k) (IsDistinct-all_jobs k)

  pub window_says : (j : ℕ) → Contains (jobs_within k rows s (completion rows l)) j
      → (s ≤ (job_data k j).release) × (completion rows j ≤ completion rows l)
  window_says j at =
      let p : ℕ → Bool =
      λ i. nat_le s (job_data k i).release && nat_le (completion rows i) (completion rows l) in
      let e : p j ≡ true =
      All-contains (λ i. p i ≡ true) (filter p (all_jobs k)) j (filter_passes p (all_jobs k))
      at in
      let both = and_parts (nat_le s (job_data k j).release)
      (nat_le (completion rows j) (completion rows l)) e in (
        leb-true s (job_data k j).release both.0,
        leb-true (completion rows j) (completion rows l) both.1,
      )

  pub window_due : (j : ℕ) → Contains (jobs_within k rows s (completion rows l)) j
      → (job_data k j).due ≤ℤ (job_data k l).due
  window_due j at =
      let its : IsJob k j =
      All-contains (IsJob k) (jobs_within k rows s (completion rows l)) j window_jobs at in
      let says = window_says j at in
      let end = last_row k rows sound fits single j its in
      let after : (job_data k j).release ≤ end.0 = fits.released j its.0 its.1 end.0 0 end.2 in
      due_in_cell k rows sound fits single j end.0 (job_data k l).due end.2
      (stretch.along end.0 (omega (arith, says.0)) (omega (arith, says.1, end.1)))

  pub latest_within : Contains (jobs_within k rows s (completion rows l)) l
  latest_within =
      let end = last_row k rows sound fits single l job in
      let c : ℕ = end.0 in
      let runs : RunsDueBy k rows (job_data k l).due c =
      record {
        busy = omega (arith, job.0, end.2);
        urgent =
            subst (λ i. (job_data k i).due ≤ℤ (job_data k l).due) (sym end.2) (omega (arith, ints));
      } in
      let from : s ≤ c =
      ⊎_elim
      (λ lt.
      let last : c ≡ s - 1 = omega (arith, stretch.order, end.1, lt) in
      absurd (stretch.before (omega (arith, lt))
      (subst (RunsDueBy k rows (job_data k l).due) last runs)))
      (λ le. le) (cases_lt c s) in
      subst (Contains (jobs_within k rows s (completion rows l))) end.2
      (runs_within c from (omega (arith, end.1)))

  -- all along the stretch its jobs are worked on
  pub stretch-le-work : completion rows l ≤ s
      + sum_by (time_of k) (jobs_within k rows s (completion rows l))
  stretch-le-work =
      let c : ℕ = completion rows l in
      let jobs : List ℕ = jobs_within k rows s c in
      let part : Timetable = drop s (take c rows) in
      let full : All (λ row. 1 ≤ sum_by (λ j. cells_of j row) jobs) part =
      All-from_get_or (λ row. 1 ≤ sum_by (λ j. cells_of j row) jobs) part [] (λ i h.
      let until : s + i < c = omega (arith, length-drop s (take c rows), length-take c rows) in
      let same : get_or part i [] ≡ get_or rows (s + i) [] = get_or-drop s (take c rows) i []
      ∙ get_or-take c rows (s + i) [] until in
      let x : ℕ = cell rows (s + i) 0 in
      let runs : RunsDueBy k rows (job_data k l).due (s + i) =
      stretch.along (s + i) (omega arith) until in
      let here : 1 ≤ cells_of x (get_or rows (s + i) []) =
      omega (
        arith,
        cell-le-cells_of x runs.busy 0 (get_or rows (s + i) []),
        ap as_one (eq-eqb x x refl),
      ) in
      subst (λ row. 1 ≤ sum_by (λ j. cells_of j row) jobs) (sym same)
      (omega (
        arith,
        here,
        term-le-sum_by (λ j. cells_of j (get_or rows (s + i) [])) jobs x
            (runs_within (s + i) (omega arith) until),
      ))) in
      let counted : length part ≤ sum_by (λ row. sum_by (λ j. cells_of j row) jobs) part =
      length-le-sum_by (λ row. sum_by (λ j. cells_of j row) jobs) part full in
      let within : All (λ j. sum_by (cells_of j) part ≤ time_of k j) jobs =
      All-weaker (IsJob k) (λ j. sum_by (cells_of j) part ≤ time_of k j)
      (λ j its. omega (
        arith,
        (fits.amount j its.0 its.1).in_all (single_is_no_shop k.class single),
        sum_by-take-drop (cells_of j) (take c rows) s,
        sum_by-take-drop (cells_of j) rows c,
      )) jobs
      window_jobs in
      omega (
        arith,
        counted,
        sum_by-swap cells_of jobs part,
        sum_by_le_all (λ j. sum_by (cells_of j) part) (time_of k) jobs within,
        length-drop s (take c rows),
        length-take c rows,
        completion-le-length l rows,
      )

  -- r is at least s and at most each of their release dates
  pub window-is : (r : ℕ) → s ≤ r
      → All (λ j. r ≤ (job_data k j).release) (jobs_within k rows s (completion rows l))
      → r + sum_by (time_of k) (jobs_within k rows s (completion rows l)) ≡ completion rows l
  window-is r least late =
      let jobs : List ℕ = jobs_within k rows s (completion rows l) in
      let upto : r + sum_by (time_of k) jobs ≤ completion rows l =
      window-le-last k rows sound fits single jobs window_distinct window_jobs r late l
      latest_within
      (λ i d h. (window_says (get_or jobs i d) (Contains-get_or jobs i d h)).1) in
      omega (arith, upto, stretch-le-work)
