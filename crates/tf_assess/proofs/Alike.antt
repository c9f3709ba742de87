-- Two tasks that differ in the objective, the weights and the due dates alone: the same timetables
-- fit them, the same pieces break the same condition first, and by an objective that looks at no
-- weight or due date in which they differ they cost the same.
use Rattle.std.proofs.Common.{◌≡◌, Bool, true, false, cond, ℕ, zero, suc, ◌-◌, ◌*◌, ◌≤◌, ℤ, pos, ◌-ℤ◌, List, [], ◌∷◌, length, map, take, slice_index, slice_index_or, sum_by, refl, sym, ap, subst, ◌∙◌, IsTrue}
use Rattle.std.specs.Prelude.{int_lt, if◌then◌else◌}
use Rattle.std.specs.List.{All, AllPairs, range_with_len}
use Rattle.std.specs.List.Sorted.{IsPermutation}
use Rattle.std.proofs.lemmas.List.{length-map}
use Rattle.std.proofs.lemmas.List.Elements.{All-weaker}
use Rattle.tf_model.specs.Cost.{greatest}
use Rattle.tf_model.specs.Feasible.{EachJob, IsOnce}
use Rattle.tf_model.specs.Timetable.{Timetable, completion}
use Rattle.tf_model.specs.Whole.{as_time}
use Rattle.tf_model.specs.declared.problem.Problem.{Problem}
use Rattle.tf_model.specs.declared.problem.Env.{Env}
use Rattle.tf_model.specs.declared.problem.Env.TheVariants.{Single, Parallel, Uniform, Unrelated, Flow, OpenShop, JobShop}
use Rattle.tf_model.specs.declared.problem.Goal.{Goal}
use Rattle.tf_model.specs.declared.problem.Goal.TheVariants as goals
use Rattle.tf_model.proofs.Sums.{sum_by-same}
use Rattle.tf_posed.specs.ProblemData.{ProblemData, ProblemJobData, no_problem_job, route_by}
use Rattle.tf_posed.specs.FitsProblem.{FitsProblem, HasProblemTime, IsProblemUnbroken, IsProblemReleased, IsOnRoute, VisitsFirst, IsInOneOrder, IsWithoutWait}
use Rattle.tf_posed.specs.ProblemCost.{lateness, tardiness, unit_penalty, problem_cost_by}
use Rattle.tf_prepare.specs.Preparing.{uses_weight, uses_due}
use Rattle.tf_schedule.specs.declared.piece.Piece.{Piece}
use Rattle.tf_schedule.specs.declared.fit.Misfit.{Misfit}
use Rattle.tf_schedule.specs.declared.fit.Misfit.TheVariants.{Stranger, JobTwice, WrongAmount, Broken, TooEarly, OutOfOrder, OutOfMemory}
use Rattle.tf_schedule.specs.Drawing.{drawing}
use Rattle.tf_schedule.specs.Misfit.{IsFirstNot, IsSmallestNot}
use Rattle.tf_schedule.specs.declared.misfit.ProblemMisfit.{ProblemMisfit}
use Rattle.tf_schedule.specs.declared.misfit.ProblemMisfit.TheVariants.{Plain, OffRoute, NoOneOrder, Waits}
use Rattle.tf_schedule.specs.ProblemMisfit.{IsKnownTo, AllOnce, AllFull, AllUnbroken, AllReleased, AllKept, AllOnRoute, AllInOneOrder, HasFirstPlain, HasFirstMisfit}
use Rattle.tf_assess.specs.Measures.{by_goal}
use Rattle.tf_assess.proofs.Serving.{job_for, task_for}

abbrev pub at : List ProblemJobData → ℕ → ProblemJobData
at xs i = slice_index_or xs i no_problem_job

pub record AreAlike (xs ys : List ProblemJobData) : Type 0 where
  pub count : length xs ≡ length ys
  pub times : (i : ℕ) → (at xs i).times ≡ (at ys i).times
  pub route : (i : ℕ) → (at xs i).route ≡ (at ys i).route
  pub release : (i : ℕ) → (at xs i).release ≡ (at ys i).release

turned : (xs ys : List ProblemJobData) → AreAlike xs ys → AreAlike ys xs
turned xs ys alike = record {
  count = sym alike.count;
  times = λ i. sym (alike.times i);
  route = λ i. sym (alike.route i);
  release = λ i. sym (alike.release i);
}

-- the task with this objective and these jobs
abbrev pub task_on : Problem → ℕ → List (ℕ × ℕ) → Goal → List ProblemJobData → ProblemData
task_on p machines arcs goal xs =
    record { problem = by_goal p goal; machines = machines; jobs = xs; arcs = arcs }

module _ (p : Problem) (machines : ℕ) (arcs : List (ℕ × ℕ)) (g h : Goal)
    (xs ys : List ProblemJobData) (alike : AreAlike xs ys) where
  abbrev k : ProblemData
  k = task_on p machines arcs g xs

  abbrev l : ProblemData
  l = task_on p machines arcs h ys

  known_to : (piece : Piece) → IsKnownTo k piece → IsKnownTo l piece
  known_to piece ((low, high), on) = ((low, subst (λ n. piece.job ≤ n) alike.count high), on)

  each_to : (P Q : ℕ → Type 0) → ((j : ℕ) → P j → Q j) → EachJob (length xs) P
      → EachJob (length ys) Q
  each_to P Q to each j low high =
      to j (each j low (subst (λ (n : ℕ). j ≤ n) (sym alike.count) high))

  module _ (rows : Timetable) where
    time_to : (j : ℕ) → HasProblemTime k rows j → HasProblemTime l rows j
    time_to j had = record {
      in_all = λ plain. had.in_all plain ∙ ap (λ times. slice_index times 0) (alike.times (j - 1));
      on_each = λ shop i lt. had.on_each shop i lt
          ∙ ap (λ times. slice_index times i) (alike.times (j - 1));
    }

    unbroken_to : (j : ℕ) → IsProblemUnbroken k rows j → IsProblemUnbroken l rows j
    unbroken_to j had = record { no_gap = had.no_gap; one_machine = had.one_machine }

    released_to : (j : ℕ) → IsProblemReleased k rows j → IsProblemReleased l rows j
    released_to j had t i e = subst (λ (r : ℕ). r ≤ t) (alike.release (j - 1)) (had t i e)

    on_route_to : (j : ℕ) → IsOnRoute k rows j → IsOnRoute l rows j
    on_route_to j = by p.env
      where
        by : (env : Env) → AllPairs (VisitsFirst rows j) (route_by env k j)
            → AllPairs (VisitsFirst rows j) (route_by env l j)
        by Flow had = had
        by JobShop had = subst (AllPairs (VisitsFirst rows j)) (alike.route (j - 1)) had
        by Single had = had
        by Parallel had = had
        by Uniform had = had
        by Unrelated had = had
        by OpenShop had = had

    one_order_to : IsInOneOrder k rows → IsInOneOrder l rows
    one_order_to (order, all, apart) = (
      order,
      subst (λ (n : ℕ). IsPermutation (range_with_len 1 n) order) alike.count all,
      apart,
    )

    once_to : AllOnce k rows → AllOnce l rows
    once_to = each_to (IsOnce rows) (IsOnce rows) (λ j had. had)

    full_to : AllFull k rows → AllFull l rows
    full_to (once, full) =
        (once_to once, each_to (HasProblemTime k rows) (HasProblemTime l rows) time_to full)

    all_unbroken_to : AllUnbroken k rows → AllUnbroken l rows
    all_unbroken_to (full, unbroken) = (
      full_to full,
      λ asked. each_to (IsProblemUnbroken k rows) (IsProblemUnbroken l rows) unbroken_to
          (unbroken asked),
    )

    all_released_to : AllReleased k rows → AllReleased l rows
    all_released_to (unbroken, released) = (
      all_unbroken_to unbroken,
      λ asked. each_to (IsProblemReleased k rows) (IsProblemReleased l rows) released_to
          (released asked),
    )

    kept_to : AllKept k rows → AllKept l rows
    kept_to (released, kept) = (all_released_to released, kept)

    all_on_route_to : AllOnRoute k rows → AllOnRoute l rows
    all_on_route_to (kept, on_route) =
        (kept_to kept, each_to (IsOnRoute k rows) (IsOnRoute l rows) on_route_to on_route)

    in_one_order_to : AllInOneOrder k rows → AllInOneOrder l rows
    in_one_order_to (on_route, ordered) =
        (all_on_route_to on_route, λ asked. one_order_to (ordered asked))

    pub fits_to : FitsProblem k rows → FitsProblem l rows
    fits_to fits = record {
      width = fits.width;
      jobs_only = subst (λ (n : ℕ). All (λ row. All (λ j. j ≤ n) row) rows) alike.count
          fits.jobs_only;
      single_place = once_to fits.single_place;
      amount = each_to (HasProblemTime k rows) (HasProblemTime l rows) time_to fits.amount;
      unbroken = λ asked. each_to (IsProblemUnbroken k rows) (IsProblemUnbroken l rows)
          unbroken_to (fits.unbroken asked);
      released = λ asked. each_to (IsProblemReleased k rows) (IsProblemReleased l rows)
          released_to (fits.released asked);
      in_order = fits.in_order;
      on_route = each_to (IsOnRoute k rows) (IsOnRoute l rows) on_route_to fits.on_route;
      one_order = λ asked. one_order_to (fits.one_order asked);
      without_wait = λ asked. each_to (IsWithoutWait rows) (IsWithoutWait rows)
          (λ j had. had) (fits.without_wait asked);
    }

-- what the pieces break first of the one task they break first of the other
module _ (p : Problem) (machines : ℕ) (arcs : List (ℕ × ℕ)) (g h : Goal)
    (xs ys : List ProblemJobData) (alike : AreAlike xs ys) where
  abbrev one : ProblemData
  one = task_on p machines arcs g xs

  abbrev other : ProblemData
  other = task_on p machines arcs h ys

  module _ (ps : List Piece) where
    abbrev drawn : Timetable
    drawn = drawing machines ps

    all_known : All (IsKnownTo one) ps → All (IsKnownTo other) ps
    all_known =
        All-weaker (IsKnownTo one) (IsKnownTo other) (known_to p machines arcs g h xs ys alike) ps

    smallest : (P Q : ℕ → Type 0) → ((j : ℕ) → P j → Q j) → ((j : ℕ) → Q j → P j) → (j : ℕ)
        → IsSmallestNot (length xs) P j → IsSmallestNot (length ys) Q j
    smallest P Q to from j first = record {
      job = (first.job.0, subst (λ (n : ℕ). j ≤ n) alike.count first.job.1);
      fails = λ had. first.fails (from j had);
      smaller = λ i low less. to i (first.smaller i low less);
    }

    stranger : (piece : Piece) → IsFirstNot (IsKnownTo one) ps piece
        → IsFirstNot (IsKnownTo other) ps piece
    stranger piece first = record {
      place = first.place;
      before = All-weaker (IsKnownTo one) (IsKnownTo other)
          (known_to p machines arcs g h xs ys alike) (take first.place ps) first.before;
      here = first.here;
      fails = λ had. first.fails
          (known_to p machines arcs h g ys xs (turned xs ys alike) piece had);
    }

    plain_misfit : (misfit : Misfit) → HasFirstPlain one ps misfit → HasFirstPlain other ps misfit
    plain_misfit (Stranger j i) (piece, job, machine, first) =
        (piece, job, machine, stranger piece first)
    plain_misfit (JobTwice j t) (known, at_zero, first) = (all_known known, at_zero, first)
    plain_misfit (WrongAmount j) (known, once, first) = (
      all_known known,
      once_to p machines arcs g h xs ys alike drawn once,
      smallest (HasProblemTime one drawn) (HasProblemTime other drawn)
          (time_to p machines arcs g h xs ys alike drawn)
          (time_to p machines arcs h g ys xs (turned xs ys alike) drawn) j first,
    )
    plain_misfit (Broken j) (known, full, asked, first) = (
      all_known known,
      full_to p machines arcs g h xs ys alike drawn full,
      asked,
      smallest (IsProblemUnbroken one drawn) (IsProblemUnbroken other drawn)
          (unbroken_to p machines arcs g h xs ys alike drawn)
          (unbroken_to p machines arcs h g ys xs (turned xs ys alike) drawn) j first,
    )
    plain_misfit (TooEarly j) (known, unbroken, asked, first) = (
      all_known known,
      all_unbroken_to p machines arcs g h xs ys alike drawn unbroken,
      asked,
      smallest (IsProblemReleased one drawn) (IsProblemReleased other drawn)
          (released_to p machines arcs g h xs ys alike drawn)
          (released_to p machines arcs h g ys xs (turned xs ys alike) drawn) j first,
    )
    plain_misfit (OutOfOrder a b) (known, released, asked, first) = (
      all_known known,
      all_released_to p machines arcs g h xs ys alike drawn released,
      asked,
      first,
    )
    plain_misfit OutOfMemory had = had

    pub misfit_to : (misfit : ProblemMisfit) → HasFirstMisfit one ps misfit
        → HasFirstMisfit other ps misfit
    misfit_to (Plain misfit) had = plain_misfit misfit had
    misfit_to (OffRoute j) (known, kept, first) = (
      all_known known,
      kept_to p machines arcs g h xs ys alike drawn kept,
      smallest (IsOnRoute one drawn) (IsOnRoute other drawn)
          (on_route_to p machines arcs g h xs ys alike drawn)
          (on_route_to p machines arcs h g ys xs (turned xs ys alike) drawn) j first,
    )
    misfit_to NoOneOrder (known, on_route, asked, none) = (
      all_known known,
      all_on_route_to p machines arcs g h xs ys alike drawn on_route,
      asked,
      λ had. none (one_order_to p machines arcs h g ys xs (turned xs ys alike) drawn had),
    )
    misfit_to (Waits j) (known, ordered, asked, first) = (
      all_known known,
      in_one_order_to p machines arcs g h xs ys alike drawn ordered,
      asked,
      smallest (IsWithoutWait drawn) (IsWithoutWait drawn) (λ i had. had) (λ i had. had) j first,
    )

-- ---- costs

map_same : (f g : ℕ → ℤ) (js : List ℕ) → ((j : ℕ) → f j ≡ g j) → map f js ≡ map g js
map_same f g [] same = refl
map_same f g (j ∷ js) same = rw (same j, map_same f g js same) refl

greatest_same : (f g : ℕ → ℤ) (js : List ℕ) → ((j : ℕ) → f j ≡ g j) → greatest f js ≡ greatest g js
greatest_same f g [] same = refl
greatest_same f g (j ∷ js) same = rw (same j, map_same f g js same) refl

module _ (k l : ProblemData) (count : length k.jobs ≡ length l.jobs) where
  abbrev HaveWeights : Type 0
  HaveWeights = (i : ℕ) → (at k.jobs i).weight ≡ (at l.jobs i).weight

  abbrev HaveDues : Type 0
  HaveDues = (i : ℕ) → (at k.jobs i).due ≡ (at l.jobs i).due

  sums : (f g : ℕ → ℕ) → ((j : ℕ) → f j ≡ g j)
      → pos (sum_by f (range_with_len 1 (length k.jobs)))
      ≡ pos (sum_by g (range_with_len 1 (length l.jobs)))
  sums f g same =
      ap pos (sum_by-same f g (range_with_len 1 (length k.jobs)) same
      ∙ ap (λ n. sum_by g (range_with_len 1 n)) count)

  late : HaveDues → (j c : ℕ) → lateness k j c ≡ lateness l j c
  late dues j c = ap (λ d. pos c -ℤ d) (dues (j - 1))

  units : HaveDues → (j c : ℕ) → unit_penalty k j c ≡ unit_penalty l j c
  units dues j c = ap (λ d. if int_lt d (pos c) then 1 else 0) (dues (j - 1))

  weighted : HaveWeights → (j m n : ℕ) → m ≡ n
      → (at k.jobs (j - 1)).weight * m ≡ (at l.jobs (j - 1)).weight * n
  weighted weights j m n same = rw (weights (j - 1), same) refl

  -- what the objective looks at is the same, so the cost is
  pub cost_same : (goal : Goal) → (IsTrue (uses_weight goal) → HaveWeights)
      → (IsTrue (uses_due goal) → HaveDues) → (rows : Timetable)
      → problem_cost_by goal k rows ≡ problem_cost_by goal l rows
  cost_same goals.Cmax weights dues rows =
      ap (λ n. greatest (λ j. pos (completion rows j)) (range_with_len 1 n)) count
  cost_same goals.Lmax weights dues rows =
      greatest_same (λ j. lateness k j (completion rows j)) (λ j. lateness l j (completion rows j))
      (range_with_len 1 (length k.jobs)) (λ j. late (dues refl) j (completion rows j))
      ∙ ap (λ n. greatest (λ j. lateness l j (completion rows j)) (range_with_len 1 n)) count
  cost_same goals.Hmax weights dues rows = sums (λ j. 0) (λ j. 0) (λ j. refl)
  cost_same goals.SumC weights dues rows =
      sums (λ j. completion rows j) (λ j. completion rows j) (λ j. refl)
  cost_same goals.SumWC weights dues rows =
      sums (λ j. (at k.jobs (j - 1)).weight * completion rows j)
      (λ j. (at l.jobs (j - 1)).weight * completion rows j)
      (λ j. weighted (weights refl) j (completion rows j) (completion rows j) refl)
  cost_same goals.SumT weights dues rows =
      sums (λ j. tardiness k j (completion rows j)) (λ j. tardiness l j (completion rows j))
      (λ j. ap as_time (late (dues refl) j (completion rows j)))
  cost_same goals.SumWT weights dues rows =
      sums (λ j. (at k.jobs (j - 1)).weight * tardiness k j (completion rows j))
      (λ j. (at l.jobs (j - 1)).weight * tardiness l j (completion rows j))
      (λ j. weighted (weights refl) j (tardiness k j (completion rows j))
      (tardiness l j (completion rows j)) (ap as_time (late (dues refl) j (completion rows j))))
  cost_same goals.SumU weights dues rows =
      sums (λ j. unit_penalty k j (completion rows j)) (λ j. unit_penalty l j (completion rows j))
      (λ j. units (dues refl) j (completion rows j))
  cost_same goals.SumWU weights dues rows =
      sums (λ j. (at k.jobs (j - 1)).weight * unit_penalty k j (completion rows j))
      (λ j. (at l.jobs (j - 1)).weight * unit_penalty l j (completion rows j))
      (λ j. weighted (weights refl) j (unit_penalty k j (completion rows j))
      (unit_penalty l j (completion rows j)) (units (dues refl) j (completion rows j)))

-- ---- a task and the task by another objective

-- both branches are one
either : {X : Type 0} (b : Bool) (x : X) → cond b x x ≡ x
either true x = refl
either false x = refl

module _ (goal : Goal) where
  job_at : (xs : List ProblemJobData) (i : ℕ)
      → at (map (job_for goal) xs) i ≡ job_for goal (at xs i)
  job_at [] i =
      rw (either {X = ℕ} (uses_weight goal) 1, either {X = ℤ} (uses_due goal) (pos 0)) refl
  job_at (x ∷ xs) zero = refl
  job_at (x ∷ xs) (suc i) = job_at xs i

  jobs_alike : (xs : List ProblemJobData) → AreAlike xs (map (job_for goal) xs)
  jobs_alike xs = record {
    count = sym (length-map xs (job_for goal));
    times = λ i. sym (ap (λ (x : ProblemJobData). x.times) (job_at xs i));
    route = λ i. sym (ap (λ (x : ProblemJobData). x.route) (job_at xs i));
    release = λ i. sym (ap (λ (x : ProblemJobData). x.release) (job_at xs i));
  }

  weight_at : (xs : List ProblemJobData) → IsTrue (uses_weight goal) → (i : ℕ)
      → (at xs i).weight ≡ (at (map (job_for goal) xs) i).weight
  weight_at xs used i =
      sym (ap (λ (x : ProblemJobData). x.weight) (job_at xs i)
      ∙ ap (λ b. cond b (at xs i).weight 1) used)

  due_at : (xs : List ProblemJobData) → IsTrue (uses_due goal) → (i : ℕ)
      → (at xs i).due ≡ (at (map (job_for goal) xs) i).due
  due_at xs used i =
      sym (ap (λ (x : ProblemJobData). x.due) (job_at xs i)
      ∙ ap (λ b. cond b (at xs i).due (pos 0)) used)

  module _ (k : ProblemData) where
    pub known_for : (piece : Piece) → IsKnownTo k piece → IsKnownTo (task_for goal k) piece
    known_for = known_to k.problem k.machines k.arcs k.problem.goal goal k.jobs
        (map (job_for goal) k.jobs) (jobs_alike k.jobs)

    pub fits_for : (rows : Timetable) → FitsProblem k rows → FitsProblem (task_for goal k) rows
    fits_for = fits_to k.problem k.machines k.arcs k.problem.goal goal k.jobs
        (map (job_for goal) k.jobs) (jobs_alike k.jobs)

    pub misfit_for : (ps : List Piece) (misfit : ProblemMisfit) → HasFirstMisfit k ps misfit
        → HasFirstMisfit (task_for goal k) ps misfit
    misfit_for = misfit_to k.problem k.machines k.arcs k.problem.goal goal k.jobs
        (map (job_for goal) k.jobs) (jobs_alike k.jobs)

    pub cost_for : (rows : Timetable)
        → problem_cost_by goal k rows ≡ problem_cost_by goal (task_for goal k) rows
    cost_for = cost_same k (task_for goal k) (sym (length-map k.jobs (job_for goal))) goal
        (weight_at k.jobs) (due_at k.jobs)
