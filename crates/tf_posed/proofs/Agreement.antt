-- A task of a class means what the task of its problem means.
use Rattle.std.proofs.Common.{◌≡◌, Bool, true, false, ℕ, ◌*◌, ◌≤◌, Option, List, [], ◌∷◌, length, map, refl, sym, ap, ◌∙◌, subst, arith, sum_by, All, ℤ, pos, ◌-ℤ◌, ◌≤ℤ◌, IsFalse}
use Rattle.std.specs.Int.{int_max}
use Rattle.std.specs.List.{fold, range_with_len}
use Rattle.std.proofs.lemmas.Bool.{false≢true, true≢false}
use Rattle.std.proofs.lemmas.List.Elements.{All-nil, All-head, All-tail}
use Rattle.tf_model.specs.declared.class.Class.{Class}
use Rattle.tf_model.specs.declared.class.Class.TheVariants.{WeightedSum}
use Rattle.tf_model.specs.declared.problem.Goal.{Goal}
use Rattle.tf_model.specs.declared.problem.Goal.TheVariants as goals
use Rattle.tf_model.specs.declared.problem.Problem.{Problem}
use Rattle.tf_model.specs.ClassTable.{notation_of, is_ordered, is_costed, is_dearest, is_weighted_goal, objective_by}
use Rattle.tf_model.specs.Timetable.{Timetable, completion}
use Rattle.tf_model.specs.SchedulingTask.{SchedulingTask, all_jobs, IsJob, job_data, costs_of}
use Rattle.tf_model.specs.Steps.{step_value}
use Rattle.tf_model.specs.Feasible.{IsKept, Fits}
use Rattle.tf_model.specs.Cost.{cost, cost_by, price, price_by, greatest, IsBest}
use Rattle.tf_model.specs.Sound.{IsSound}
use Rattle.tf_model.proofs.Sums.{sum_by-same_all}
use Rattle.tf_posed.specs.ProblemData.{ProblemData, problem_job, problem_jobs}
use Rattle.tf_posed.specs.FitsProblem.{FitsProblem}
use Rattle.tf_posed.specs.ProblemCost.{problem_cost, problem_cost_by, lateness, IsProblemBest}
use Rattle.tf_posed.specs.Agreement.{posed, costed_by, costed_cost, IsCostedBest, IsSamePlain, IsSameTask, PosedLaw}
use Rattle.tf_posed.proofs.Conditions.{counted, All-all_jobs, no_prmu, no_nwt, size, its_job, amount_to, amount_from, whole_to, whole_from, released_to, released_from, route_to, route_from, posed-sound}

-- ---- lists

map-same : {X : Type 0} (f g : ℕ → X) (xs : List ℕ) → All (λ x. f x ≡ g x) xs → map f xs ≡ map g xs
map-same f g [] same = refl
map-same f g (x ∷ xs) same =
    ap (λ y. y ∷ map f xs) (All-head (λ y. f y ≡ g y) x xs same)
    ∙ ap (λ ys. g x ∷ ys) (map-same f g xs (All-tail (λ y. f y ≡ g y) x xs same))

greatest-same : (f g : ℕ → ℤ) (xs : List ℕ) → All (λ x. f x ≡ g x) xs
    → greatest f xs ≡ greatest g xs
greatest-same f g [] same = refl
greatest-same f g (x ∷ xs) same =
    ap (λ ys. fold int_max (f x) ys) (map-same f g (x ∷ xs) same)
    ∙ ap (λ y. fold int_max y (map g (x ∷ xs))) (All-head (λ y. f y ≡ g y) x xs same)

-- ---- what no class asks, and which objectives the classes have

abbrev pub is_class_goal : Goal → Bool
is_class_goal goals.Cmax = true
is_class_goal goals.Lmax = true
is_class_goal goals.Hmax = true
is_class_goal goals.SumC = true
is_class_goal goals.SumWC = true
is_class_goal _ = false

pub class_goal : (c : Class) → is_class_goal (notation_of c).goal ≡ true
class_goal WeightedSum = refl
class_goal _ = refl

module _ (k : SchedulingTask) (sound : IsSound k) (n : Option ℕ) where
  abbrev task : ProblemData
  task = counted k n

  jobs_are : problem_jobs task ≡ all_jobs k
  jobs_are = ap (range_with_len 1) (size k)

  of_class : {j : ℕ} → j ≤ length task.jobs → j ≤ length k.jobs
  of_class h = omega (arith, size k)

  of_problem : {j : ℕ} → j ≤ length k.jobs → j ≤ length task.jobs
  of_problem h = omega (arith, size k)

  -- ---- fitting

  fits_problem : (rows : Timetable) → Fits k rows → FitsProblem task rows
  fits_problem rows fits = record {
    width = fits.broken.width;
    jobs_only =
        subst (λ n. All (λ row. All (λ j. j ≤ n) row) rows) (sym (size k)) fits.broken.jobs_only;
    single_place = λ j low high. fits.broken.single_place j low (of_class high);
    amount = λ j low high. amount_to k sound n rows j (low, of_class high)
        (fits.broken.amount j low (of_class high));
    unbroken = λ no j low high. whole_to k sound n rows j (low, of_class high)
        (fits.unbroken no j low (of_class high));
    released = λ has j low high. released_to k sound n rows j (low, of_class high)
        (fits.broken.released j low (of_class high));
    in_order = λ has. fits.broken.in_order;
    on_route = λ j low high. route_to k sound n rows j (low, of_class high)
        (λ flows. fits.broken.in_flow flows j low (of_class high));
    one_order = λ has. absurd (false≢true (sym (no_prmu k.class) ∙ has));
    without_wait = λ has. absurd (false≢true (sym (no_nwt k.class) ∙ has));
  }

  pub closed : (rows : Timetable) → FitsProblem task rows → Fits k rows
  closed rows fits = record {
    broken = record {
      width = fits.width;
      jobs_only = subst (λ n. All (λ row. All (λ j. j ≤ n) row) rows) (size k) fits.jobs_only;
      single_place = λ j low high. fits.single_place j low (of_problem high);
      amount = λ j low high. amount_from k sound n rows j (low, high)
          (fits.amount j low (of_problem high));
      released = λ j low high. released_from k sound n rows j (low, high)
          (λ has. fits.released has j low (of_problem high));
      in_order = kept (is_ordered k.class) refl;
      in_flow = λ flows j low high. route_from k sound n rows j (low, high)
          (fits.on_route j low (of_problem high)) flows;
    };
    unbroken = λ no j low high. whole_from k sound n rows j (low, high)
        (fits.unbroken no j low (of_problem high));
  }
    where
      kept : (b : Bool) → is_ordered k.class ≡ b → All (IsKept rows) k.arcs
      kept true is = fits.in_order is
      kept false is =
          subst (All (IsKept rows)) (sym (sound.unordered is)) (All-nil (IsKept rows))

  -- ---- costs

  greatest-by : (rows : Timetable) (f : ℕ → ℤ) (g : Goal) → (notation_of k.class).goal ≡ g
      → ((j : ℕ) → IsJob k j → f j ≡ price_by (objective_by g) k j (completion rows j))
      → greatest f (problem_jobs task) ≡ greatest (λ j. price k j (completion rows j)) (all_jobs k)
  greatest-by rows f g e same =
      ap (greatest f) jobs_are
      ∙ greatest-same f (λ j. price k j (completion rows j)) (all_jobs k)
      (All-all_jobs k (λ j. f j ≡ price k j (completion rows j))
      (λ j h. same j h ∙ ap (λ x. price_by (objective_by x) k j (completion rows j)) (sym e)))

  sum-by : (rows : Timetable) (f : ℕ → ℕ)
      → ((j : ℕ) → IsJob k j → f j ≡ (job_data k j).weight * completion rows j)
      → sum_by f (problem_jobs task)
      ≡ sum_by (λ j. (job_data k j).weight * completion rows j) (all_jobs k)
  sum-by rows f same =
      ap (sum_by f) jobs_are
      ∙ sum_by-same_all f (λ j. (job_data k j).weight * completion rows j) (all_jobs k)
      (All-all_jobs k (λ j. f j ≡ (job_data k j).weight * completion rows j) same)

  cost_at : (rows : Timetable) (g : Goal) → (notation_of k.class).goal ≡ g
      → is_class_goal g ≡ true → costed_by g task k.costs rows ≡ cost_by (objective_by g) k rows
  cost_at rows goals.Cmax e known =
      greatest-by rows (λ j. pos (completion rows j)) goals.Cmax e (λ j h. refl)
  cost_at rows goals.Lmax e known =
      greatest-by rows (λ j. lateness task j (completion rows j)) goals.Lmax e
      (λ j h. ap (λ d. pos (completion rows j) -ℤ d.due) (its_job k j h))
  cost_at rows goals.Hmax e known =
      greatest-by rows (λ j. step_value (costs_of k j) (completion rows j)) goals.Hmax e
      (λ j h. refl)
  cost_at rows goals.SumC e known =
      ap pos (sum-by rows (completion rows)
      (λ j h. let unit : (job_data k j).weight ≡ 1 =
      sound.unit_weights (ap is_weighted_goal e) j h in
      sym (ap (λ w. w * completion rows j) unit ∙ omega arith)))
  cost_at rows goals.SumWC e known =
      ap pos (sum-by rows (λ j. (problem_job task j).weight * completion rows j)
      (λ j h. ap (λ d. d.weight * completion rows j) (its_job k j h)))
  cost_at rows _ e known = absurd (false≢true known)

  same_cost : (rows : Timetable) → cost k rows ≡ costed_cost task k.costs rows
  same_cost rows = sym (cost_at rows (notation_of k.class).goal refl (class_goal k.class))

  plain_cost : IsFalse (is_costed k.class) → (rows : Timetable)
      → cost k rows ≡ problem_cost task rows
  plain_cost plain rows = same_cost rows ∙ by (notation_of k.class).goal plain
    where
      by : (g : Goal) → IsFalse (is_dearest (objective_by g))
          → costed_by g task k.costs rows ≡ problem_cost_by g task rows
      by goals.Hmax dear = absurd (true≢false dear)
      by _ dear = refl

  -- ---- best

  module _ (of : Timetable → ℤ) (same : (rows : Timetable) → cost k rows ≡ of rows) (v : ℤ) where
    least_to : ((other : Timetable) → Fits k other → v ≤ℤ cost k other)
        → (other : Timetable) → FitsProblem task other → v ≤ℤ of other
    least_to least other fits = subst (λ z. v ≤ℤ z) (same other) (least other (closed other fits))

    least_from : ((other : Timetable) → FitsProblem task other → v ≤ℤ of other)
        → (other : Timetable) → Fits k other → v ≤ℤ cost k other
    least_from least other fits =
        subst (λ z. v ≤ℤ z) (sym (same other)) (least other (fits_problem other fits))

  best_to : (rows : Timetable) (v : ℤ) → IsBest k rows v → IsCostedBest task k.costs rows v
  best_to rows v is = record {
    fits = fits_problem rows is.fits;
    value = sym (same_cost rows) ∙ is.value;
    least = least_to (costed_cost task k.costs) same_cost v is.least;
  }

  best_from : (rows : Timetable) (v : ℤ) → IsCostedBest task k.costs rows v → IsBest k rows v
  best_from rows v is = record {
    fits = closed rows is.fits;
    value = same_cost rows ∙ is.value;
    least = least_from (costed_cost task k.costs) same_cost v is.least;
  }

  module _ (plain : IsFalse (is_costed k.class)) where
    plain_to : (rows : Timetable) (v : ℤ) → IsBest k rows v → IsProblemBest task rows v
    plain_to rows v is = record {
      fits = fits_problem rows is.fits;
      value = sym (plain_cost plain rows) ∙ is.value;
      least = least_to (problem_cost task) (plain_cost plain) v is.least;
    }

    plain_from : (rows : Timetable) (v : ℤ) → IsProblemBest task rows v → IsBest k rows v
    plain_from rows v is = record {
      fits = closed rows is.fits;
      value = plain_cost plain rows ∙ is.value;
      least = least_from (problem_cost task) (plain_cost plain) v is.least;
    }

    same_plain : IsSamePlain k task
    same_plain = record {
      sound = posed-sound k sound n plain;
      costs = plain_cost plain;
      best = λ rows v. (plain_to rows v, plain_from rows v);
    }

  same_task : IsSameTask k task
  same_task = record {
    fits = λ rows. (fits_problem rows, closed rows);
    costs = same_cost;
    best = λ rows v. (best_to rows v, best_from rows v);
    plain = same_plain;
  }

pub posed-same : PosedLaw
posed-same k p sound is =
    subst (λ (q : Problem). IsSameTask k (record (posed k) { problem = q }))
    (sym (ap (λ (q : Problem). record q { count = p.count }) is.notation))
    (same_task k sound p.count)
