-- The least of a list, and what some job's price says of the cost.
use Rattle.std.proofs.Common.{ℕ, ◌-◌, ◌≤◌, List, [], ◌∷◌, length, map, min, refl, ◌∙◌, arith, All, Contains, ℤ, pos, ◌-ℤ◌, ◌≤ℤ◌, IsTrue}
use Rattle.std.specs.Int.{int_min}
use Rattle.std.specs.List.{fold}
use Rattle.std.proofs.lemmas.Int.{ints, fold-int_min_bounds}
use Rattle.std.proofs.lemmas.Bool.{false≢true}
use Rattle.std.proofs.lemmas.List.FromFn.{length-range_with_len, get_or-range_with_len}
use Rattle.std.proofs.lemmas.List.Elements.{All-cons, All-nil, All-head, All-tail, All-contains}
use Rattle.tf_model.specs.declared.problem.Goal.{Goal}
use Rattle.tf_model.specs.declared.problem.Goal.TheVariants as goals
use Rattle.tf_model.specs.Timetable.{Timetable, completion}
use Rattle.tf_check.specs.Bound.{least_number, least}
use Rattle.tf_posed.specs.ProblemData.{ProblemData, IsProblemJob, problem_jobs, due_by, problem_due}
use Rattle.tf_posed.specs.ProblemCost.{problem_cost, problem_cost_by, lateness}
use Rattle.tf_problem.specs.ProblemBounds.{is_max_goal}
use Rattle.tf_problem.proofs.Relaxing.{at-le-greatest}

-- ---- the least of a list

fold-min-le : (a : ℕ) (xs : List ℕ) → (fold min a xs ≤ a) × All (λ x. fold min a xs ≤ x) xs
fold-min-le a [] = (omega arith, All-nil (λ x. a ≤ x))
fold-min-le a (x ∷ xs) =
    let rest = fold-min-le (min a x) xs in (
      omega (arith, rest.0),
      All-cons (λ y. fold min (min a x) xs ≤ y) x xs (omega (arith, rest.0)) rest.1,
    )

pub of_map : {X : Type 0} (P : X → Type 0) (f : ℕ → X) (xs : List ℕ) → All P (map f xs)
    → All (λ x. P (f x)) xs
of_map P f [] all = All-nil (λ x. P (f x))
of_map P f (x ∷ xs) all =
    All-cons (λ y. P (f y)) x xs (All-head P (f x) (map f xs) all)
    (of_map P f xs (All-tail P (f x) (map f xs) all))

pub least_number-le : (f : ℕ → ℕ) (jobs : List ℕ) → All (λ j. least_number f jobs ≤ f j) jobs
least_number-le f [] = All-nil (λ j. 0 ≤ f j)
least_number-le f (j ∷ jobs) =
    of_map (λ x. least_number f (j ∷ jobs) ≤ x) f (j ∷ jobs) (fold-min-le (f j) (map f (j ∷ jobs))).1

pub least-le : (f : ℕ → ℤ) (jobs : List ℕ) → All (λ j. least f jobs ≤ℤ f j) jobs
least-le f [] = All-nil (λ j. pos 0 ≤ℤ f j)
least-le f (j ∷ jobs) =
    let r : ℤ = fold int_min (f j) (map f (j ∷ jobs)) in
    of_map (λ z. r ≤ℤ z) f (j ∷ jobs) (fold-int_min_bounds (f j) (map f (j ∷ jobs)) r refl).1

pub Contains-problem_jobs : (k : ProblemData) (j : ℕ) → IsProblemJob k j → Contains (problem_jobs k) j
Contains-problem_jobs k j h = (
  j - 1,
  omega (arith, h.0, h.1, length-range_with_len 1 (length k.jobs)),
  get_or-range_with_len 1 (length k.jobs) (j - 1) j (omega (arith, h.0, h.1))
      ∙ omega (arith, h.0),
)

-- what is least over all jobs is at most what each has
pub least_number-le-job : (k : ProblemData) (f : ℕ → ℕ) (j : ℕ) → IsProblemJob k j
    → least_number f (problem_jobs k) ≤ f j
least_number-le-job k f j h =
    All-contains (λ i. least_number f (problem_jobs k) ≤ f i) (problem_jobs k) j
    (least_number-le f (problem_jobs k)) (Contains-problem_jobs k j h)

-- ---- the greatest completion or lateness

late-le-by : (g : Goal) → IsTrue (is_max_goal g) → (k : ProblemData) (rows : Timetable) (j : ℕ)
    → IsProblemJob k j → (pos (completion rows j) -ℤ due_by g k j) ≤ℤ problem_cost_by g k rows
late-le-by goals.Cmax max k rows j h =
    let le = at-le-greatest k (λ i. pos (completion rows i)) j h in
    omega (arith, ints, le)
late-le-by goals.Lmax max k rows j h =
    at-le-greatest k (λ i. lateness k i (completion rows i)) j h
late-le-by _ max k rows j h = absurd (false≢true max)

-- a job that completes at c or later costs at least c less its due date
pub late-le-cost : (k : ProblemData) (rows : Timetable) → IsTrue (is_max_goal k.problem.goal)
    → (j : ℕ) → IsProblemJob k j → (c : ℕ) → c ≤ completion rows j
    → (pos c -ℤ problem_due k j) ≤ℤ problem_cost k rows
late-le-cost k rows max j h c le =
    later c (completion rows j) (problem_due k j) (problem_cost k rows) le
    (late-le-by k.problem.goal max k rows j h)
  where
    later : (c e : ℕ) (d o : ℤ) → c ≤ e → (pos e -ℤ d) ≤ℤ o → (pos c -ℤ d) ≤ℤ o
    later c e d o le p = omega (arith, ints)
