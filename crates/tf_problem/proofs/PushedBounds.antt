-- Whatever bounds the task with dates that follow by its arcs bounds the task.
use Rattle.std.proofs.Common.{◌≡◌, Bool, true, false, ℕ, ◌*◌, ◌≤◌, ◌&&◌, ◌||◌, not, List, length, cond, int_lt, refl, sym, ap, ◌∙◌, subst, arith, sum_by, ℤ, pos, ◌-ℤ◌, ◌≤ℤ◌, IsTrue}
use Rattle.std.specs.List.{range_with_len}
use Rattle.std.proofs.lemmas.Int.{ints}
use Rattle.std.proofs.lemmas.Bool.{false≢true, and_parts}
use Rattle.tf_model.specs.declared.problem.Goal.{Goal}
use Rattle.tf_model.specs.declared.problem.Goal.TheVariants as goals
use Rattle.tf_model.specs.Whole.{as_time}
use Rattle.tf_model.specs.Timetable.{Timetable, completion}
use Rattle.tf_model.specs.Cost.{greatest}
use Rattle.tf_model.proofs.Sums.{sum_by_le_all}
use Rattle.tf_posed.specs.ProblemData.{ProblemData, IsProblemSound, IsProblemJob, problem_job, problem_jobs, is_covered_env, is_covered_goal}
use Rattle.tf_posed.specs.ProblemCost.{problem_cost, problem_cost_by, lateness, penalty, IsLowerBound}
use Rattle.tf_problem.specs.ProblemBounds.{is_max_goal, is_sum_goal}
use Rattle.tf_problem.specs.Pushed.{due_in, pushed, dated_goal, serving_by, AreReleases, AreDues, AreOwnDues, AreServingDues}
use Rattle.tf_posed.proofs.Conditions.{All-problem_jobs}
use Rattle.tf_problem.proofs.Relaxing.{greatest_reached}
use Rattle.tf_problem.proofs.Prices.{sum-cost}
use Rattle.tf_problem.proofs.Pushed.{size, its_job, due-le-cost, pushed-fits}

-- some job has the greatest
greatest_at_job : (k : ProblemData) (f : ℕ → ℤ) (jobs : List ℕ) → jobs ≡ problem_jobs k
    → 1 ≤ length k.jobs → (j : ℕ) × IsProblemJob k j × (greatest f jobs ≡ f j)
greatest_at_job k f jobs is some =
    let reached = greatest_reached f (length k.jobs) some in
    (reached.0, reached.1, ap (greatest f) is ∙ reached.2)

-- ---- a maximum

pub lateness_is : (g : Goal) → IsTrue (is_max_goal g) → dated_goal g ≡ goals.Lmax
lateness_is goals.Cmax h = refl
lateness_is goals.Lmax h = refl
lateness_is _ h = absurd (false≢true h)

max-bound : (k : ProblemData) → IsProblemSound k → IsTrue k.problem.prec
    → IsTrue (is_max_goal k.problem.goal) → (r : List ℕ) → AreReleases k r → (d : List ℤ)
    → AreDues k d → (b : ℤ) → IsLowerBound (pushed k r d) b → IsLowerBound k b
max-bound k sound prec max r early d late b bound rows fits =
    let some : (j : ℕ) × IsProblemJob k j
    × (greatest (λ j. lateness (pushed k r d) j (completion rows j)) (problem_jobs (pushed k r d))
    ≡ lateness (pushed k r d) j (completion rows j)) =
    greatest_at_job k (λ j. lateness (pushed k r d) j (completion rows j)) (problem_jobs (pushed k r d))
    (ap (range_with_len 1) (size k r d)) sound.some_job in
    let j : ℕ = some.0 in
    let le : b ≤ℤ greatest (λ j. lateness (pushed k r d) j (completion rows j))
    (problem_jobs (pushed k r d)) =
    subst (λ (g : Goal). b ≤ℤ problem_cost_by g (pushed k r d) rows) (lateness_is k.problem.goal max)
    (bound rows (pushed-fits k r d sound prec early rows fits)) in
    let at : lateness (pushed k r d) j (completion rows j)
    ≡ (pos (completion rows j) -ℤ due_in d j) =
    ap (λ x. pos (completion rows j) -ℤ x.due) (its_job k r d j some.1) in
    let paid : (pos (completion rows j) -ℤ due_in d j) ≤ℤ problem_cost k rows =
    due-le-cost k sound rows fits prec max d late (length rows) j some.1 (omega arith) in
    chain b (greatest (λ j. lateness (pushed k r d) j (completion rows j)) (problem_jobs (pushed k r d)))
    (pos (completion rows j) -ℤ due_in d j) (problem_cost k rows) le (some.2 ∙ at) paid
  where
    chain : (b g l o : ℤ) → b ≤ℤ g → g ≡ l → l ≤ℤ o → b ≤ℤ o
    chain b g l o p q s = omega (arith, ints)

-- ---- a sum

same_goal : (g : Goal) → IsTrue (is_sum_goal g) → dated_goal g ≡ g
same_goal goals.Cmax h = absurd (false≢true h)
same_goal _ h = refl

-- a sum is what the jobs add
is-sum : (g : Goal) → IsTrue (is_sum_goal g) → (k : ProblemData) (rows : Timetable)
    → problem_cost_by g k rows
    ≤ℤ pos (sum_by (λ j. penalty g k j (completion rows j)) (problem_jobs k))
is-sum goals.Cmax h k rows = absurd (false≢true h)
is-sum goals.Lmax h k rows = absurd (false≢true h)
is-sum goals.Hmax h k rows = absurd (false≢true h)
is-sum goals.SumC h k rows = omega (arith, ints)
is-sum goals.SumWC h k rows = omega (arith, ints)
is-sum goals.SumT h k rows = omega (arith, ints)
is-sum goals.SumWT h k rows = omega (arith, ints)
is-sum goals.SumU h k rows = omega (arith, ints)
is-sum goals.SumWU h k rows = omega (arith, ints)

module _ (k : ProblemData) (r : List ℕ) (d : List ℤ) (own : AreOwnDues k d) where
  -- a job adds the same with these dates
  same-penalty : (g : Goal) (j c : ℕ) → IsProblemJob k j
      → penalty g (pushed k r d) j c ≡ penalty g k j c
  same-penalty goals.SumC j c h = refl
  same-penalty goals.SumWC j c h = ap (λ x. x.weight * c) (its_job k r d j h)
  same-penalty goals.SumT j c h =
      ap (λ x. as_time (pos c -ℤ x.due)) (its_job k r d j h)
      ∙ ap (λ e. as_time (pos c -ℤ e)) (own j h)
  same-penalty goals.SumWT j c h =
      ap (λ x. x.weight * as_time (pos c -ℤ x.due)) (its_job k r d j h)
      ∙ ap (λ e. (problem_job k j).weight * as_time (pos c -ℤ e)) (own j h)
  same-penalty goals.SumU j c h =
      ap (λ x. cond (int_lt x.due (pos c)) 1 0) (its_job k r d j h)
      ∙ ap (λ e. cond (int_lt e (pos c)) 1 0) (own j h)
  same-penalty goals.SumWU j c h =
      ap (λ x. x.weight * cond (int_lt x.due (pos c)) 1 0) (its_job k r d j h)
      ∙ ap (λ e. (problem_job k j).weight * cond (int_lt e (pos c)) 1 0) (own j h)
  same-penalty _ j c h = refl

sum-bound : (k : ProblemData) → IsProblemSound k → IsTrue k.problem.prec
    → IsTrue (is_sum_goal k.problem.goal) → (r : List ℕ) → AreReleases k r → (d : List ℤ)
    → AreOwnDues k d → (b : ℤ) → IsLowerBound (pushed k r d) b → IsLowerBound k b
sum-bound k sound prec sums r early d own b bound rows fits =
    let g : Goal = k.problem.goal in
    let other : ProblemData = pushed k r d in
    let f : ℕ → ℕ = λ j. penalty g other j (completion rows j) in
    let its : ℕ → ℕ = λ j. penalty g k j (completion rows j) in
    let paid : b ≤ℤ problem_cost_by g other rows =
    subst (λ (o : Goal). b ≤ℤ problem_cost_by o other rows) (same_goal g sums)
    (bound rows (pushed-fits k r d sound prec early rows fits)) in
    let le : sum_by f (problem_jobs k) ≤ sum_by its (problem_jobs k) =
    sum_by_le_all f its (problem_jobs k)
    (All-problem_jobs k (λ j. f j ≤ its j)
    (λ j h. at-most (same-penalty k r d own g j (completion rows j) h))) in
    let same : sum_by f (problem_jobs other) ≡ sum_by f (problem_jobs k) =
    ap (λ n. sum_by f (range_with_len 1 n)) (size k r d) in
    chain b (problem_cost_by g other rows) (sum_by f (problem_jobs other))
    (sum_by f (problem_jobs k)) (sum_by its (problem_jobs k)) (problem_cost k rows)
    paid (is-sum g sums other rows) same le (sum-cost g sums k rows)
  where
    at-most : {a b : ℕ} → a ≡ b → a ≤ b
    at-most e = omega arith

    chain : (b c : ℤ) (x y z : ℕ) (o : ℤ) → b ≤ℤ c → c ≤ℤ pos x → x ≡ y → y ≤ z → pos z ≤ℤ o
        → b ≤ℤ o
    chain b c x y z o p q e h s = omega (arith, ints)

-- ---- either

pub sum_is : (g : Goal) → IsTrue (is_covered_goal g) → is_max_goal g ≡ false → IsTrue (is_sum_goal g)
sum_is goals.Cmax h n = absurd (false≢true (sym n))
sum_is goals.Lmax h n = absurd (false≢true (sym n))
sum_is goals.Hmax h n = absurd (false≢true h)
sum_is goals.SumC h n = refl
sum_is goals.SumWC h n = refl
sum_is goals.SumT h n = refl
sum_is goals.SumWT h n = refl
sum_is goals.SumU h n = refl
sum_is goals.SumWU h n = refl

pub pushed-bound : (k : ProblemData) → IsProblemSound k → IsTrue k.problem.prec → (r : List ℕ)
    → AreReleases k r → (d : List ℤ) → AreServingDues k d → (b : ℤ)
    → IsLowerBound (pushed k r d) b → IsLowerBound k b
pushed-bound k sound prec r early d serve b bound =
    by (is_max_goal k.problem.goal) refl serve
  where
    covered : IsTrue (is_covered_goal k.problem.goal)
    covered = (and_parts (is_covered_env k.problem.env) (is_covered_goal k.problem.goal)
        (and_parts (is_covered_env k.problem.env && is_covered_goal k.problem.goal)
        (not (k.problem.block || k.problem.rcrc)) sound.covered).0).1

    by : (m : Bool) → is_max_goal k.problem.goal ≡ m → serving_by m k d → IsLowerBound k b
    by true max late = max-bound k sound prec max r early d late b bound
    by false sums own =
        sum-bound k sound prec (sum_is k.problem.goal covered sums) r early d own b bound
