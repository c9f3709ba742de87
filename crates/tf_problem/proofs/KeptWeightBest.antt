-- The jobs whose loss weighs least, last: no less weight is late in any timetable.
use Rattle.std.proofs.Common.{◌≡◌, Bool, true, false, ℕ, ◌+◌, ◌*◌, ◌≤◌, ◌⊎◌, inl, inr, nat_lt, min, int_lt, get_or, List, [], ◌∷◌, cond, refl, ap, ◌∙◌, ⊎_elim, subst, arith, sum_by, ◌==◌, length, All, ℤ, pos, ◌≤ℤ◌, IsTrue, IsFalse}
use Rattle.std.specs.List.Sorted.{IsPermutation}
use Rattle.std.proofs.lemmas.Int.{ints}
use Rattle.std.proofs.lemmas.Bool.{or_left, ltb-true, ltb-false}
use Rattle.std.proofs.lemmas.List.Sums.{sum_by-cons}
use Rattle.std.proofs.lemmas.List.Sorted.{sum_by-IsPermutation, All-permutation}
use Rattle.std.proofs.lemmas.List.Elements.{All-weaker}
use Rattle.tf_model.specs.declared.problem.Goal.TheVariants as goals
use Rattle.tf_model.specs.ClassTable.{is_single_env, is_parallel_env}
use Rattle.tf_model.specs.Distinct.{IsDistinct}
use Rattle.tf_model.specs.Timetable.{Timetable, completion}
use Rattle.tf_model.proofs.Loads.{once}
use Rattle.tf_model.proofs.Sums.{sum_by_le_all}
use Rattle.tf_posed.specs.ProblemData.{ProblemData, IsProblemSound, IsProblemJob, problem_jobs, problem_job, problem_time, problem_weight}
use Rattle.tf_posed.specs.ProblemCost.{problem_cost, problem_cost_by, unit_penalty, IsLowerBound, IsProblemBest}
use Rattle.tf_problem.specs.ProblemBounds.{is_alike}
use Rattle.tf_posed.proofs.Conditions.{All-problem_jobs}
use Rattle.tf_problem.specs.Kept.{IsRisingBy, due_time, room_by_due, least_choice, least_late, kept_weight}
use Rattle.tf_problem.proofs.Reached.{AreTimely}
use Rattle.tf_problem.proofs.KeptBest.{chosen, others, chosen-sum, sum-none, Played, played}
use Rattle.tf_problem.proofs.KeptWeight.{weight-of, kept-weight-bound}

-- the choice is to lose the job, or to keep it where there is room
choice-either : (time weight room t late on : ℕ)
    → (least_choice time weight room t late on ≡ weight + late)
    ⊎ ((t + time ≤ room) × (least_choice time weight room t late on ≡ on))
choice-either time weight room t late on = by (nat_lt room (t + time)) refl
  where
    less : (b : Bool) → nat_lt (weight + late) on ≡ b → t + time ≤ room
        → (min (weight + late) on ≡ weight + late) ⊎ ((t + time ≤ room) × (min (weight + late) on ≡ on))
    less true e fits = inl (omega (arith, ltb-true (weight + late) on e))
    less false e fits = inr (fits, omega (arith, ltb-false (weight + late) on e))

    by : (b : Bool) → nat_lt room (t + time) ≡ b
        → (cond b (weight + late) (min (weight + late) on) ≡ weight + late)
        ⊎ ((t + time ≤ room) × (cond b (weight + late) (min (weight + late) on) ≡ on))
    by true e = inl refl
    by false e = less (nat_lt (weight + late) on) refl (ltb-false room (t + time) e)

module _ (p w room : ℕ → ℕ) where
  -- marks of jobs on time by which the least is lost
  record Lost (t : ℕ) (jobs : List ℕ) : Type 0 where
    marks : List Bool
    timely : AreTimely p room t marks jobs
    weight : sum_by w (others marks jobs) ≡ least_late p w room jobs t

  lost : (jobs : List ℕ) (t : ℕ) → Lost t jobs
  unfolding AreTimely others
  lost [] t = record { marks = []; timely = tt; weight = refl }
  lost (j ∷ jobs) t =
      let behind : Lost t jobs = lost jobs t in
      let on : Lost (t + p j) jobs = lost jobs (t + p j) in
      ⊎_elim (λ is. record {
        marks = false ∷ behind.marks;
        timely = (λ e. cc, subst (λ v. AreTimely p room v behind.marks jobs) (plain t) behind.timely);
        weight = omega (arith, is, behind.weight, sum_by-cons w j (others behind.marks jobs));
      })
      (λ it. record {
        marks = true ∷ on.marks;
        timely = (λ _. it.0, on.timely);
        weight = omega (arith, it.1, on.weight);
      })
      (choice-either (p j) (w j) (room j) t (least_late p w room jobs t)
      (least_late p w room jobs (t + p j)))
    where
      plain : (v : ℕ) → v ≡ v + 0
      plain v = omega arith

sum-zero : (v u : ℕ → ℕ) (xs : List ℕ) → All (λ x. u x ≡ 0) xs → sum_by (λ x. v x * u x) xs ≡ 0
sum-zero v u xs all =
    sum-none (λ x. v x * u x) xs
    (All-weaker (λ x. u x ≡ 0) (λ x. v x * u x ≡ 0) (λ x e. ap (λ y. v x * y) e ∙ omega arith) xs all)

pub kept-weight-best : (k : ProblemData) → IsProblemSound k → IsTrue (is_single_env k.problem.env)
    → k.problem.goal ≡ goals.SumWU → IsFalse k.problem.release → IsFalse k.problem.prec
    → IsFalse k.problem.prmu → IsFalse k.problem.nwt → (jobs : List ℕ)
    → IsPermutation (problem_jobs k) jobs → IsRisingBy (due_time k) 0 jobs
    → (rows : Timetable) × IsProblemBest k rows (pos (kept_weight k jobs))
kept-weight-best k sound single goal unreleased unordered free waits jobs moved rising =
    let p : ℕ → ℕ = problem_time k in
    let w : ℕ → ℕ = problem_weight k in
    let room : ℕ → ℕ = room_by_due k jobs in
    let alike : IsTrue (is_alike k.problem.env) =
    or_left (is_single_env k.problem.env) (is_parallel_env k.problem.env) single in
    let known : All (IsProblemJob k) jobs =
    All-permutation (IsProblemJob k) (problem_jobs k) jobs moved
    (All-problem_jobs k (IsProblemJob k) (λ j h. h)) in
    let distinct : IsDistinct jobs =
    λ c. omega (
      arith,
      once 1 (length k.jobs) c,
      sum_by-IsPermutation (λ j. cond (c == j) 1 0) (problem_jobs k) jobs moved,
    ) in
    let at : Lost p w room 0 jobs = lost p w room jobs 0 in
    let first : List ℕ = chosen at.marks jobs in
    let last : List ℕ = others at.marks jobs in
    let it : Played k at.marks jobs =
    played k sound single unreleased unordered free waits jobs moved 0 refl at.marks at.timely in
    let rows : Timetable = it.rows in
    let u : ℕ → ℕ = λ j. unit_penalty k j (completion rows j) in
    let late : ℕ → ℕ = λ j. (problem_job k j).weight * u j in
    let none : sum_by late first ≡ 0 = sum-zero (λ j. (problem_job k j).weight) u first it.early in
    let some : sum_by late last ≤ sum_by w last =
    sum_by_le_all late w last (λ i d h. each rows (get_or last i d)) in
    let all : sum_by late (problem_jobs k) ≤ kept_weight k jobs =
    omega (
      arith,
      none,
      some,
      chosen-sum p room late 0 at.marks jobs at.timely,
      sum_by-IsPermutation late (problem_jobs k) jobs moved,
      at.weight,
    ) in
    let least : IsLowerBound k (pos (kept_weight k jobs)) =
    kept-weight-bound k sound alike goal jobs distinct known rising in
    let cost : problem_cost k rows ≡ pos (sum_by late (problem_jobs k)) =
    ap (λ g. problem_cost_by g k rows) goal in
    let bound : pos (kept_weight k jobs) ≤ℤ problem_cost k rows = least rows it.fits in (
      rows,
      record {
        fits = it.fits;
        value = equal (problem_cost k rows) (sum_by late (problem_jobs k)) (kept_weight k jobs) cost all
            bound;
        least = least;
      },
    )
  where
    each : (rows : Timetable) (j : ℕ)
        → (problem_job k j).weight * unit_penalty k j (completion rows j) ≤ problem_weight k j
    each rows j =
        omega (
          arith,
          weight-of k goal j,
          pays (int_lt (problem_job k j).due (pos (completion rows j))) (problem_job k j).weight,
        )
      where
        pays : (b : Bool) (v : ℕ) → v * cond b 1 0 ≤ v
        pays true v = omega arith
        pays false v = omega arith

    equal : (z : ℤ) (a b : ℕ) → z ≡ pos a → a ≤ b → pos b ≤ℤ z → z ≡ pos b
    equal z a b is le ge = is ∙ ap pos (omega (arith, ints, is, le, ge))
