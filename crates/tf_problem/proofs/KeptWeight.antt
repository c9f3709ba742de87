-- No less weight is late than the least by which there is room for the others.
use Rattle.std.proofs.Common.{◌≡◌, Bool, true, false, not, ℕ, ◌+◌, ◌*◌, ◌≤◌, nat_lt, min, int_lt, List, [], ◌∷◌, cond, refl, sym, ap, subst, arith, sum_by, All, pos, ◌≤ℤ◌, IsTrue}
use Rattle.std.proofs.lemmas.Int.{ints}
use Rattle.std.proofs.lemmas.Bool.{ltb-true}
use Rattle.std.proofs.lemmas.List.Sums.{sum_by-cons}
use Rattle.std.proofs.lemmas.List.Elements.{All-nil}
use Rattle.tf_model.specs.declared.problem.Goal.TheVariants as goals
use Rattle.tf_model.specs.Distinct.{IsDistinct}
use Rattle.tf_model.specs.Timetable.{Timetable, completion}
use Rattle.tf_check.specs.Bound.{least_number}
use Rattle.tf_posed.specs.ProblemData.{ProblemData, IsProblemSound, IsProblemJob, problem_jobs, problem_job, problem_time, problem_release, problem_weight, weight_by}
use Rattle.tf_posed.specs.ProblemCost.{problem_cost, problem_cost_by, unit_penalty, IsLowerBound}
use Rattle.tf_problem.specs.ProblemBounds.{is_alike}
use Rattle.tf_problem.proofs.Least.{least_number-le}
use Rattle.tf_problem.proofs.ProblemLists.{sum_by-le-jobs}
use Rattle.tf_problem.specs.Kept.{IsRisingBy, due_time, room_by_due, least_choice, least_late, kept_weight}
use Rattle.tf_problem.proofs.Kept.{Timely, on_time, timely}

-- the choice is no more than the weight and what remains with the job late
pub choice-late : (time weight room t late on : ℕ) → least_choice time weight room t late on ≤ weight + late
choice-late time weight room t late on = by (nat_lt room (t + time))
  where
    by : (b : Bool) → cond b (weight + late) (min (weight + late) on) ≤ weight + late
    by true = omega arith
    by false = omega arith

-- with room it is no more than what remains with the job on time
pub choice-on : (time weight room t late on : ℕ) → t + time ≤ room
    → least_choice time weight room t late on ≤ on
choice-on time weight room t late on fits = by (nat_lt room (t + time)) refl
  where
    by : (b : Bool) → nat_lt room (t + time) ≡ b
        → cond b (weight + late) (min (weight + late) on) ≤ on
    by true e = absurd (omega (arith, ltb-true room (t + time) e))
    by false e = omega arith

module _ (p w room : ℕ → ℕ) where
  pub least-le-all : (jobs : List ℕ) (t : ℕ) → least_late p w room jobs t ≤ sum_by w jobs
  least-le-all [] t = omega arith
  least-le-all (j ∷ jobs) t =
      omega (
        arith,
        sum_by-cons w j jobs,
        least-le-all jobs t,
        choice-late (p j) (w j) (room j) t (least_late p w room jobs t)
            (least_late p w room jobs (t + p j)),
      )

  -- no less is late, whichever jobs are on time
  pub least-le-late : (on : ℕ → Bool) (jobs : List ℕ) (t : ℕ) → Timely p room on t jobs
      → least_late p w room jobs t ≤ sum_by (λ j. cond (on j) 0 (w j)) jobs
  least-le-late on [] t fits = omega arith
  least-le-late on (j ∷ jobs) t fits =
      by (on j) refl (λ v h. least-le-late on jobs v h)
    where
      late : ℕ → ℕ
      late i = cond (on i) 0 (w i)

      by : (b : Bool) → on j ≡ b
          → ((v : ℕ) → Timely p room on v jobs → least_late p w room jobs v ≤ sum_by late jobs)
          → least_late p w room (j ∷ jobs) t ≤ sum_by late (j ∷ jobs)
      by true e rest =
          omega (
            arith,
            sum_by-cons late j jobs,
            choice-on (p j) (w j) (room j) t (least_late p w room jobs t)
                (least_late p w room jobs (t + p j)) (fits.0 e),
            rest (t + p j) (subst (λ b. Timely p room on (t + cond b (p j) 0) jobs) e fits.1),
          )
      by false e rest =
          omega (
            arith,
            sum_by-cons late j jobs,
            ap (λ b. cond b 0 (w j)) e,
            choice-late (p j) (w j) (room j) t (least_late p w room jobs t)
                (least_late p w room jobs (t + p j)),
            rest t
                (subst (λ v. Timely p room on v jobs) (none (cond (on j) (p j) 0) (ap (λ b. cond b (p j) 0) e))
                fits.1),
          )
        where
          none : (x : ℕ) → x ≡ 0 → t + x ≡ t
          none x e = omega arith

pub weight-of : (k : ProblemData) → k.problem.goal ≡ goals.SumWU → (j : ℕ)
    → problem_weight k j ≡ (problem_job k j).weight
weight-of k goal j = ap (λ g. weight_by g k j) goal

-- a late job pays its weight
late-pays : (k : ProblemData) → k.problem.goal ≡ goals.SumWU → (rows : Timetable) (jobs : List ℕ)
    → sum_by (λ j. cond (on_time k rows j) 0 (problem_weight k j)) jobs
    ≡ sum_by (λ j. (problem_job k j).weight * unit_penalty k j (completion rows j)) jobs
late-pays k goal rows [] = refl
late-pays k goal rows (j ∷ jobs) =
    omega (
      arith,
      late-pays k goal rows jobs,
      sum_by-cons (λ i. cond (on_time k rows i) 0 (problem_weight k i)) j jobs,
      sum_by-cons (λ i. (problem_job k i).weight * unit_penalty k i (completion rows i)) j jobs,
      weight-of k goal j,
      either (int_lt (problem_job k j).due (pos (completion rows j))) (problem_weight k j),
      ap (λ v. v * unit_penalty k j (completion rows j)) (weight-of k goal j),
    )
  where
    either : (b : Bool) (v : ℕ) → cond (not b) 0 v ≡ v * cond b 1 0
    either true v = omega arith
    either false v = omega arith

pub kept-weight-bound : (k : ProblemData) → IsProblemSound k → IsTrue (is_alike k.problem.env)
    → k.problem.goal ≡ goals.SumWU → (jobs : List ℕ) → IsDistinct jobs → All (IsProblemJob k) jobs
    → IsRisingBy (due_time k) 0 jobs → IsLowerBound k (pos (kept_weight k jobs))
kept-weight-bound k sound alike goal jobs distinct known rising rows fits =
    let r : ℕ = least_number (problem_release k) jobs in
    let late : ℕ → ℕ = λ j. (problem_job k j).weight * unit_penalty k j (completion rows j) in
    let cost : problem_cost k rows ≡ pos (sum_by late (problem_jobs k)) =
    ap (λ g. problem_cost_by g k rows) goal in
    let room : Timely (problem_time k) (room_by_due k jobs) (on_time k rows) 0 jobs =
    timely k sound alike rows fits r [] jobs 0 0 (λ c. omega (arith, distinct c))
    (All-nil (IsProblemJob k)) known (All-nil (λ j. r ≤ problem_release k j))
    (least_number-le (problem_release k) jobs) (All-nil (λ j. due_time k j ≤ 0)) rising refl in
    subst (λ z. pos (kept_weight k jobs) ≤ℤ z) (sym cost)
    (omega (
      arith,
      ints,
      least-le-late (problem_time k) (problem_weight k) (room_by_due k jobs) (on_time k rows) jobs 0 room,
      late-pays k goal rows jobs,
      sum_by-le-jobs k late jobs distinct known,
    ))
