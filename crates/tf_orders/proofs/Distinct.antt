-- Jobs of which none stands twice, by marks.
use Rattle.std.proofs.Common.{◌≡◌, ℕ, zero, suc, ◌+◌, ◌-◌, ◌<◌, ◌≤◌, ◌==◌, Bool, true, false, List, [], ◌∷◌, length, get_or, take, replicate, refl, sym, ap, ◌∙◌, arith}
use Rattle.std.proofs.lemmas.List.Sums.{sum_by-take-le}
use Rattle.std.proofs.lemmas.List.{length-replicate, get_or-replicate}
use Rattle.std.proofs.lemmas.Bool.{eq-eqb}
use Rattle.tf_model.specs.Distinct.{IsDistinct}
use Rattle.tf_model.specs.ClassTable.{plain_problem}
use Rattle.tf_model.specs.declared.problem.Env.TheVariants.{Single}
use Rattle.tf_model.specs.declared.problem.Goal.TheVariants.{Cmax}
use Rattle.tf_posed.specs.ProblemData.{ProblemData, ProblemJobData, no_problem_job, IsProblemJob}
use Rattle.tf_bound.proofs.Marks.{AreMarks, as_one, distinct}
use Rattle.tf_bound.proofs.Steps.{sum_next}

-- a task of n jobs
abbrev jobs_like : ℕ → List ProblemJobData
jobs_like zero = []
jobs_like (suc n) = no_problem_job ∷ jobs_like n

length-jobs_like : (n : ℕ) → length (jobs_like n) ≡ n
length-jobs_like zero = refl
length-jobs_like (suc n) = ap suc (length-jobs_like n)

abbrev pub task_like : ℕ → ProblemData
task_like n = record {
  problem = plain_problem Single Cmax;
  machines = 1;
  jobs = jobs_like n;
  arcs = [];
}

pub jobs_in : (n : ℕ) → length (task_like n).jobs ≡ n
jobs_in n = length-jobs_like n

pub is_job : (n j : ℕ) → 1 ≤ j → j ≤ n → IsProblemJob (task_like n) j
is_job n j low high = (low, omega (arith, high, jobs_in n))

-- no mark
pub marks_start : (n : ℕ) (seen : List Bool) → seen ≡ replicate n false
    → AreMarks (task_like n) seen []
marks_start n seen is = record {
  len = ap length is ∙ length-replicate n false ∙ sym (jobs_in n);
  known = λ a d h. absurd (omega (arith, h));
  marked = λ c its.
      sym (ap (λ bs. as_one (get_or bs (c - 1) false)) is
      ∙ ap as_one (get_or-replicate n (c - 1) false false (omega (arith, its.0, its.1, jobs_in n))));
}

-- a job that is marked stands twice in the list, where it comes again
pub marked_twice : (k : ProblemData) (seen : List Bool) (jobs : List ℕ) (i x : ℕ)
    → i < length jobs → x ≡ get_or jobs i x → AreMarks k seen (take i jobs) → IsProblemJob k x
    → get_or seen (x - 1) false ≡ true → ¬ (IsDistinct jobs)
marked_twice k seen jobs i x lt is marks job old distinct =
    let more = sum_next (λ j. as_one (x == j)) jobs i x lt is in
    let here : as_one (x == x) ≡ 1 = ap as_one (eq-eqb x x refl) in
    let before : as_one (get_or seen (x - 1) false) ≡ 1 = ap as_one old in
    omega (
      arith,
      more,
      here,
      before,
      marks.marked x job,
      sum_by-take-le (λ j. as_one (x == j)) jobs (i + 1),
      distinct x,
    )
