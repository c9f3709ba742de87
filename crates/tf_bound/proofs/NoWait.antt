-- What it says of a task and its potentials that no condition is broken.
use Rattle.std.proofs.Common.{◌≡◌, ◌≢◌, Bool, true, false, not, ◌&&◌, ◌||◌, ◌==◌, ℕ, ◌≤◌, ◌<◌, List, get_or, int_lt, sym, ap, ◌∙◌, ⊎_elim, arith, ℤ, pos, ◌+ℤ◌, ◌-ℤ◌, ◌≤ℤ◌, IsTrue, IsFalse}
use Rattle.std.specs.List.{list_any}
use Rattle.std.proofs.lemmas.Int.{ints}
use Rattle.std.proofs.lemmas.Bool.{false≢true, eq-eqb, ne_eqb, cases_lt, cases_Bool}
use Rattle.std.proofs.lemmas.List.Folds.{list_any_at}
use Rattle.tf_model.specs.ClassTable.{is_flow_env}
use Rattle.tf_posed.specs.ProblemData.{ProblemData, IsProblemJob, problem_job, problem_jobs, problem_release, problem_due, problem_time_on}
use Rattle.tf_problem.specs.ProblemBounds.{problem_work}
use Rattle.tf_problem.specs.Potentials.{potential_of_end, potential_after, potential_before, start_delay, ArePotentials, HaveTimeOnAll}
use Rattle.tf_bound.specs.Sized.{IsSized}
use Rattle.tf_bound.specs.Faulted.{is_partial, is_at_odds, begins_late, ends_late, is_excessive}
use Rattle.tf_bound.proofs.Firsts.{any_found}
use Rattle.tf_bound.proofs.Routes.{flow_times}

-- neither of two conditions holds
or_left-false : (a b : Bool) → (a || b) ≡ false → a ≡ false
or_left-false true b h = h
or_left-false false b h = cc

or_right-false : (a b : Bool) → (a || b) ≡ false → b ≡ false
or_right-false true b h = absurd (false≢true (sym h))
or_right-false false b h = h

not_below : (a b : ℤ) → int_lt a b ≡ false → b ≤ℤ a
not_below a b h = grind (arith, ints)

-- a job that is not partial has time on each machine
pub timed : (k : ProblemData) → IsSized k → IsTrue (is_flow_env k.problem.env)
    → ((j : ℕ) → IsProblemJob k j → IsFalse (is_partial k j)) → HaveTimeOnAll k
timed k sized flow whole j job a in' =
    ⊎_elim
    (λ less.
    absurd
    (false≢true
    (sym (whole j job)
    ∙ list_any_at (λ t. t == 0) (problem_job k j).times a 0
    (omega (arith, in', flow_times k sized flow j job))
    (eq-eqb (get_or (problem_job k j).times a 0) 0 (omega (arith, less))))))
    (λ some. some)
    (cases_lt (problem_time_on k j a) 1)

-- whether any other job is at odds with it
abbrev odds : ProblemData → List ℤ → ℕ → Bool
odds k p j = list_any (is_at_odds k p j) (problem_jobs k)

-- whether two are beyond their delay
abbrev beyond : ProblemData → List ℤ → ℕ → ℕ → Bool
beyond k p i j = int_lt (pos (start_delay k i j)) (potential_after p i +ℤ potential_before p j)

-- two jobs that are not at odds are within their delay
even : (k : ProblemData) (p : List ℤ) (i j : ℕ) → IsProblemJob k j → i ≢ j → odds k p i ≡ false
    → beyond k p i j ≡ false
even k p i j job apart none =
    ⊎_elim
    (λ odd.
    absurd
    (false≢true
    (sym none
    ∙ any_found k (is_at_odds k p i) j job
    (ap (λ b. not b && beyond k p i j) (ne_eqb i j apart) ∙ odd))))
    (λ within. within)
    (cases_Bool (beyond k p i j))

-- numbers of which none is too large are potentials
pub potentials : (k : ProblemData) (p : List ℤ)
    → ((j : ℕ) → IsProblemJob k j → IsFalse (is_excessive k p j)) → ArePotentials k p
potentials k p small = record {
  by_release = λ j job.
      not_below (pos (problem_release k j)) (potential_before p j)
      (or_left-false (begins_late k p j) (ends_late k p j)
      (or_left-false (begins_late k p j || ends_late k p j) (odds k p j) (small j job)));
  by_end = λ j job.
      not_below (pos (problem_work k j) -ℤ problem_due k j) (potential_after p j +ℤ potential_of_end p)
      (or_right-false (begins_late k p j) (ends_late k p j)
      (or_left-false (begins_late k p j || ends_late k p j) (odds k p j) (small j job)));
  between = λ i j job_i job_j apart.
      not_below (pos (start_delay k i j)) (potential_after p i +ℤ potential_before p j)
      (even k p i j job_j apart
      (or_right-false (begins_late k p i || ends_late k p i) (odds k p i) (small i job_i)));
}
