-- The first job that passes a test, and whether one does.
use Rattle.std.proofs.Common.{◌≡◌, ℕ, ◌+◌, ◌-◌, ◌≤◌, ◌<◌, Bool, true, false, length, Some, None, option_map, sym, ap, subst, ⊎_elim, ◌∙◌, arith}
use Rattle.std.proofs.lemmas.Bool.{cases_lt}
use Rattle.std.specs.List.{list_any}
use Rattle.std.proofs.lemmas.List.Folds.{list_any_at, list_any_none}
use Rattle.std.proofs.lemmas.List.FromFn.{length-range_with_len, get_or-range_with_len}
use Rattle.tf_posed.specs.ProblemData.{ProblemData, IsProblemJob, problem_jobs}
use Rattle.tf_posed.proofs.Conditions.{All-problem_jobs}
use Rattle.tf_check.proofs.Found.{find_range, find_none}
use Rattle.tf_bound.specs.Faulted.{first_job}
use Rattle.tf_bound.specs.declared.fault.BoundFault.TheVariants.{Condition}

-- one job more
pub up_to_more : (P : ℕ → Type 0) (n j : ℕ) → j ≡ n + 1 → ((i : ℕ) → 1 ≤ i → i ≤ n → P i) → P j
    → (i : ℕ) → 1 ≤ i → i ≤ n + 1 → P i
up_to_more P n j is before here i low high =
    ⊎_elim (λ last. let same : j ≡ i = omega arith in subst P same here)
    (λ early. before i low early) (cases_lt n i)

module _ (k : ProblemData) (p : ℕ → Bool) where
  -- job j passes, and none before it
  pub first_found : (j : ℕ) → IsProblemJob k j → ((i : ℕ) → 1 ≤ i → i < j → p i ≡ false)
      → p j ≡ true → first_job k p ≡ Some (Condition j)
  first_found j job before here =
      let at : 1 + (j - 1) ≡ j = omega (arith, job.0) in
      ap (λ o. option_map Condition o)
      (find_range p 1 (length k.jobs) (j - 1) (omega (arith, job.0, job.1))
      (λ i low high. before i low (omega (arith, at))) (subst (λ m. p m ≡ true) (sym at) here)
      ∙ ap (λ (m : ℕ). Some m) at)

  pub none_found : ((j : ℕ) → IsProblemJob k j → p j ≡ false) → first_job k p ≡ None
  none_found none =
      ap (λ o. option_map Condition o)
      (find_none p (problem_jobs k) (All-problem_jobs k (λ j. p j ≡ false) none))

  pub any_found : (j : ℕ) → IsProblemJob k j → p j ≡ true → list_any p (problem_jobs k) ≡ true
  any_found j job here =
      list_any_at p (problem_jobs k) (j - 1) j
      (omega (arith, job.0, job.1, length-range_with_len 1 (length k.jobs)))
      (subst (λ m. p m ≡ true)
      (sym (get_or-range_with_len 1 (length k.jobs) (j - 1) j (omega (arith, job.0, job.1))
      ∙ omega (arith, job.0))) here)

  pub no_found : ((j : ℕ) → IsProblemJob k j → p j ≡ false) → list_any p (problem_jobs k) ≡ false
  no_found none = list_any_none p (problem_jobs k) (All-problem_jobs k (λ j. p j ≡ false) none)
