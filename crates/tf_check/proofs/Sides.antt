-- The two sides of a split, job by job.
use Rattle.std.proofs.Common.{◌≡◌, ℕ, zero, suc, ◌+◌, ◌-◌, ◌≤◌, ◌<◌, Bool, true, false, cond, List, [], ◌∷◌, length, Some, None, refl, sym, ap, subst, ◌∙◌, sum_by, All, arith}
use Rattle.std.specs.List.{find, list_any, range_with_len}
use Rattle.std.proofs.lemmas.List.Elements.{All-tail}
use Rattle.std.proofs.lemmas.List.Folds.{list_any_at, list_any_none}
use Rattle.std.proofs.lemmas.List.FromFn.{length-range_with_len, get_or-range_with_len}
use Rattle.tf_model.specs.Bounds.{stands_in}
use Rattle.tf_model.specs.Limit.{limit}
use Rattle.tf_model.specs.SchedulingTask.{SchedulingTask, IsJob, all_jobs, time_of, time_on}
use Rattle.tf_model.specs.Sound.{IsSound}
use Rattle.tf_check.specs.Sides.{counted}
use Rattle.tf_model.proofs.Costs.{All-all_jobs}
use Rattle.tf_model.proofs.Ranges.{sum_by-range_more}
use Rattle.tf_model.proofs.Sums.{sum_by_le_all}
use Rattle.tf_model.proofs.Totals.{total_within}
use Rattle.tf_check.proofs.Found.{find_range, find_none}

-- ---- the first job that passes a test, and whether one does

module _ (k : SchedulingTask) (p : ℕ → Bool) where
  -- job j passes, and none before it
  pub first_found : (j : ℕ) → IsJob k j → ((i : ℕ) → 1 ≤ i → i < j → p i ≡ false) → p j ≡ true
      → find p (all_jobs k) ≡ Some j
  first_found j job before here =
      let at : 1 + (j - 1) ≡ j = omega (arith, job.0) in
      find_range p 1 (length k.jobs) (j - 1) (omega (arith, job.0, job.1))
      (λ i low high. before i low (omega (arith, at))) (subst (λ m. p m ≡ true) (sym at) here)
      ∙ ap (λ (m : ℕ). Some m) at

  pub none_found : ((j : ℕ) → IsJob k j → p j ≡ false) → find p (all_jobs k) ≡ None
  none_found none = find_none p (all_jobs k) (All-all_jobs k (λ j. p j ≡ false) none)

  pub any_found : (j : ℕ) → IsJob k j → p j ≡ true → list_any p (all_jobs k) ≡ true
  any_found j job here =
      list_any_at p (all_jobs k) (j - 1) j
      (omega (arith, job.0, job.1, length-range_with_len 1 (length k.jobs)))
      (subst (λ m. p m ≡ true)
      (sym (get_or-range_with_len 1 (length k.jobs) (j - 1) j (omega (arith, job.0, job.1))
      ∙ omega (arith, job.0))) here)

  pub no_found : ((j : ℕ) → IsJob k j → p j ≡ false) → list_any p (all_jobs k) ≡ false
  no_found none = list_any_none p (all_jobs k) (All-all_jobs k (λ j. p j ≡ false) none)

-- ---- the running total

module _ (k : SchedulingTask) (side : List ℕ) where
  counted_within : (j : ℕ) → counted k side j ≤ time_of k j
  counted_within j = by_test (stands_in side j)
    where
      by_test : (t : Bool) → cond t (time_on k j 0) (time_on k j 1) ≤ time_of k j
      by_test true = omega arith
      by_test false = omega arith

  -- with the time of the next job
  pub counted_more : (work n time : ℕ) → work ≡ sum_by (counted k side) (range_with_len 1 n)
      → time ≡ counted k side (n + 1)
      → work + time ≡ sum_by (counted k side) (range_with_len 1 (n + 1))
  counted_more work n time so_far next =
      let same : counted k side (n + 1) ≡ counted k side (1 + n) =
      ap (counted k side) (omega arith) in
      omega (arith, sum_by-range_more (counted k side) 1 n, same)

  -- the time of the first n jobs is within the limit
  pub counted_limit : (n : ℕ) → IsSound k → n ≤ length k.jobs
      → sum_by (counted k side) (range_with_len 1 n) ≤ limit
  counted_limit n sound h = omega (
    arith,
    sum_by_le_all (counted k side) (time_of k) (range_with_len 1 n) (λ _ d _. counted_within _),
    total_within k sound n h,
  )
