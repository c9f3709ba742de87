-- The totals of jobs that come one by one.
use Rattle.std.proofs.Common.{◌≡◌, ℕ, ◌+◌, max, List, [], ◌∷◌, ◌++◌, length-append, map, ap, ◌∙◌, arith}
use Rattle.std.proofs.lemmas.List.{map_push}
use Rattle.std.proofs.lemmas.List.Sums.{sum_by-append}
use Rattle.tf_model.specs.declared.job_totals.JobTotals.{JobTotals}
use Rattle.tf_model.specs.Prepare.{greatest_of}
use Rattle.tf_model.specs.SchedulingTask.{JobData}
use Rattle.tf_model.specs.Summed.{HasSummed}

-- the greatest with one more
greatest_of-push : (xs : List ℕ) (x : ℕ) → greatest_of (xs ++ x ∷ []) ≡ max (greatest_of xs) x
greatest_of-push [] x = omega arith
greatest_of-push (y ∷ xs) x = omega (arith, greatest_of-push xs x)

-- the last release date with one job more
last-push : (rows : List JobData) (row : JobData)
    → greatest_of (map (λ (job : JobData). job.release) (rows ++ row ∷ []))
    ≡ max (greatest_of (map (λ (job : JobData). job.release) rows)) row.release
last-push rows row =
    ap greatest_of (map_push (λ (job : JobData). job.release) rows row)
    ∙ greatest_of-push (map (λ (job : JobData). job.release) rows) row.release

-- the totals with one job more
pub summed_more : (totals after : JobTotals) (rows : List JobData) (row : JobData)
    → HasSummed totals rows
    → after.jobs ≡ totals.jobs + 1
    → after.work ≡ totals.work + row.first + row.second
    → after.weight ≡ totals.weight + row.weight
    → after.last_release ≡ max totals.last_release row.release
    → HasSummed after (rows ++ row ∷ [])
summed_more totals after rows row had jobs work weight last = record {
  count = omega (arith, jobs, had.count, length-append rows (row ∷ []));
  work = omega (
    arith,
    work,
    had.work,
    sum_by-append (λ (job : JobData). job.first + job.second) rows (row ∷ []),
  );
  weight = omega (
    arith,
    weight,
    had.weight,
    sum_by-append (λ (job : JobData). job.weight) rows (row ∷ []),
  );
  last_release = omega (arith, last, had.last_release, last-push rows row);
}
