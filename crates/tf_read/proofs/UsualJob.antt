-- The line of a job in its usual form.
use Rattle.std.proofs.Common.{◌≡◌, ◌≤◌, ℕ, true, false, ltb, List, ◌∷◌, codes, Some, Ok, refl, subst, ap, sym, ◌∙◌}
use Rattle.std.proofs.lemmas.Bool.{eq-eqb, le-ltb}
use Rattle.tf_words.specs.Number.{plain}
use Rattle.tf_words.specs.Words.{Line}
use Rattle.tf_model.specs.JobFields.{JobFields}
use Rattle.tf_model.specs.Limit.{most_jobs}
use Rattle.tf_read.specs.JobLine.{fields_at, no_fields}
use Rattle.tf_read.specs.JobTable.{is_arc, is_job_number, job_line}
use Rattle.tf_read.specs.NextJob.{BeginsWithJob}

abbrev line_of : ℕ → List (List ℕ) → Line
line_of n ws = record { number = n; words = ws }

-- a line `job k ..` is read as job k where its fields are
read_job : (k n : ℕ) (word : List ℕ) (more : List (List ℕ)) (job : JobFields)
    → plain most_jobs word ≡ Some k → k ≤ most_jobs → fields_at n no_fields more ≡ Ok job
    → job_line k (line_of n (codes "job" ∷ word ∷ more)) ≡ Ok job
unfolding job_line
read_job k n word more job number few fields =
    let below : ltb most_jobs k ≡ false = le-ltb most_jobs k few in
    let same : is_job_number k (plain most_jobs word) ≡ true =
    ap (is_job_number k) number ∙ eq-eqb k k refl in
    rw below (rw same fields)

-- such a line before others, as a text begins with it
pub usual_line : (k n : ℕ) (word : List ℕ) (ws after more : List (List ℕ)) (job : JobFields)
    (all others : List Line)
    → all ≡ record { number = n; words = ws } ∷ others
    → ws ≡ codes "job" ∷ after → after ≡ word ∷ more
    → plain most_jobs word ≡ Some k → k ≤ most_jobs → fields_at n no_fields more ≡ Ok job
    → BeginsWithJob k all job others
usual_line k n word ws after more job all others is key first number few fields =
    let whole : ws ≡ codes "job" ∷ word ∷ more = key ∙ ap (λ ts. codes "job" ∷ ts) first in
    record {
      line = line_of n ws;
      is = is;
      no_arc = subst (λ ts. is_arc (line_of n ts) ≡ false) (sym whole) refl;
      read = subst (λ ts. job_line k (line_of n ts) ≡ Ok job) (sym whole)
          (read_job k n word more job number few fields);
    }
