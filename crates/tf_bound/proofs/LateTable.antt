-- The table of the least weight that is lost, filled in from the last job to the first.
use Rattle.std.proofs.Common.{◌≡◌, ℕ, ◌+◌, ◌-◌, ◌≤◌, ◌<◌, List, ◌++◌, length, ◌∷◌, subst, get_or, slice_index, take, drop, sum_by, sym, ap, ◌∙◌, arith}
use Rattle.std.proofs.lemmas.List.{append-nil, drop_all, drop_more, take_all}
use Rattle.std.proofs.lemmas.List.Sums.{sum_by_more, sum_by-drop_more, sum_by-take-drop}
use Rattle.tf_problem.specs.Kept.{least_choice, least_late}
use Rattle.tf_problem.proofs.KeptWeight.{least-le-all}

-- the entries up to n are with the job, and the others as they were
pub record IsChosen (time weight room n : ℕ) (old new : List ℕ) : Type 0 where
  pub len : length new ≡ length old
  pub done : (t : ℕ) → t < n → slice_index new t
      ≡ least_choice time weight room t (slice_index old t) (slice_index old (t + time))
  pub rest : (t : ℕ) → n ≤ t → slice_index new t ≡ slice_index old t

-- the first entries of the next table are with the job, by those of the old one
abbrev pub IsNext : ℕ → ℕ → ℕ → ℕ → List ℕ → List ℕ → Type 0
IsNext last time weight room old next =
    (t : ℕ) → t < (last - time) + 1 → slice_index next t
    ≡ least_choice time weight room t (slice_index old t) (slice_index old (t + time))

module _ (p w room : ℕ → ℕ) (jobs : List ℕ) where
  -- the first entries are what the jobs from place i on lose, up to the time of those before
  pub record IsTable (i last : ℕ) (table : List ℕ) : Type 0 where
    pub left : last ≡ sum_by p (take i jobs)
    pub at : (t : ℕ) → t ≤ last → slice_index table t ≡ least_late p w room (drop i jobs) t

  -- the entries with the weight of one job more are within the weight of all jobs
  pub table-small : (i x last : ℕ) (table : List ℕ) → i < length jobs → x ≡ get_or jobs i x
      → IsTable (i + 1) last table → (t : ℕ) → t ≤ last → w x + slice_index table t ≤ sum_by w jobs
  table-small i x last table lt is old t le =
      omega (
        arith,
        old.at t le,
        least-le-all p w room (drop (i + 1) jobs) t,
        ap w is,
        sum_by-drop_more w jobs i x lt,
        sum_by-take-drop w jobs i,
      )

  pub table-left : (i x last : ℕ) (table : List ℕ) → i < length jobs → x ≡ get_or jobs i x
      → IsTable (i + 1) last table → last ≡ sum_by p (take i jobs) + p x
  table-left i x last table lt is old =
      omega (arith, old.left, sum_by_more p jobs i x lt, ap p is)

  pub table-more : (i x last : ℕ) (table next : List ℕ) → i < length jobs → x ≡ get_or jobs i x
      → IsTable (i + 1) last table
      → IsNext last (p x) (w x) (room x) table next
      → IsTable i (last - p x) next
  table-more i x last table next lt is old chosen = record {
    left = omega (arith, table-left i x last table lt is old);
    at = λ t le.
        let few = table-left i x last table lt is old in
        chosen t (omega (arith, le))
        ∙ ap (λ y. least_choice (p x) (w x) (room x) t y (slice_index table (t + p x))) (old.at t (omega (arith, le)))
        ∙ ap (λ y. least_choice (p x) (w x) (room x) t (least_late p w room (drop (i + 1) jobs) t) y)
        (old.at (t + p x) (omega (arith, le, few)))
        ∙ ap (λ j. least_late p w room (j ∷ drop (i + 1) jobs) t) is
        ∙ sym (ap (λ js. least_late p w room js t) (drop_more jobs i x lt));
  }

  -- the same in the order in which the jobs are gone through, the last one first
  pub back-small : (done x last : ℕ) (table : List ℕ) → done < length jobs
      → x ≡ get_or jobs (length jobs - 1 - done) x → IsTable (length jobs - done) last table
      → (t : ℕ) → t ≤ last → w x + slice_index table t ≤ sum_by w jobs
  back-small done x last table lt is old =
      table-small (length jobs - 1 - done) x last table (omega (arith, lt)) is
      (subst (λ i. IsTable i last table) (omega (arith, lt)) old)

  pub back-more : (done x last : ℕ) (table next : List ℕ) → done < length jobs
      → x ≡ get_or jobs (length jobs - 1 - done) x → IsTable (length jobs - done) last table
      → IsNext last (p x) (w x) (room x) table next
      → IsTable (length jobs - (done + 1)) (last - p x) next
  back-more done x last table next lt is old chosen =
      subst (λ i. IsTable i (last - p x) next) (before (length jobs) done lt)
      (table-more (length jobs - 1 - done) x last table next (omega (arith, lt)) is
      (subst (λ i. IsTable i last table) (behind (length jobs) done lt) old) chosen)
    where
      before : (n d : ℕ) → d < n → n - 1 - d ≡ n - (d + 1)
      before n d lt = omega arith

      behind : (n d : ℕ) → d < n → n - d ≡ n - 1 - d + 1
      behind n d lt = omega arith

-- a slice that was written in place of a whole vector
pub written : (n : ℕ) (new old : List ℕ) → length new ≡ n → length old ≡ n
    → take n (new ++ drop (length new) old) ≡ new
written n new old is was =
    ap (λ xs. take n (new ++ xs)) (drop_all (length new) old (omega (arith, is, was)))
    ∙ ap (take n) (append-nil new) ∙ take_all n new (omega (arith, is))
