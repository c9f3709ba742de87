use Rattle.std.proofs.Common.{◌≡◌, ◌==◌, ◌+◌, ◌-◌, ◌<◌, ℕ, Bool, List, [], ◌∷◌, filter, length, get_or, slice_index_or, refl, sym, ap, ◌∙◌, subst, arith}
use Rattle.std.specs.List.{range_with_len}
use Rattle.std.specs.List.Sorted.{IsPermutation}
use Rattle.std.proofs.lemmas.Bool.{eq-eqb, ne_eqb}
use Rattle.std.proofs.lemmas.List.{get_or_default}
use Rattle.std.proofs.lemmas.List.Sorted.{IsPermutation-refl, IsPermutation-push_more}
use Rattle.tf_model.specs.SchedulingTask.{SchedulingTask, all_jobs}
use Rattle.tf_single.specs.Open.{IsOpen}
use Rattle.tf_single.specs.Progress.{of_job}
use Rattle.tf_single.proofs.Open.{open_start, open_moved}
use Rattle.tf_single.proofs.Ranges.{filter_range_keeps, filter_range_skips}
use Rattle.tf_single.proofs.Taking.{none_chosen, work_at_start}
use Rattle.tf_single.proofs.backward.Open.new.Goals as goal
use Rattle.tf_single.proofs.backward.Open.new.Goals.{then-index-eq0+in_ok-add, else-index-eq0}

-- what the place says of the job
count_at : (counts : List ℕ) (n x : ℕ) → n < length counts → x ≡ slice_index_or counts n x
    → of_job counts (n + 1) ≡ x
count_at counts n x lt is =
    ap (λ m. get_or counts m 0) (back n) ∙ sym (is ∙ get_or_default counts n x 0 lt)
  where
    back : (n : ℕ) → n + 1 - 1 ≡ n
    back n = omega arith

pub loop-k-init : goal.loop-k-init
loop-k-init g c = record {
  jobs = subst (IsPermutation []) (sym c.requires.none) (IsPermutation-refl []);
  kept = c.requires.kept;
}

pub loop-k-preserved : goal.loop-k-preserved
loop-k-preserved g c =
    let counts : List ℕ = c.args.counts.items in
    let n : ℕ = c.loop-k.k in
    let free : List ℕ = g.F.FreeJobs.jobs_of c.loop-k.free in
    let p : ℕ → Bool = λ j. of_job counts j == 0 in
    let at : of_job counts (n + 1) ≡ c.index.result.now = count_at counts n c.index.result.now
    (omega (arith, c.loop-k-test.true, c.requires.counts.len, c.len-k-end.ensures.value))
    c.index.ensures in
    elim c.if-index-eq0.branch [
      | then-index-eq0+in_ok-add w ↦
          let more : List ℕ = g.F.FreeJobs.jobs_of w.add.new.self in
          rw w.free-is
          (record {
            jobs = subst (λ xs. IsPermutation xs more)
                (filter_range_keeps p n (n + 1) (filter p (range_with_len 1 n)) refl
                (eq-eqb (of_job counts (n + 1)) 0 (at ∙ w.if-index-eq0.true)) refl)
                (IsPermutation-push_more (filter p (range_with_len 1 n)) free more (n + 1)
                c.loop-k.invariant.jobs
                (subst (λ j. IsPermutation (j ∷ free) more) w.at.ensures
                w.in_ok-add.ensures.jobs));
            kept = λ work le. w.in_ok-add.ensures.kept work (c.loop-k.invariant.kept work le);
          })
      | else-index-eq0 w ↦
          rw w.free-is
          (record {
            jobs = subst (λ xs. IsPermutation xs free)
                (filter_range_skips p n (n + 1) (filter p (range_with_len 1 n)) refl
                (ne_eqb (of_job counts (n + 1)) 0
                (λ e. w.if-index-eq0.false (sym at ∙ e))) refl)
                c.loop-k.invariant.jobs;
            kept = c.loop-k.invariant.kept;
          })
    ]

pub returns-clause-now : goal.returns-clause-now
returns-clause-now g c =
    let k : SchedulingTask = c.args.task.now in
    let counts : List ℕ = c.args.counts.items in
    let free : List ℕ = g.F.FreeJobs.jobs_of c.loop-k.free in
    let all : c.loop-k.k ≡ length k.jobs =
    omega (arith, c.len-k-end.ensures.value, c.loop-k-test.false, c.loop-k.auto.k-end) in
    let start : IsOpen k [] (λ _. 0) counts free =
    open_moved k [] (λ _. 0) counts (filter (λ j. of_job counts j == 0) (all_jobs k)) free
    (open_start k counts c.requires.counts)
    (subst (λ n. IsPermutation (filter (λ j. of_job counts j == 0) (range_with_len 1 n)) free) all
    c.loop-k.invariant.jobs) in
    rw c.requires.taken
    (record {
      chosen = none_chosen k;
      now = start;
      left = c.total_time.ensures.value ∙ work_at_start k;
    })
