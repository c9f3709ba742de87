use Rattle.std.proofs.Common.{◌≡◌, ◌+◌, ◌-◌, true, false, not, set, take, get_or, refl, sym, ap, ◌∙◌, subst, arith}
use Rattle.std.proofs.lemmas.List.{get_or_default}
use Rattle.std.proofs.Math.Seq.{take_all}
use Rattle.tf_model.specs.Bounds.{stands_in}
use Rattle.tf_model.specs.SchedulingTask.{IsJob}
use Rattle.tf_check.specs.Free.{AreMarks}
use Rattle.tf_check.proofs.JobLists.{marks_more}
use Rattle.tf_single.proofs.Ranges.{filter_range_keeps, filter_range_skips}
use Rattle.tf_single.proofs.lawler.left_jobs.Goals as goal
use Rattle.tf_single.proofs.lawler.left_jobs.Goals.{then-not-index+in_ok-push, else-not-index}

pub index_mut-requires : goal.index_mut-requires
index_mut-requires g c =
    let known : IsJob c.args.task.now c.job-item.result =
    subst (IsJob c.args.task.now) (sym c.job-item.is)
    (c.requires c.loop-job.job-index c.job-item.result c.loop-job-test.true) in
    omega (
      arith,
      known.0,
      known.1,
      c.place.ensures.value,
      c.loop-job.invariant.len,
      c.loop-job.is_taken.ok.0,
    )

pub loop-job-preserved : goal.loop-job-preserved
loop-job-preserved g c =
    let task = c.args.task.now in
    let taken = c.args.taken.now in
    let i = c.loop-job.job-index in
    let known : IsJob task c.job-item.result = subst (IsJob task) (sym c.job-item.is)
    (c.requires i c.job-item.result c.loop-job-test.true) in
    subst (λ n. AreMarks task (set c.loop-job.is_taken.items n true) (take (i + 1) taken))
    (sym c.place.ensures.value)
    (marks_more task taken i c.job-item.result c.loop-job-test.true c.job-item.is known
    c.loop-job.is_taken.items c.loop-job.invariant)

pub loop-k-preserved : goal.loop-k-preserved
loop-k-preserved g c =
    let task = c.args.task.now in
    let taken = c.args.taken.now in
    let marks = c.loop-job.is_taken.items in
    let k = c.loop-k.k in
    let job : IsJob task (k + 1) = (
      omega arith,
      omega (arith, c.loop-k-test.true, c.len-k-end.ensures.value),
    ) in
    let back : k ≡ k + 1 - 1 = omega arith in
    let marked : c.index.result.now ≡ stands_in taken (k + 1) = c.index.ensures
    ∙ get_or_default marks k c.index.result.now false
    (omega (arith, c.loop-job.invariant.len, c.loop-k-test.true, c.len-k-end.ensures.value))
    ∙ ap (λ n. get_or marks n false) back ∙ c.loop-job.invariant.marked (k + 1) job
    ∙ ap (λ js. stands_in js (k + 1))
    (take_all c.loop-job.job-index taken (omega (arith, c.loop-job-test.false))) in
    elim c.if-not-index.branch [
      | then-not-index+in_ok-push w ↦ rw (w.left-is, w.in_ok-push.ensures.items)
          (filter_range_keeps (λ j. not (stands_in taken j)) k _ _ w.at.ensures
          (ap (λ j. not (stands_in taken j)) w.at.ensures ∙ ap not (sym marked ∙ w.if-not-index.true))
          c.loop-k.invariant)
      | else-not-index w ↦ rw w.left-is
          (filter_range_skips (λ j. not (stands_in taken j)) k (k + 1) _ refl
          (ap not (sym marked ∙ w.if-not-index.false)) c.loop-k.invariant)
    ]
