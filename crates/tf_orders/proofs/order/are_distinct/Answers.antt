use Rattle.std.proofs.Common.{◌≡◌, ℕ, ◌≤◌, true, false, get_or, take, refl, sym, ap, subst, ◌∙◌, arith}
use Rattle.std.proofs.lemmas.List.{take_all, get_or_default}
use Rattle.tf_model.specs.Distinct.{IsDistinct}
use Rattle.tf_bound.proofs.Marks.{distinct}
use Rattle.tf_orders.proofs.Distinct.{task_like, jobs_in, is_job, marks_start, marked_twice}
use Rattle.tf_orders.proofs.order.are_distinct.Goals as goal

pub loop-job-init : goal.loop-job-init
loop-job-init g c =
    marks_start c.args.count _ (c.in_ok-seen.ensures.items_if_clones_equal (λ y e. e))

pub returns-then-index : goal.returns-then-index
returns-then-index g c =
    let jobs = c.args.jobs.now in
    let i = c.loop-job.job-index in
    let x : ℕ = c.job-item.result in
    let seen = c.loop-job.seen.items in
    let known : (1 ≤ x) × (x ≤ c.args.count) =
    subst (λ (j : ℕ). (1 ≤ j) × (j ≤ c.args.count)) (sym c.job-item.is)
    (c.requires i x c.loop-job-test.true) in
    let unmarked : get_or seen c.place-place.result false ≡ true =
    get_or_default seen c.place-place.result false c.index.result.now
    (omega (
      arith,
      c.place-place.ensures.value,
      known.0,
      known.1,
      c.loop-job.invariant.len,
      jobs_in c.args.count,
    ))
    ∙ sym c.index.ensures ∙ c.if-index.true in (
      λ test. cc,
      λ once. absurd (marked_twice (task_like c.args.count) seen jobs i x c.loop-job-test.true
          c.job-item.is c.loop-job.invariant (is_job c.args.count x known.0 known.1)
          (ap (λ n. get_or seen n false) (sym c.place-place.ensures.value) ∙ unmarked) once),
    )

pub returns : goal.returns
returns g c =
    let jobs = c.args.jobs.now in (
      λ test. subst IsDistinct (take_all c.loop-job.job-index jobs c.loop-job-test.false)
          (distinct (task_like c.args.count) c.loop-job.seen.items
          (take c.loop-job.job-index jobs) c.loop-job.invariant),
      λ once. refl,
    )
