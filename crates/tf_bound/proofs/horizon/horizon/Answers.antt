use Rattle.std.proofs.Common.{◌≡◌, ◌+◌, max, ap, ◌∙◌, arith}
use Rattle.tf_posed.specs.ProblemData.{IsProblemJob, problem_release}
use Rattle.tf_problem.specs.ProblemBounds.{problem_work}
use Rattle.tf_bound.proofs.Sound.{released_more, released_within, work_within}
use Rattle.tf_model.proofs.Ranges.{sum_by-range_more}
use Rattle.tf_bound.proofs.horizon.horizon.Goals as goal

pub overflow_add-work : goal.overflow_add-work
overflow_add-work g c =
    let k = c.args.task.now in
    let place : c.at-job.result ≡ 1 + c.loop-k.k = omega (arith, c.at-job.ensures) in
    omega (
      arith,
      c.loop-k.invariant.work,
      c.loop-k.invariant.small,
      c.work-work.ensures.value,
      sum_by-range_more (problem_work k) 1 c.loop-k.k,
      ap (problem_work k) place,
      work_within k c.len-k-end.ensures.sized (c.loop-k.k + 1)
          (omega (arith, c.loop-k-test.true, c.len-k-end.ensures.value)),
    )

pub loop-k-preserved : goal.loop-k-preserved
loop-k-preserved g c =
    let k = c.args.task.now in
    let place : c.at-job.result ≡ 1 + c.loop-k.k = omega (arith, c.at-job.ensures) in
    let job : IsProblemJob k c.at-job.result = (
      omega (arith, place),
      omega (arith, place, c.loop-k-test.true, c.len-k-end.ensures.value),
    ) in
    record {
      last = c.max-last.ensures
          ∙ ap (λ x. max x c.release.result) c.loop-k.invariant.last
          ∙ omega (
            arith,
            c.release.ensures.value,
            released_more (problem_release k) c.loop-k.k c.at-job.result (omega (arith, place)),
          );
      work = omega (
        arith,
        c.loop-k.invariant.work,
        c.work-work.ensures.value,
        sum_by-range_more (problem_work k) 1 c.loop-k.k,
        ap (problem_work k) place,
      );
      small = omega (
        arith,
        c.max-last.ensures,
        c.loop-k.invariant.small,
        c.release.ensures.value,
        released_within k c.len-k-end.ensures.sized c.at-job.result job,
      );
    }

pub overflow_add-result : goal.overflow_add-result
overflow_add-result g c =
    let k = c.args.task.now in
    omega (
      arith,
      c.loop-k.invariant.small,
      c.loop-k.invariant.work,
      work_within k c.len-k-end.ensures.sized c.loop-k.k
          (omega (arith, c.loop-k.auto.k-end, c.len-k-end.ensures.value)),
    )

pub returns-clause-small : goal.returns-clause-small
returns-clause-small g c =
    let k = c.args.task.now in
    omega (
      arith,
      c.loop-k.invariant.small,
      c.loop-k.invariant.work,
      work_within k c.len-k-end.ensures.sized c.loop-k.k
          (omega (arith, c.loop-k.auto.k-end, c.len-k-end.ensures.value)),
    )
