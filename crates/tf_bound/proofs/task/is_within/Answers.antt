use Rattle.std.proofs.Common.{◌+◌, ◌≤◌, refl, sym, ap, subst, arith}
use Rattle.std.proofs.lemmas.Bool.{false≢true}
use Rattle.tf_model.specs.Limit.{limit}
use Rattle.tf_posed.specs.ProblemData.{ProblemJobData}
use Rattle.tf_bound.proofs.Steps.{all_next, all_whole}
use Rattle.tf_bound.proofs.task.is_within.Goals as goal

pub loop-job-preserved : goal.loop-job-preserved
loop-job-preserved g c =
    all_next (λ (x : ProblemJobData). x.release + c.args.all ≤ limit) c.args.jobs.now
    c.loop-job.job-index c.job-item.result c.loop-job-test.true c.job-item.is c.loop-job.invariant
    (omega (arith, ap (λ (x : ProblemJobData). x.release) c.job.view_is, c.if-job-last.false))

pub returns : goal.returns
returns g c = (
  λ _.
      all_whole (λ (x : ProblemJobData). x.release + c.args.all ≤ limit) c.args.jobs.now
      c.loop-job.job-index c.loop-job-test.false c.loop-job.invariant,
  λ _. refl,
)

pub overflow_sub-last : goal.overflow_sub-last
overflow_sub-last g c = omega (arith, c.requires)

pub returns-then-job-last : goal.returns-then-job-last
returns-then-job-last g c = (
  λ is. absurd (false≢true is),
  λ all. absurd (omega (
    arith,
    subst (λ (x : ProblemJobData). x.release + c.args.all ≤ limit) (sym c.job-item.is)
        (all c.loop-job.job-index c.job-item.result c.loop-job-test.true),
    ap (λ (x : ProblemJobData). x.release) c.job.view_is,
    c.if-job-last.true,
  )),
)
