use Rattle.std.proofs.Common.{◌+◌, ap, ◌∙◌, arith}
use Rattle.tf_model.specs.SchedulingTask.{JobData}
use Rattle.tf_check.proofs.RatioRank.{max_both, greatest_more, scale_from}
use Rattle.tf_check.proofs.ratio.scale_of.Goals as goal

pub loop-k-init : goal.loop-k-init
loop-k-init g c = record {
  weights = λ j low high. absurd (omega (arith, low, high));
  times = λ j low high. absurd (omega (arith, low, high));
}

pub loop-k-preserved : goal.loop-k-preserved
loop-k-preserved g c =
    greatest_more c.args.task.now c.loop-k.k c.loop-k.weight c.loop-k.time c.at.result
    c.max-weight.result c.max-time.result c.loop-k.invariant c.at.ensures
    (max_both c.loop-k.weight _ _ _ c.max-weight.ensures
    (ap (λ (r : JobData). r.weight) (c.row.view_is ∙ c.job-row.ensures.value)))
    (max_both c.loop-k.time _ _ _ c.max-time.ensures
    (c.time.ensures ∙ ap (λ (r : JobData). r.first + r.second) c.job-row.ensures.value))

pub returns-then-branch-lt-LAST : goal.returns-then-branch-lt-LAST
returns-then-branch-lt-LAST g c =
    scale_from c.args.task.now c.loop-k.k c.loop-k.weight c.loop-k.time c.in_ok-scale.scale
    c.loop-k.invariant
    (omega (arith, c.loop-k.auto.k-end, c.loop-k-test.false, c.len-k-end.ensures.value))
    c.in_ok-scale.ensures.1
    (omega (arith, c.in_ok-checked_mul.ensures.1, c.if-branch-lt-LAST.true))
