use Rattle.std.proofs.Common.{◌+◌, ◌∙◌, arith}
use Rattle.tf_evaluate.proofs.SumParts.{own_more, own_within}
use Rattle.tf_evaluate.proofs.arithmetic.own_times.Goals as goal

pub overflow_add-own : goal.overflow_add-own
overflow_add-own g c =
    omega (
      arith,
      own_more c.args.task.now c.loop-k.own c.loop-k.k c.at-job.result c.from.result
          c.from-in-loop-k.result c.loop-k.invariant c.at-job.ensures
          (c.from.ensures ∙ c.weight.ensures) (c.from-in-loop-k.ensures ∙ c.time.ensures.value),
      own_within c.args.task.now (c.loop-k.k + 1) (omega arith),
      c.requires.small,
    )

pub loop-k-preserved : goal.loop-k-preserved
loop-k-preserved g c =
    own_more c.args.task.now c.loop-k.own c.loop-k.k c.at-job.result c.from.result
    c.from-in-loop-k.result c.loop-k.invariant c.at-job.ensures
    (c.from.ensures ∙ c.weight.ensures) (c.from-in-loop-k.ensures ∙ c.time.ensures.value)
