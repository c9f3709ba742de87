use Rattle.std.proofs.Common.{◌∙◌}
use Rattle.tf_schedule.proofs.Passing.{fewer_left, endless_before}
use Rattle.tf_schedule.proofs.job_order.settle.Goals as goal

pub loop-smaller : goal.loop-smaller
loop-smaller c =
    fewer_left c.loop.ranks c.raise.new.ranks c.raise.ensures.len c.raise.ensures.small
    c.in-Raised.ensures.outcome

pub loop-preserved : goal.loop-preserved
loop-preserved c = record {
  len = c.raise.ensures.len ∙ c.loop.invariant.len;
  small = c.raise.ensures.small;
  below = λ place placed below.
      c.raise.ensures.below place placed (c.loop.invariant.below place placed below);
}

pub returns-in-Endless-clause-endless : goal.returns-in-Endless-clause-endless
returns-in-Endless-clause-endless c = λ _.
    endless_before c.args.pieces.now c.args.ranks.now c.loop.ranks c.loop.invariant.len
    c.loop.invariant.below c.in-Endless.ensures.outcome
