use Rattle.std.proofs.Common.{arith}
use Rattle.tf_held.proofs.Again.{behind_parts, count_within, jobs_within}
use Rattle.tf_held.proofs.series.behind.Goals as goal

pub overflow_mul-count : goal.overflow_mul-count
overflow_mul-count c =
    rw c.from.ensures (omega (
      arith,
      jobs_within c.in-Wt.jobs c.args.instance.now c.args.number
          (rw c.in-Wt.is at c.requires.there (c.is_named_apart.ensures c.if-not-is_named_apart.false)),
    ))

pub overflow_mul-count-2 : goal.overflow_mul-count-2
overflow_mul-count-2 c =
    rw (c.from.ensures, c.from-2.ensures) (omega (
      arith,
      count_within c.in-Wt.jobs c.args.instance.now c.args.number
          (rw c.in-Wt.is at c.requires.there (c.is_named_apart.ensures c.if-not-is_named_apart.false))
          c.ranges.number.fits,
    ))

pub returns-in-Some : goal.returns-in-Some
returns-in-Some c =
    rw c.in-Wt.is (behind_parts c.in-Wt.jobs c.args.instance.now _ _ c.args.number
    (rw c.in-Wt.is at c.requires.there (c.is_named_apart.ensures c.if-not-is_named_apart.false))
    (rw (c.in-Wt.is, c.in-Some.is) at c.requires.parts))
