use Rattle.std.proofs.Common.{ℕ, ◌+◌, ◌*◌, ◌≤◌, ◌<◌, arith, mul-le-mul_left}
use Rattle.tf_model.specs.Limit.{limit}
use Rattle.tf_bound.proofs.alike.crowd_span.Goals as goal

-- more than h jobs of such a time, one after another
few_steps : (h time : ℕ) → h < 4294967296 → time ≤ limit → (h + 1) * time ≤ 4294967296 * limit
few_steps h time few small = omega (arith, mul-le-mul_left (h + 1) small, few)

pub overflow_mul-work : goal.overflow_mul-work
overflow_mul-work g c =
    omega (
      arith,
      few_steps c.from.result c.from-2.result (omega (arith, c.from.ensures))
          (omega (arith, c.from-2.ensures, c.least_time.ensures.small)),
    )

pub overflow_add-end : goal.overflow_add-end
overflow_add-end g c =
    omega (
      arith,
      few_steps c.from.result c.from-2.result (omega (arith, c.from.ensures))
          (omega (arith, c.from-2.ensures, c.least_time.ensures.small)),
      c.from-3.ensures,
      c.least_release.ensures.small,
    )

pub after_due-requires : goal.after_due-requires
after_due-requires g c =
    omega (
      arith,
      few_steps c.from.result c.from-2.result (omega (arith, c.from.ensures))
          (omega (arith, c.from-2.ensures, c.least_time.ensures.small)),
      c.from-3.ensures,
      c.least_release.ensures.small,
    )
