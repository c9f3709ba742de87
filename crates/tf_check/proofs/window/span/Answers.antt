use Rattle.std.proofs.Common.{arith}
use Rattle.tf_check.proofs.window.span.Goals as goal

pub overflow_add-begun : goal.overflow_add-begun
overflow_add-begun g c =
    omega (arith, c.least_release-begun.ensures.small, c.work_of.ensures, c.requires.work)
