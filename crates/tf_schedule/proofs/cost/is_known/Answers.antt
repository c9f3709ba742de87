use Rattle.tf_schedule.proofs.ClassMisfit.{known, known_from}
use Rattle.tf_schedule.proofs.cost.is_known.Goals as goal

pub returns : goal.returns
returns g c =
    let is = c.is_known.ensures in (
      λ test. known c.args.task.now c.args.piece.now (is.0 test),
      λ has. is.1 (known_from c.args.task.now c.args.piece.now has),
    )
