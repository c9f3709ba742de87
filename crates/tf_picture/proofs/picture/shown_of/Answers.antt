use Rattle.std.proofs.Common.{None, subst, sym}
use Rattle.std.specs.List.{All}
use Rattle.tf_picture.specs.Sound.{HasPiece}
use Rattle.tf_picture.proofs.Whole.{bars_sound, resumed_sound}
use Rattle.tf_picture.proofs.picture.shown_of.Goals as goal

pub returns-clause-sound : goal.returns-clause-sound
returns-clause-sound g c =
    subst (All HasPiece) (sym c.in_ok-bars.ensures)
    (bars_sound None c.args.pieces.now c.requires)

pub returns-clause-pieces : goal.returns-clause-pieces
returns-clause-pieces g c =
    resumed_sound c.args.preemptive c.args.pieces.now _ c.requires c.in_ok-resumed.ensures
