-- Pieces on machine 1, and those on other machines.
use Rattle.std.specs.Prelude.{◌==◌, Bool, not, if◌then◌else◌}
use Rattle.tf_schedule.specs.declared.piece.Piece.{Piece}

-- the pieces on machine 1, or the others
abbrev pub is_in_part : Bool → Piece → Bool
is_in_part on_first p = if on_first then p.machine == 1 else not (p.machine == 1)
