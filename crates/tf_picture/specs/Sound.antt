-- Bars whose pieces are pieces of a schedule.
use Rattle.tf_schedule.specs.Schedule.{IsPiece}
use Rattle.tf_picture.specs.declared.bars.Bar.{Bar}

abbrev pub HasPiece : Bar → Type 0
HasPiece b = IsPiece b.piece
