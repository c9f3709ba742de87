use Rattle.std.proofs.Common.{sym}
use Rattle.tf_words.proofs.Comma.{part_then, part_last}
use Rattle.tf_words.proofs.part.first_part.Goals as goal

pub returns-in-None : goal.returns-in-None
returns-in-None c = part_last c.args.word.now (sym c.in-None.ensures)

pub returns-in-Some : goal.returns-in-Some
returns-in-Some c =
    part_then c.args.word.now _ _ c.in-Some.at (sym c.in-Some.ensures) c.split_at.ensures.front
    c.split_at.ensures.back
