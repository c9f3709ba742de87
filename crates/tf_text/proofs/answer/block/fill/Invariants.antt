use Rattle.std.proofs.Common.{◌≡◌, ◌*◌, ◌≤◌, ◌++◌, length, drop}
use Rattle.tf_text.specs.AnswerText.{pieces_text}
use Rattle.tf_text.proofs.answer.block.fill.Given as goal

-- the lines of the last pieces stand at the end of the block, and there is room for the others
abbrev pub invariant-loop-piece : goal.invariant-loop-piece
invariant-loop-piece l = record {
  within : l.at ≤ 16384;
  room : length l.rest * 96 ≤ l.at;
  lines : pieces_text l.rest ++ drop l.at l.block ≡ pieces_text l.pieces;
}

abbrev pub decreases-loop-piece : goal.decreases-loop-piece
decreases-loop-piece l = length l.rest
