use Rattle.std.proofs.Common.{◌≤◌, length, ◌++◌, arith, append-nil, ap, ◌∙◌}
use Rattle.std.proofs.Math.ListN.{drop_of_length-le}
use Rattle.tf_text.specs.AnswerText.{pieces_text}
use Rattle.tf_text.proofs.answer.block.fill.Goals as goal

pub loop-piece-init : goal.loop-piece-init
loop-piece-init c =
    let pieces = c.args.pieces.now in
    let long : length c.args.block.now ≤ 16384 = omega (arith, c.told-block) in
    record {
      within = omega arith;
      room = omega (arith, c.requires);
      lines = ap (λ text. pieces_text pieces ++ text) (drop_of_length-le c.args.block.now long)
          ∙ append-nil (pieces_text pieces);
    }
