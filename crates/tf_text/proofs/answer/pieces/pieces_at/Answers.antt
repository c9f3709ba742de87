use Rattle.std.proofs.Common.{List, Ok, sym, ap, ◌∙◌}
use Rattle.std.proofs.lemmas.Result.{err_from_is_err_and}
use Rattle.tf_schedule.specs.declared.piece.Piece.{Piece}
use Rattle.tf_words.specs.Lines.{lines_of}
use Rattle.tf_text.specs.AnswerReading.{pieces_at}
use Rattle.tf_text.proofs.Reading.{piece_step, piece_fails, pieces_none, pieces_stop, pieces_end}
use Rattle.tf_text.proofs.answer.pieces.pieces_at.Goals as goal
use Rattle.tf_text.proofs.answer.pieces.pieces_at.Goals.{in-Some+in_default-behind_key, in_default}

pub returns-in_err-piece_in : goal.returns-in_err-piece_in
returns-in_err-piece_in g c =
    let p = err_from_is_err_and c.from_residual.result c.from_residual.ensures.1 in
    rw (p.1, p.2)
    (piece_fails _ _ _ _ _ _ _ c.loop-line.invariant c.in-Some.ensures.lines
    c.in-Some-behind_key.ensures c.in_err-piece_in.ensures)

pub loop-line-preserved : goal.loop-line-preserved
loop-line-preserved g c =
    piece_step c.loop-line.pieces.items c.push.new.self.items c.in_ok-piece_in.field-0 _ _
    (lines_of c.loop-line.rest) (lines_of c.in-Some.after) (pieces_at (lines_of c.args.lines.now))
    c.in_ok-push.ensures.items c.in-Some.ensures.lines c.in-Some-behind_key.ensures
    c.in_ok-piece_in.ensures c.loop-line.invariant

pub returns : goal.returns
returns g c =
    sym c.loop-line.invariant
    ∙ pieces_none c.loop-line.pieces.items (lines_of c.loop-line.rest)
    (elim c.match-split_first.branch [
      | in-Some+in_default-behind_key w ↦ pieces_stop _ _ _ w.in-Some.ensures.lines
          w.in_default-behind_key.ensures
      | in_default w ↦ pieces_end _ w.in_default.ensures.lines
    ])
    ∙ ap (λ (pieces : List Piece). Ok (pieces, lines_of c.loop-line.rest)) (sym c.new.ensures)
