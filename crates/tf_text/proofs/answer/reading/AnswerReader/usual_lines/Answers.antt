use Rattle.std.proofs.Common.{◌≡◌, ℕ, [], ◌++◌, eqb, length, ap, subst, ◌∙◌, rules}
use Rattle.tf_words.specs.Words.{lines, kept_lines}
use Rattle.tf_text.specs.AnswerStage.{head_of, Leads}
use Rattle.tf_text.specs.declared.answer.stage.Stage.{Stage}
use Rattle.tf_text.proofs.Stages.{pieces_moved}
use Rattle.tf_text.proofs.TextLines.{none_begun}
use Rattle.tf_text.proofs.answer.reading.AnswerReader.usual_lines.Goals as goal

pub returns-clause-awaits : goal.returns-clause-awaits
returns-clause-awaits g c = λ more total h.
    let old = c.args.self.now in
    let long : old.line.len ≡ length old.line.items = search rules in
    let empty : old.line.items ≡ [] =
    none_begun old.line.items _
    (c.is_empty.ensures ∙ ap (λ (n : ℕ). eqb n 0) long) c.if-not-is_empty.false in
    pieces_moved (head_of c.in-Pieces.field-0) _ _ _ _ _ old.line.items c.args.text.now _ more total
    empty c.in_ok-number.ensures.pieces
    (subst (λ (s : Stage g.row.A.Denot).
    Leads s (kept_lines old.number (lines (old.line.items ++ (c.args.text.now ++ more)))) total)
    c.in-Pieces.is h)
