use Rattle.std.proofs.Common.{◌≡◌, ◌++◌, sym, ap, ◌∙◌, append_assoc, append-nil}
use Rattle.std.proofs.lemmas.Bool.{eqb-true}
use Rattle.tf_words.specs.Words.{lines}
use Rattle.tf_words.proofs.Lines.{line_none}
use Rattle.tf_planning.specs.PlanText.{comment, comments}
use Rattle.tf_planning.proofs.writing.push_comments.Goals as goal

pub loop-rest-preserved : goal.loop-rest-preserved
unfolding comments
loop-rest-preserved g c =
    let text = c.loop-rest.text.items in
    let more = lines c.next_line.result.1.now in
    ap (λ t. t ++ comments more) c.in_ok-push_comment.ensures
    ∙ append_assoc text (comment c.next_line.result.0.now) (comments more)
    ∙ ap (λ ls. text ++ comments ls) (sym c.next_line.ensures.lines) ∙ c.loop-rest.invariant

pub returns : goal.returns
unfolding comments
returns g c =
    let text = c.loop-rest.text.items in
    sym (append-nil text)
    ∙ ap (λ ls. text ++ comments ls) (sym (line_none c.loop-rest.rest.now
    (eqb-true _ _ (sym c.is_empty.ensures ∙ c.loop-rest-test.false)))) ∙ c.loop-rest.invariant
