use Rattle.std.proofs.Common.{ℕ, List, ◌∷◌, [], ap, sym, subst, ◌∙◌}
use Rattle.tf_words.specs.Words.{KeptLine, kept_lines}
use Rattle.tf_text.specs.AnswerStage.{Leads}
use Rattle.tf_text.proofs.TextLines.{line_at_end}
use Rattle.tf_text.proofs.answer.reading.AnswerReader.finish.Goals as goal

pub returns-clause-read : goal.returns-clause-read
unfolding kept_lines
returns-clause-read g c = λ total some h.
    let old = c.args.self in
    c.ended.ensures.read total
    (c.read_line.ensures [] total
    (subst (λ (ls : List KeptLine). Leads old.stage ls total)
    (line_at_end old.line.items old.number old.own
    ∙ ap (λ (l : List ℕ). kept_lines old.number (l ∷ [])) (sym c.as_slice.ensures.value))
    h))
