use Rattle.std.proofs.Common.{ℕ, List, ◌+◌, ◌++◌, subst, sym, ◌∙◌}
use Rattle.tf_words.specs.Words.{KeptLine, lines, kept_lines}
use Rattle.tf_text.specs.AnswerStage.{Leads}
use Rattle.tf_text.proofs.TextLines.{line_ended}
use Rattle.tf_text.proofs.answer.reading.AnswerReader.end_line.Goals as goal

pub returns-clause-awaits : goal.returns-clause-awaits
returns-clause-awaits g c = λ more total h.
    let old = c.args.self.now in
    let read = c.read_line.ensures (lines more) total
    (subst (λ (ls : List KeptLine). Leads old.stage ls total)
    (line_ended old.line.items c.args.rest.now c.as_slice.result.now more old.number
    (c.as_slice.ensures.value ∙ c.in_ok-extend_from_slice.ensures.items) old.own c.requires.own)
    h) in
    subst (λ (t : List ℕ).
    Leads c.read_line.new.self (kept_lines (old.number + 1) (lines (t ++ more))) total)
    (sym c.clear.ensures.items) read
