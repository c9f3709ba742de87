use Rattle.std.proofs.Common.{List, ◌∷◌, ◌+◌, sym, subst, ◌∙◌}
use Rattle.tf_words.specs.Words.{KeptLine, kept_lines}
use Rattle.tf_text.specs.AnswerStage.{Leads}
use Rattle.tf_text.specs.declared.answer.stage.Stage.{Stage}
use Rattle.tf_text.proofs.Stages.{kept_line, other_kept}
use Rattle.tf_text.proofs.answer.stage.Stage.read_line.Goals as goal

pub returns-then-is_kept : goal.returns-then-is_kept
returns-then-is_kept g c = λ more total h.
    let rest = kept_lines (c.args.number + 1) more in
    c.behind.ensures rest total
    (subst (λ (s : Stage g.row.A.Denot).
    Leads s (record { number = c.args.number; bytes = c.args.bytes.now } ∷ rest) total)
    (sym c.replace.ensures.value)
    (subst (λ (ls : List KeptLine). Leads c.args.self.now ls total)
    (kept_line c.args.bytes.now c.args.number more (sym c.is_kept.ensures ∙ c.if-is_kept.true)) h))

pub returns-else-is_kept : goal.returns-else-is_kept
returns-else-is_kept g c = λ more total h.
    subst (λ (ls : List KeptLine). Leads c.args.self.now ls total)
    (other_kept c.args.bytes.now c.args.number more (sym c.is_kept.ensures ∙ c.if-is_kept.false)) h
