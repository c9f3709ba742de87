use Rattle.std.proofs.Common.{sym, ◌∙◌}
use Rattle.std.proofs.lemmas.Bool.{eqb-true}
use Rattle.tf_words.proofs.Lines.{line_none}
use Rattle.tf_routes.proofs.text_lines.TextLines.split_first.Goals as goal

pub returns-then-is_empty-clause-lines : goal.returns-then-is_empty-clause-lines
returns-then-is_empty-clause-lines c =
    line_none c.args.self.now.text.now
    (eqb-true _ _ (sym c.is_empty.ensures ∙ c.if-is_empty.true))
