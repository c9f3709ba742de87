use Rattle.std.proofs.Common.{drop, sym, ap, ◌∙◌}
use Rattle.std.proofs.lemmas.Bool.{eqb-true}
use Rattle.tf_words.proofs.Lines.{line_none}
use Rattle.tf_export.proofs.line.behind_heading.Goals as goal

pub returns-then-is_empty : goal.returns-then-is_empty
returns-then-is_empty c =
    let none = line_none c.args.text.now (eqb-true _ _ (sym c.is_empty.ensures ∙ c.if-is_empty.true)) in
    none ∙ sym (ap (drop 1) none)

pub returns : goal.returns
returns c = sym (ap (drop 1) c.next_line.ensures.lines)
