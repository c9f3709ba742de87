use Rattle.std.proofs.Common.{sym, ◌∙◌, arith}
use Rattle.tf_routes.proofs.FirstLine.{line_before, only_line}
use Rattle.tf_routes.proofs.text_lines.next_line.Goals as goal

pub returns-then-len-text-clause-lines : goal.returns-then-len-text-clause-lines
returns-then-len-text-clause-lines c =
    only_line c.args.text.now c.requires (sym c.line_len-len.ensures.place ∙ c.if-len-text.true)

pub returns-clause-lines : goal.returns-clause-lines
returns-clause-lines c =
    line_before c.args.text.now _ _ _ c.line_len-len.result (sym c.line_len-len.ensures.place)
    (omega arith) c.split_at.ensures.front c.split_at.ensures.back c.split_at-2.ensures.back
