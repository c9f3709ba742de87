use Rattle.std.proofs.Common.{sym, ◌∙◌}
use Rattle.tf_read.proofs.SizesLines.{other_byte}
use Rattle.tf_read.proofs.sizes.SizesLine.push.Goals as goal

pub returns-then-is_white : goal.returns-then-is_white
returns-then-is_white c =
    λ bytes h. c.gap.ensures bytes c.args.byte (sym c.is_white.ensures ∙ c.if-is_white.true) h

pub returns-then-is_ascii_digit : goal.returns-then-is_ascii_digit
returns-then-is_ascii_digit c =
    λ bytes h. c.digit.ensures bytes (sym c.is_white.ensures ∙ c.if-is_white.false) h

pub returns-else-is_ascii_digit : goal.returns-else-is_ascii_digit
returns-else-is_ascii_digit c =
    λ bytes h. other_byte bytes c.args.byte c.args.self
    (sym c.is_white.ensures ∙ c.if-is_white.false)
    (sym c.is_ascii_digit.ensures.value ∙ c.if-is_ascii_digit.false) h
