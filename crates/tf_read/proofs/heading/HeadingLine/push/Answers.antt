use Rattle.std.proofs.Common.{codes, [], ◌∷◌, sym, ◌∙◌, subst}
use Rattle.tf_read.specs.declared.heading.HeadingLine.{HeadingLine}
use Rattle.tf_read.specs.Heading.{HeadingShown}
use Rattle.tf_read.proofs.PresentLine.{with_gap}
use Rattle.tf_read.proofs.Headings.{third_word}
use Rattle.tf_read.proofs.heading.HeadingLine.push.Goals as goal

pub returns-then-is_white : goal.returns-then-is_white
returns-then-is_white c =
    λ bytes h. with_gap bytes (codes "instance" ∷ c.args.name.now ∷ []) c.args.byte
    (sym c.is_white.ensures ∙ c.if-is_white.true)
    (subst (λ (s : HeadingLine). HeadingShown c.args.name.now bytes s) c.in-Whole.is h)

pub returns-else-is_white : goal.returns-else-is_white
returns-else-is_white c =
    λ bytes h. third_word c.args.name.now bytes c.args.byte
    (sym c.is_white.ensures ∙ c.if-is_white.false)
    (subst (λ (s : HeadingLine). HeadingShown c.args.name.now bytes s) c.in-Whole.is h)
