use Rattle.std.proofs.Common.{subst}
use Rattle.tf_read.specs.declared.heading.HeadingWord.{HeadingWord}
use Rattle.tf_read.specs.declared.heading.HeadingLine.{HeadingLine}
use Rattle.tf_read.specs.declared.heading.HeadingLine.TheVariants.{Spelled}
use Rattle.tf_read.specs.Heading.{HeadingShown}
use Rattle.tf_read.proofs.Headings.{whole_is, name_is, no_name, no_second, other_is}
use Rattle.tf_read.proofs.heading.HeadingLine.is_heading.Goals as goal

pub returns-in-Whole : goal.returns-in-Whole
returns-in-Whole c =
    λ bytes h. whole_is c.args.name.now bytes
    (subst (λ (s : HeadingLine). HeadingShown c.args.name.now bytes s) c.in-Whole.is h)

pub returns-then-matched-gt0 : goal.returns-then-matched-gt0
returns-then-matched-gt0 c = λ bytes h.
    let at = c.in-Spelled in
    name_is c.args.name.now bytes at.matched c.if-matched-gt0.true
    (subst (λ (w : HeadingWord). HeadingShown c.args.name.now bytes (Spelled w at.matched))
    c.in-Name.is
    (subst (λ (s : HeadingLine). HeadingShown c.args.name.now bytes s) at.is h))

pub returns-else-matched-gt0 : goal.returns-else-matched-gt0
returns-else-matched-gt0 c = λ bytes h.
    let at = c.in-Spelled in
    no_name c.args.name.now bytes at.matched c.if-matched-gt0.false
    (subst (λ (w : HeadingWord). HeadingShown c.args.name.now bytes (Spelled w at.matched))
    c.in-Name.is
    (subst (λ (s : HeadingLine). HeadingShown c.args.name.now bytes s) at.is h))

pub returns-in-Instance : goal.returns-in-Instance
returns-in-Instance c = λ bytes h.
    let at = c.in-Spelled in
    no_second c.args.name.now bytes at.matched
    (subst (λ (w : HeadingWord). HeadingShown c.args.name.now bytes (Spelled w at.matched))
    c.in-Instance.is
    (subst (λ (s : HeadingLine). HeadingShown c.args.name.now bytes s) at.is h))

pub returns-in-Other : goal.returns-in-Other
returns-in-Other c =
    λ bytes h. other_is c.args.name.now bytes
    (subst (λ (s : HeadingLine). HeadingShown c.args.name.now bytes s) c.in-Other.is h)
