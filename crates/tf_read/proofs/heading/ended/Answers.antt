use Rattle.std.proofs.Common.{◌++◌, ◌∷◌, [], arith, subst}
use Rattle.tf_read.specs.declared.heading.HeadingWord.{HeadingWord}
use Rattle.tf_read.specs.PresentLine.{IsInLine}
use Rattle.tf_read.specs.Heading.{spelling, words_before}
use Rattle.tf_read.proofs.Headings.{not_begun, not_ended, whole_word}
use Rattle.tf_read.proofs.heading.ended.Goals as goal

pub returns-then-matched-eq0 : goal.returns-then-matched-eq0
returns-then-matched-eq0 c =
    λ name bytes byte len white h. not_begun name bytes c.args.word c.args.matched byte
    c.if-matched-eq0.true white h

pub returns-then-matched-len : goal.returns-then-matched-len
returns-then-matched-len c =
    λ name bytes byte len white h. not_ended name bytes c.args.word c.args.matched byte
    (omega (arith, c.if-matched-eq0.false)) (omega (arith, len)) white h

pub returns-in-Instance : goal.returns-in-Instance
returns-in-Instance c = λ name bytes byte len white h. (
  omega arith,
  subst (λ (w : HeadingWord). IsInLine (bytes ++ byte ∷ [])
      (words_before w ++ spelling w name ∷ []) []) c.in-Instance.is
      (whole_word name bytes c.args.word c.args.matched byte
      (omega (arith, c.if-matched-eq0.false)) (omega (arith, len)) white h),
)

pub returns-in-Name : goal.returns-in-Name
returns-in-Name c = λ name bytes byte len white h.
    subst (λ (w : HeadingWord). IsInLine (bytes ++ byte ∷ [])
    (words_before w ++ spelling w name ∷ []) []) c.in-Name.is
    (whole_word name bytes c.args.word c.args.matched byte
    (omega (arith, c.if-matched-eq0.false)) (omega (arith, len)) white h)
