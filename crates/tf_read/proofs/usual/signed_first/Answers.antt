use Rattle.std.proofs.Common.{◌≡◌, ◌∷◌, get_or, refl, ap, ◌∙◌, arith}
use Rattle.tf_words.proofs.FirstLine.{begins_with, digits_dark, numeral_parts}
use Rattle.tf_read.proofs.UsualFields.{integer_is, minus_is}
use Rattle.tf_read.proofs.usual.signed_first.Goals as goal

pub returns-in-45 : goal.returns-in-45
returns-in-45 c =
    let size = c.in_ok-size.ensures.digits in
    let minus : get_or c.args.text.now 0 0 ≡ 45 = omega arith in (
      45 ∷ size.0,
      λ line. minus_is line size.0 _ size.1 c.in_ok-size.ensures.few,
      begins_with _ _ 45 c.in-45.len_at_least minus refl ∙ ap (λ bs. 45 ∷ bs) size.2,
      digits_dark size.0 (numeral_parts size.0 size.1.numeral).1,
    )

pub returns : goal.returns
returns c =
    let size = c.in_ok-size-2.ensures.digits in (
      size.0,
      λ line. integer_is line size.0 _ size.1 c.in_ok-size-2.ensures.few,
      size.2,
      digits_dark size.0 (numeral_parts size.0 size.1.numeral).1,
    )
