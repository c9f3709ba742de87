use Rattle.std.proofs.Common.{◌≡◌, ◌∷◌, get_or, refl, ap, ◌∙◌, arith}
use Rattle.tf_words.proofs.FirstLine.{begins_with, word_first, behind_blank, digits_dark, numeral_parts}
use Rattle.tf_words.proofs.first_line.next_number.Goals as goal

pub returns-then-is_over-clause-word : goal.returns-then-is_over-clause-word
returns-then-is_over-clause-word c =
    let blank : get_or c.args.text.now 0 0 ≡ 32 = omega arith in
    let digits = c.in_ok-number.ensures.digits in
    let parts = numeral_parts digits.0 digits.1.numeral in
    let over = c.is_over.ensures c.if-is_over.true in
    let front = begins_with _ _ 32 c.in-32.len_at_least blank refl in (
      digits.0,
      digits.1,
      behind_blank _ _ _ _ front
          (word_first _ _ _ digits.2 parts.0 (digits_dark digits.0 parts.1) over),
      front ∙ ap (λ bs. 32 ∷ bs) digits.2,
    )
