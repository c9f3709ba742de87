use Rattle.std.proofs.Common.{◌≡◌, ◌∷◌, ◌++◌, get_or, refl, ap, ◌∙◌, append_assoc, sym, arith}
use Rattle.tf_words.proofs.FirstLine.{begins_with, digits_dark, numeral_parts}
use Rattle.tf_read.proofs.UsualFields.{one_time, two_times, dark_times}
use Rattle.tf_read.proofs.usual.times_first.Goals as goal

pub returns-in_default : goal.returns-in_default
returns-in_default c =
    let first = c.in_ok-first.ensures.digits in (
      first.0,
      λ line. one_time line first.0 _ first.1 c.in_ok-first.ensures.few,
      first.2,
      digits_dark first.0 (numeral_parts first.0 first.1.numeral).1,
    )

pub returns : goal.returns
returns c =
    let first = c.in_ok-first.ensures.digits in
    let second = c.in_ok-second.ensures.digits in
    let comma : get_or c.in_ok-first.rest.now 0 0 ≡ 44 = omega arith in
    let rest = begins_with _ _ 44 c.in-44.len_at_least comma refl in (
      first.0 ++ 44 ∷ second.0,
      λ line. two_times line first.0 second.0 _ _ first.1 c.in_ok-first.ensures.few second.1
          c.in_ok-second.ensures.few,
      first.2
          ∙ ap (λ bs. first.0 ++ bs) (rest ∙ ap (λ bs. 44 ∷ bs) second.2)
          ∙ sym (append_assoc first.0 (44 ∷ second.0) c.in_ok-second.rest.now),
      dark_times first.0 second.0 first.1.numeral second.1.numeral,
    )
