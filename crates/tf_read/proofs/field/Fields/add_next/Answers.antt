use Rattle.std.proofs.Common.{◌≡◌, ◌∷◌, get_or, ap, arith}
use Rattle.tf_read.proofs.UsualFields.{keyed_front, keyed_word}
use Rattle.tf_read.proofs.field.Fields.add_next.Goals as goal

pub returns-then-is_over : goal.returns-then-is_over
returns-then-is_over g c =
    let text = c.args.text.now in
    let blank : get_or text 0 0 ≡ 32 = omega arith in
    let sign : get_or text 2 0 ≡ 61 = omega arith in
    let value = c.in_ok-rest.ensures in
    let key = get_or text 1 0 in (
      key ∷ 61 ∷ value.0,
      value.1,
      keyed_word text _ _ value.0 key (keyed_front text c.in-32.len_at_least blank sign)
          (ap (λ bs. key ∷ 61 ∷ bs) value.2) value.3 (c.is_over.ensures c.if-is_over.true),
    )
