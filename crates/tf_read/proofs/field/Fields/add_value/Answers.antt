use Rattle.std.proofs.Common.{Ok, SFits, w64, rules, sym, ap, ◌∙◌}
use Rattle.std.proofs.lemmas.Int.{to_z-of_z}
use Rattle.tf_words.proofs.FirstLine.{digits_dark, numeral_parts}
use Rattle.tf_read.proofs.UsualFields.{times_field, weight_field, due_field, release_field}
use Rattle.tf_read.proofs.field.Fields.add_value.Goals as goal

pub returns-then-is_none : goal.returns-then-is_none
returns-then-is_none g c =
    let times = c.in_ok-times.ensures in (
      times.0,
      λ line. rw (c.if-key-eq112.true, ← c.self.view_is)
          (times_field line _ times.0 _ c.if-is_none.ensures (times.1 line)),
      times.2,
      rw c.if-key-eq112.true times.3,
    )

pub returns-then-is_none-2 : goal.returns-then-is_none-2
returns-then-is_none-2 g c =
    let due = c.in_ok-due.ensures in
    let fits : SFits w64 c.in_ok-due.due = search rules in (
      due.0,
      λ line. rw (c.if-key-eq100.true, ← c.self.view_is)
          (due_field line _ due.0 _ c.if-is_none-2.ensures
          (due.1 line ∙ ap (λ z. Ok z) (sym (to_z-of_z w64 c.in_ok-due.due fits)))),
      due.2,
      rw c.if-key-eq100.true due.3,
    )

pub returns-then-is_none-3 : goal.returns-then-is_none-3
returns-then-is_none-3 g c =
    let number = c.in_ok-number.ensures.digits in (
      number.0,
      λ line. rw (c.if-key-eq119.true, ← c.self.view_is)
          (weight_field line _ number.0 _ c.if-is_none-3.ensures number.1
          c.in_ok-number.ensures.few),
      number.2,
      rw c.if-key-eq119.true (digits_dark number.0 (numeral_parts number.0 number.1.numeral).1),
    )

pub returns-then-is_none-4 : goal.returns-then-is_none-4
returns-then-is_none-4 g c =
    let number = c.in_ok-number.ensures.digits in (
      number.0,
      λ line. rw (c.if-key-eq114.true, ← c.self.view_is)
          (release_field line _ number.0 _ c.if-is_none-4.ensures number.1
          c.in_ok-number.ensures.few),
      number.2,
      rw c.if-key-eq114.true (digits_dark number.0 (numeral_parts number.0 number.1.numeral).1),
    )
