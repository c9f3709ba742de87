use Rattle.std.proofs.Common.{◌≡◌, ◌+◌, ◌*◌, ◌<◌, true, length, get_or, take, sym, ◌∙◌, arith}
use Rattle.std.specs.Char.{is_ascii_digit, digit_value}
use Rattle.std.specs.Str.Parse.{digits_value}
use Rattle.std.proofs.lemmas.Bool.{and_from}
use Rattle.std.proofs.lemmas.List.Folds.{list_all_more}
use Rattle.std.proofs.lemmas.Int.Digits.{digits_value_more}
use Rattle.tf_words.proofs.DigitsRead.{digit_is, few_digits}
use Rattle.tf_words.proofs.first_line.digits_at.Goals as goal

pub overflow_mul-value : goal.overflow_mul-value
overflow_mul-value c =
    let few : digits_value 10 (take c.loop-at.at c.args.text.now) < 100000000000000000 =
    few_digits c.args.text.now c.loop-at.at 17 c.loop-at.invariant.digits
    (omega (arith, c.min-most.ensures, c.loop-at-test.true)) in
    omega (arith, c.loop-at.invariant.value)

pub overflow_add-value : goal.overflow_add-value
overflow_add-value c =
    let few : digits_value 10 (take c.loop-at.at c.args.text.now) < 100000000000000000 =
    few_digits c.args.text.now c.loop-at.at 17 c.loop-at.invariant.digits
    (omega (arith, c.min-most.ensures, c.loop-at-test.true)) in
    let d = digit_is (get_or c.args.text.now c.loop-at.at 0) (sym c.is_ascii_digit.ensures.value ∙ c.if-is_ascii_digit.true) in
    omega (arith, c.loop-at.invariant.value, d.1, c.from.ensures)

pub loop-at-preserved : goal.loop-at-preserved
loop-at-preserved c =
    let text = c.args.text.now in
    let at = c.loop-at.at in
    let within : at < length text = omega (arith, c.min-most.ensures, c.loop-at-test.true) in
    let digit : is_ascii_digit (get_or text at 0) ≡ true =
    sym c.is_ascii_digit.ensures.value ∙ c.if-is_ascii_digit.true in
    let d = digit_is (get_or text at 0) digit in
    let more : digits_value 10 (take (at + 1) text)
    ≡ digits_value 10 (take at text) * 10 + digit_value (get_or text at 0) =
    digits_value_more 10 text at within in
    record {
      within = omega arith;
      digits = list_all_more is_ascii_digit text at 0 within
          ∙ and_from _ _ c.loop-at.invariant.digits digit;
      value = omega (arith, more, d.2, c.loop-at.invariant.value, c.from.ensures);
    }

pub returns-else-is_ascii_digit-clause-few : goal.returns-else-is_ascii_digit-clause-few
returns-else-is_ascii_digit-clause-few c =
    let few : digits_value 10 (take c.loop-at.at c.args.text.now) < 1000000000000000000 =
    few_digits c.args.text.now c.loop-at.at 18 c.loop-at.invariant.digits
    (omega (arith, c.min-most.ensures, c.loop-at.invariant.within)) in
    omega (arith, c.loop-at.invariant.value)

pub returns-after-loop-at-clause-few : goal.returns-after-loop-at-clause-few
returns-after-loop-at-clause-few c =
    let few : digits_value 10 (take c.loop-at.at c.args.text.now) < 1000000000000000000 =
    few_digits c.args.text.now c.loop-at.at 18 c.loop-at.invariant.digits
    (omega (arith, c.min-most.ensures, c.loop-at.invariant.within)) in
    omega (arith, c.loop-at.invariant.value)
