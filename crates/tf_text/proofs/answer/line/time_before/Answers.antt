use Rattle.std.proofs.Common.{arith}
use Rattle.tf_text.proofs.Written.{few_digits}
use Rattle.tf_text.proofs.answer.line.time_before.Goals as goal

pub write_digits-digits-requires : goal.write_digits-digits-requires
write_digits-digits-requires c =
    let short = few_digits c.unsigned_abs-number.result (omega arith) in
    (omega (arith, short), omega arith)

pub byte_before-sign-requires : goal.byte_before-sign-requires
byte_before-sign-requires c =
    let short = few_digits c.unsigned_abs-number.result (omega arith) in
    let at = c.write_digits-digits.ensures.start in
    (omega (arith, at, short), omega (arith, at, short))

pub byte_before-requires : goal.byte_before-requires
byte_before-requires c =
    let short = few_digits c.unsigned_abs-number.result (omega arith) in
    let at = c.write_digits-digits.ensures.start in
    let sign = c.byte_before-sign.ensures in
    (omega (arith, at, short, sign.from), omega (arith, at, sign.from, sign.length))

pub returns-clause-from : goal.returns-clause-from
returns-clause-from c =
    let short = few_digits c.unsigned_abs-number.result (omega arith) in
    let at = c.write_digits-digits.ensures.start in
    let sign = c.byte_before-sign.ensures.from in
    let blank = c.byte_before.ensures.from in
    (omega (arith, at, short, sign, blank), omega (arith, at, short, sign, blank))
