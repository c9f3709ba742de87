use Rattle.std.proofs.Common.{arith}
use Rattle.tf_text.proofs.Written.{few_digits}
use Rattle.tf_text.proofs.answer.line.number_before.Goals as goal

pub write_digits-digits-requires : goal.write_digits-digits-requires
write_digits-digits-requires c =
    let short = few_digits c.args.number (omega arith) in (omega (arith, short), omega arith)

pub byte_before-requires : goal.byte_before-requires
byte_before-requires c =
    let short = few_digits c.args.number (omega arith) in
    let at = c.write_digits-digits.ensures.start in
    (omega (arith, at, short), omega (arith, at, short))

pub returns-clause-from : goal.returns-clause-from
returns-clause-from c =
    let short = few_digits c.args.number (omega arith) in
    let at = c.write_digits-digits.ensures.start in
    let blank = c.byte_before.ensures.from in
    (omega (arith, at, short, blank), omega (arith, at, short, blank))
