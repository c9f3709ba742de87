use Rattle.std.proofs.Common.{arith}
use Rattle.tf_words.proofs.DigitsRead.{one_more}
use Rattle.tf_words.proofs.digits.size_of.Goals as goal

pub loop-byte-preserved : goal.loop-byte-preserved
loop-byte-preserved c =
    let more = one_more c.args.digits.now c.loop-byte.byte-index c.requires c.loop-byte-test.true in
    omega (arith, more.0, more.1, more.2, c.loop-byte.invariant, c.with_digit-size.ensures)
