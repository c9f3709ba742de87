use Rattle.std.proofs.Common.{subst, rules}
use Rattle.std.specs.Io.KnownBytes.{Appends}
use Rattle.tf_text.specs.Counted.{inner_of, AppendsPrefix}
use Rattle.tf_text.proofs.AnswerAgain.{text_again}
use Rattle.tf_text.proofs.Written.{parts_joined}
use Rattle.tf_text.proofs.answer.writing.write_answer.Goals as goal

pub returns-in_err-write_around-clause-prefix : goal.returns-in_err-write_around-clause-prefix
returns-in_err-write_around-clause-prefix g c = λ _.
    let whole = parts_joined c.args.layout c.args.sheet.now c.deref.result.now c.deref-2.result.now
    c.as_slice.result.now (search rules) (search rules) (search rules) in
    subst (AppendsPrefix (g.W.Write.contents (inner_of c.args.writer.now))
    (g.W.Write.contents (inner_of c.write_around.new.writer))) whole
    c.in_err-write_around.ensures.prefix

pub returns-clause-written : goal.returns-clause-written
returns-clause-written g c =
    let whole = parts_joined c.args.layout c.args.sheet.now c.deref.result.now c.deref-2.result.now
    c.as_slice.result.now (search rules) (search rules) (search rules) in
    subst (Appends (g.W.Write.contents (inner_of c.args.writer.now))
    (g.W.Write.contents (inner_of c.write_around.new.writer))) whole
    c.in_ok-write_around.ensures.written

pub returns-in_err-front-clause-round_trip : goal.returns-in_err-front-clause-round_trip
returns-in_err-front-clause-round_trip g c = text_again c.args.layout c.args.sheet.now

pub returns-in_err-back-clause-round_trip : goal.returns-in_err-back-clause-round_trip
returns-in_err-back-clause-round_trip g c = text_again c.args.layout c.args.sheet.now

pub returns-in_err-write_around-clause-round_trip : goal.returns-in_err-write_around-clause-round_trip
returns-in_err-write_around-clause-round_trip g c = text_again c.args.layout c.args.sheet.now

pub returns-clause-round_trip : goal.returns-clause-round_trip
returns-clause-round_trip g c = text_again c.args.layout c.args.sheet.now
