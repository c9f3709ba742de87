use Rattle.std.proofs.Common.{◌≡◌, get_or, refl, arith}
use Rattle.tf_words.proofs.FirstLine.{begins_with}
use Rattle.tf_words.proofs.Numerals.{blank_more}
use Rattle.tf_words.proofs.scan.behind_blanks.Goals as goal

pub loop-rest-preserved : goal.loop-rest-preserved
loop-rest-preserved c =
    let blank : get_or c.loop-rest.rest.now 0 0 ≡ 32 = omega arith in
    let (blanks, all, is) = c.loop-rest.invariant in
    blank_more c.args.text.now blanks c.loop-rest.rest.now _ all is
    (begins_with _ _ 32 c.in-32.len_at_least blank refl)
