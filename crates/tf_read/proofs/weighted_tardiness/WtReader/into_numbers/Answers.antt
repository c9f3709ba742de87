use Rattle.std.proofs.Common.{◌≤◌, length, sym, ◌∙◌, arith, subst}
use Rattle.tf_words.specs.Words.{lines, words_from}
use Rattle.tf_model.specs.Limit.{most_bytes}
use Rattle.tf_read.specs.WtReading.{HasTakenTardiness}
use Rattle.tf_read.proofs.Wt.{too_long, refused, by_words}
use Rattle.tf_read.proofs.weighted_tardiness.WtReader.into_numbers.Goals as goal

pub returns-then-left-eq0 : goal.returns-then-left-eq0
returns-then-left-eq0 g c = λ says fed h.
    sym (h.wanted fed ∙ too_long h.jobs h.index fed (omega (arith, c.if-left-eq0.true, h.left)))

pub returns-in-Err : goal.returns-in-Err
returns-in-Err g c = λ says fed h.
    let few : length fed ≤ most_bytes = omega (arith, c.if-left-eq0.false, h.left) in
    sym (h.wanted fed
    ∙ refused h.jobs h.index fed c.in-Err.fault few
    (subst (λ r. HasTakenTardiness h.jobs h.index r fed) c.in-Err.is (h.taken few)))

pub returns-in-Ok : goal.returns-in-Ok
returns-in-Ok g c = λ says fed h.
    let few : length fed ≤ most_bytes = omega (arith, c.if-left-eq0.false, h.left) in
    let taken = subst (λ r. HasTakenTardiness h.jobs h.index r fed) c.in-Ok.is (h.taken few) in
    c.whole.ensures _ (words_from 1 (lines fed)) (c.ended.ensures 1 _ fed taken.1)
    ∙ sym (h.wanted fed ∙ by_words h.jobs h.index fed few taken.0)
