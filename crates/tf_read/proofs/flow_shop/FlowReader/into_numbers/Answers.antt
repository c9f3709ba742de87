use Rattle.std.proofs.Common.{◌≤◌, length, sym, subst, ◌∙◌, arith}
use Rattle.tf_model.specs.Limit.{most_bytes}
use Rattle.tf_read.specs.FlowShop.{IsOfPairs}
use Rattle.tf_read.proofs.Each.{gives_same}
use Rattle.tf_read.proofs.FlowReading.{too_long, within}
use Rattle.tf_read.proofs.flow_shop.FlowReader.into_numbers.Goals as goal

pub returns-then-self-eq0-clause-given : goal.returns-then-self-eq0-clause-given
returns-then-self-eq0-clause-given g c = λ says fed h.
    h.wanted fed ∙ too_long _ _ fed (omega (arith, c.if-self-eq0.true, h.left))

pub returns-clause-given : goal.returns-clause-given
returns-clause-given g c = λ says fed h.
    let few : length fed ≤ most_bytes = omega (arith, c.if-self-eq0.false, h.left) in
    gives_same _ _ _ _ (sym (h.wanted fed ∙ within _ _ fed few)) (c.ended.ensures.given fed (h.taken few))

pub returns-clause-too_long : goal.returns-clause-too_long
returns-clause-too_long g c = λ says fed h long.
    absurd (let no : ⊥ = omega (arith, c.if-self-eq0.false, h.left, long) in no)

pub returns-clause-sized : goal.returns-clause-sized
returns-clause-sized g c = λ says fed h wants.
    let few : length fed ≤ most_bytes = omega (arith, c.if-self-eq0.false, h.left) in
    subst IsOfPairs (sym (h.wanted fed ∙ within _ _ fed few))
    (c.ended.ensures.wants fed (h.taken few) wants)
