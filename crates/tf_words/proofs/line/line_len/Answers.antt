use Rattle.std.proofs.Common.{length, sym, ◌∙◌, arith}
use Rattle.tf_words.proofs.Parts.{is_place, no_place}
use Rattle.tf_words.proofs.Lines.{feed_within}
use Rattle.tf_words.proofs.line.line_len.Goals as goal

pub returns-in-None-clause-place : goal.returns-in-None-clause-place
returns-in-None-clause-place c =
    let far = no_place _ (length c.args.text.now) (sym c.line_feed_at.ensures ∙ c.in-None.is) in
    omega (arith, far, feed_within c.args.text.now)

pub returns-in-Some-clause-place : goal.returns-in-Some-clause-place
returns-in-Some-clause-place c =
    sym (is_place _ (length c.args.text.now) _ (sym c.line_feed_at.ensures ∙ c.in-Some.is)).1

pub returns-in-Some-clause-within : goal.returns-in-Some-clause-within
returns-in-Some-clause-within c =
    let near = is_place _ (length c.args.text.now) _ (sym c.line_feed_at.ensures ∙ c.in-Some.is) in
    omega (arith, near.0, near.1)
