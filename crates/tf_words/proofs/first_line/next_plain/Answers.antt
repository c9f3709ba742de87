use Rattle.std.proofs.Common.{◌≤◌, ◌∙◌, arith}
use Rattle.std.proofs.lemmas.Bool.{ne_eqb}
use Rattle.tf_words.proofs.NumeralOf.{plain_is, second}
use Rattle.tf_words.proofs.first_line.next_plain.Goals as goal

pub returns-clause-word : goal.returns-clause-word
returns-clause-word c =
    let word = c.in_ok-number.ensures.word in
    let at = second _ word.0 _ word.3 word.1.numeral in
    let few : c.in_ok-number.number ≤ c.args.most = omega arith in (
      word.0,
      plain_is word.0 _ _ word.1 (ne_eqb _ 48 (λ e. c.if-text-eq48.false (at ∙ e))) few,
      word.2,
    )
