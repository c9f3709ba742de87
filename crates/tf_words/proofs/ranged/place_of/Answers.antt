use Rattle.std.proofs.Common.{◌≡◌, true, ap, ◌∙◌, rules, refl}
use Rattle.tf_words.specs.Digits.{is_numeral, signed}
use Rattle.tf_words.specs.Ranged.{judged}
use Rattle.tf_words.proofs.Saturated.{saturated}
use Rattle.tf_words.proofs.ranged.place_of.Goals as goal

pub returns : goal.returns
returns c =
    let numeral : is_numeral c.args.digits.now ≡ true = search rules in
    let value : c.judged.result
    ≡ judged c.args.least c.args.most (signed c.args.negative c.size_of.result) =
    search rules in
    value ∙ ap (λ size. judged c.args.least c.args.most (signed c.args.negative size))
    c.size_of.ensures
    ∙ saturated c.args.negative _ c.args.least c.args.most c.ranges.least c.ranges.most
    ∙ rw numeral refl
