use Rattle.std.proofs.Common.{◌∷◌, sym, ap, ◌∙◌, drop}
use Rattle.tf_bounding.specs.ShopWords.{time_at}
use Rattle.tf_bounding.proofs.ShopPlaces.{no_time, no_words}
use Rattle.tf_bounding.proofs.shop_words.second_time.Goals as goal

pub returns-in_default-clause-time : goal.returns-in_default-clause-time
returns-in_default-clause-time c =
    sym (ap (λ ws. time_at ws 1) c.in_default.ensures.words ∙ no_time)

pub returns-in_default-clause-words : goal.returns-in_default-clause-words
returns-in_default-clause-words c =
    no_words ∙ sym (ap (λ ws. drop 2 ws) c.in_default.ensures.words)

pub returns-in-None-clause-time : goal.returns-in-None-clause-time
returns-in-None-clause-time c =
    sym (ap (λ ws. time_at ws 1)
    (c.in-Some.ensures.words ∙ ap (λ ws. c.in-Some.field-0-0.now ∷ ws) c.in-None.ensures.words)
    ∙ no_time)

pub returns-in-None-clause-words : goal.returns-in-None-clause-words
returns-in-None-clause-words c =
    no_words
    ∙ sym (ap (λ ws. drop 2 ws)
    (c.in-Some.ensures.words ∙ ap (λ ws. c.in-Some.field-0-0.now ∷ ws) c.in-None.ensures.words))
