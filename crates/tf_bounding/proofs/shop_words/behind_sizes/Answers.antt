use Rattle.std.proofs.Common.{sym, ◌∙◌}
use Rattle.std.proofs.lemmas.Bool.{eqb-true}
use Rattle.tf_bounding.specs.ShopWords.{is_sizes_line}
use Rattle.tf_bounding.proofs.ShopPlaces.{none_behind}
use Rattle.tf_bounding.proofs.shop_words.behind_sizes.Goals as goal

pub returns : goal.returns
returns c =
    none_behind is_sizes_line c.loop-rest.rest.now
    (eqb-true _ _ (sym c.is_empty.ensures ∙ c.loop-rest-test.false))
    ∙ c.loop-rest.invariant
