use Rattle.std.proofs.Common.{sym, ◌∙◌}
use Rattle.std.proofs.lemmas.Bool.{eqb-true}
use Rattle.tf_read.specs.FlowShop.{is_name_line}
use Rattle.tf_bounding.proofs.ShopPlaces.{none_behind}
use Rattle.tf_bounding.proofs.shop_words.behind_heading.Goals as goal

pub returns : goal.returns
returns c =
    none_behind (is_name_line c.args.name.now) c.loop-rest.rest.now
    (eqb-true _ _ (sym c.is_empty.ensures ∙ c.loop-rest-test.false))
    ∙ c.loop-rest.invariant
