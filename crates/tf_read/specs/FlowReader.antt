-- A reader of a flow shop, to which a text is fed.
use Rattle.std.specs.Prelude.{◌≡◌, ℕ, ◌+◌, ◌-◌, ◌≤◌, List, ◌++◌, length}
use Rattle.tf_model.specs.Limit.{most_bytes}
use Rattle.tf_read.specs.declared.flow_shop.FlowReader.{FlowReader}
use Rattle.tf_read.specs.FlowShop.{flow_shop}
use Rattle.tf_read.specs.FlowStage.{HasTakenShop}
use Rattle.tf_read.specs.Said.{TextSays}

-- It is wanted what `says` says of a text, and `fed` was fed of it. A caller needs to know no more of
-- this than that `new` gives it, `feed` keeps it, and `finish` uses it up.
pub record HasFedShop {A : Type 0} (reader : FlowReader A) (says : TextSays) (fed : List ℕ) : Type 0
  where
    pub wanted : (text : List ℕ)
        → says text ≡ flow_shop reader.wanted.name.now reader.wanted.pair text
    pub left : reader.left ≡ most_bytes + 1 - length fed
    pub taken : length fed ≤ most_bytes
        → HasTakenShop reader.wanted.name.now reader.wanted.pair reader.stage fed

-- whatever is wanted and was fed before, the piece was fed since
abbrev pub TakesShop : {A : Type 0} → FlowReader A → List ℕ → FlowReader A → Type 0
TakesShop old piece new = (says : TextSays) (fed : List ℕ) → HasFedShop old says fed
    → HasFedShop new says (fed ++ piece)
