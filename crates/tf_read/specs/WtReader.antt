-- A reader of a weighted tardiness instance, to which a text is fed.
use Rattle.std.specs.Prelude.{◌≡◌, ℕ, ◌+◌, ◌-◌, ◌≤◌, List, ◌++◌, length}
use Rattle.tf_model.specs.Limit.{most_bytes}
use Rattle.tf_read.specs.declared.weighted_tardiness.WtReader.{WtReader}
use Rattle.tf_read.specs.Said.{TextSays}
use Rattle.tf_read.specs.WeightedTardiness.{weighted_tardiness}
use Rattle.tf_read.specs.WtReading.{HasTakenTardiness}

-- It is wanted what `says` says of a text, and `fed` was fed of it. A caller needs to know no more of
-- this than that `new` gives it, `feed` keeps it, and `finish` uses it up.
pub record HasFedTardiness {A : Type 0} (reader : WtReader A) (says : TextSays)
    (fed : List ℕ) : Type 0 where
  pub jobs : ℕ
  pub index : ℕ
  pub wanted : (text : List ℕ) → says text ≡ weighted_tardiness jobs index text
  pub left : reader.left ≡ most_bytes + 1 - length fed
  pub taken : length fed ≤ most_bytes → HasTakenTardiness jobs index reader.reading fed

-- whatever is wanted and was fed before, the piece was fed since
abbrev pub TakesTardiness : {A : Type 0} → WtReader A → List ℕ → WtReader A → Type 0
TakesTardiness old piece new = (says : TextSays) (fed : List ℕ) → HasFedTardiness old says fed
    → HasFedTardiness new says (fed ++ piece)
