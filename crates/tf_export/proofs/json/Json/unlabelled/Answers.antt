use Rattle.std.proofs.Common.{[], ◌∷◌, codes, subst}
use Rattle.tf_words.specs.Words.{words}
use Rattle.tf_export.specs.Adds.{Adds}
use Rattle.tf_export.specs.Json.{member}
use Rattle.tf_export.specs.Members.{fields}
use Rattle.tf_export.specs.Orders.{order_outcome}
use Rattle.tf_export.proofs.Adding.{both}
use Rattle.tf_export.proofs.json.Json.unlabelled.Goals as goal

pub returns : goal.returns
returns c =
    both c.args.self.now c.fields.new.self c.order_outcome.new.self
    (fields (words (codes "line")) [] (words c.args.line.now)) _ c.in_ok-fields.ensures
    (both c.fields.new.self c.member.new.self c.order_outcome.new.self
    (member (codes "label") (codes "null") ∷ []) _ c.in_ok-member.ensures
    (subst (λ row. Adds c.member.new.self c.order_outcome.new.self (order_outcome row))
    c.behind_first.ensures c.in_ok-order_outcome.ensures))
