use Rattle.std.proofs.Common.{[], ◌∷◌, codes, subst}
use Rattle.tf_words.specs.Words.{words}
use Rattle.tf_export.specs.Adds.{Adds}
use Rattle.tf_export.specs.Json.{member}
use Rattle.tf_export.specs.Members.{fields, phrase}
use Rattle.tf_export.proofs.Adding.{both}
use Rattle.tf_export.proofs.json.Json.labelled.Goals as goal

pub returns : goal.returns
returns c =
    both c.args.self.now c.fields.new.self c.order_outcome.new.self
    (fields (words (codes "line")) [] (words c.args.front.now)) _ c.in_ok-fields.ensures
    (both c.fields.new.self c.phrase_member.new.self c.order_outcome.new.self _ _
    (subst (λ row. Adds c.fields.new.self c.phrase_member.new.self
    (member (codes "label") (phrase row) ∷ [])) c.behind_first.ensures c.in_ok-phrase_member.ensures)
    c.in_ok-order_outcome.ensures)
