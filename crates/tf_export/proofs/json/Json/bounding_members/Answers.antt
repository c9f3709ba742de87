use Rattle.std.proofs.Common.{[], ◌∷◌, codes, sym, subst, ◌∙◌}
use Rattle.tf_words.specs.Words.{words}
use Rattle.tf_export.specs.Adds.{Adds}
use Rattle.tf_export.specs.Json.{member}
use Rattle.tf_export.specs.Members.{phrase}
use Rattle.tf_export.proofs.Adding.{both}
use Rattle.tf_export.proofs.Planning.{unbounding}
use Rattle.tf_export.proofs.json.Json.bounding_members.Goals as goal

pub returns : goal.returns
returns c =
    subst (Adds c.args.self.now c.phrase_member.new.self)
    (unbounding c.args.key.now (words c.args.row.now) c.fault_name.result.now
    (sym c.is_number.ensures ∙ c.if-is_number.false) c.fault_name.ensures)
    (both c.args.self.now c.member.new.self c.phrase_member.new.self
    (member c.args.key.now (codes "null") ∷ [])
    (member c.fault_name.result.now (phrase (words c.args.row.now)) ∷ []) c.in_ok-member.ensures
    c.in_ok-phrase_member.ensures)
