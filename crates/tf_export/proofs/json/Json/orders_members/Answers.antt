use Rattle.std.proofs.Common.{[], ◌∷◌, codes, subst, ◌∙◌}
use Rattle.tf_words.specs.Words.{words, lines}
use Rattle.tf_export.specs.Adds.{Adds}
use Rattle.tf_export.specs.Documents.{parts_array, parts_object}
use Rattle.tf_export.specs.Members.{line_members}
use Rattle.tf_export.specs.declared.documents.Part.TheVariants.{Order, Mark}
use Rattle.tf_export.proofs.Adding.{both}
use Rattle.tf_export.proofs.json.Json.orders_members.Goals as goal

pub returns : goal.returns
returns c =
    both c.args.self.now c.line_members.new.self c.parts_array.new.self _ _
    (subst (λ line. Adds c.args.self.now c.line_members.new.self (line_members (words line) (words [])))
    c.first_of.ensures c.in_ok-line_members.ensures)
    (both c.line_members.new.self c.unknown.new.self c.parts_array.new.self _ _
    c.in_ok-unknown.ensures
    (both c.unknown.new.self c.parts_object.new.self c.parts_array.new.self _ _
    (subst (λ text. Adds c.unknown.new.self c.parts_object.new.self
    (parts_object (codes "summary") Mark (lines text) ∷ [])) (c.as_slice.ensures.value ∙ c.in_ok-summary.ensures)
    c.in_ok-parts_object.ensures)
    (subst (λ all. Adds c.parts_object.new.self c.parts_array.new.self
    (parts_array (codes "orders") Order all ∷ [])) c.behind_heading.ensures
    c.in_ok-parts_array.ensures)))
