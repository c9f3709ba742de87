use Rattle.std.proofs.Common.{codes, [], ◌∷◌, subst}
use Rattle.tf_words.specs.Words.{words}
use Rattle.tf_export.specs.Adds.{Adds}
use Rattle.tf_export.specs.Json.{member, string}
use Rattle.tf_export.specs.Members.{fields}
use Rattle.tf_export.proofs.Adding.{named, both, bracketed}
use Rattle.tf_export.proofs.json.Json.certificate.Goals as goal

pub returns : goal.returns
returns c =
    let list = c.args.list.now in
    let row = words c.args.row.now in
    let others = subst (λ names. Adds c.string_member.new.self c.fields.new.self
    (fields (words names) list row)) c.certificate_names.ensures c.in_ok-fields.ensures in
    let all = both c.string_member.new.self c.fields.new.self c.arc_members.new.self _ _ others
    c.in_ok-arc_members.ensures in
    named _ _ (codes "certificate") _ c.name.new.self.text.items c.in_ok-name.ensures.text
    (bracketed c.name.new.self.text.items _ c.enter.new.self c.arc_members.new.self 123 125 _
    c.in_ok-enter.ensures.text c.enter.ensures.first
    (both c.enter.new.self c.string_member.new.self c.arc_members.new.self
    (member (codes "kind") (string c.args.kind.now) ∷ []) _ c.in_ok-string_member.ensures all)
    c.in_ok-leave.ensures.text) c.leave.ensures.first
