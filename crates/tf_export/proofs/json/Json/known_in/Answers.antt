use Rattle.std.proofs.Common.{ℕ, List, [], ◌∷◌, take, drop, codes, ap, subst, ◌∙◌}
use Rattle.tf_words.specs.Words.{words}
use Rattle.tf_export.specs.Adds.{Adds}
use Rattle.tf_export.specs.Json.{member}
use Rattle.tf_export.specs.Members.{phrase}
use Rattle.tf_export.specs.Documents.{command_member}
use Rattle.tf_export.proofs.Adding.{one, both, bracketed}
use Rattle.tf_export.proofs.json.Json.known_in.Goals as goal

pub returns : goal.returns
returns c =
    let said = λ (name part : List ℕ). member name (phrase (words part)) ∷ [] in
    let first = subst (λ part. Adds c.enter.new.self c.phrase_member.new.self
    (said (codes "problem") part)) c.cut.ensures.front c.in_ok-phrase_member.ensures in
    let second = subst (λ part. Adds c.phrase_member.new.self c.phrase_member-2.new.self
    (said (codes "complexity") part))
    (c.cut-2.ensures.front ∙ ap (take 12) c.cut.ensures.behind) c.in_ok-phrase_member-2.ensures in
    let left = c.cut-2.ensures.behind ∙ ap (drop 12) c.cut.ensures.behind in
    let third = subst (λ part. Adds c.phrase_member-2.new.self c.command_member.new.self
    (command_member (words part) ∷ []))
    (c.cut-3.ensures.front ∙ ap (take 7) left) c.in_ok-command_member.ensures in
    let fourth = subst (λ part. Adds c.command_member.new.self c.phrase_member-3.new.self
    (said (codes "source") part))
    (c.cut-3.ensures.behind ∙ ap (drop 7) left) c.in_ok-phrase_member-3.ensures in
    one _ _ _ c.begin.new.self.text.items c.in_ok-begin.ensures.text
    (bracketed c.begin.new.self.text.items _ c.enter.new.self c.phrase_member-3.new.self 123 125 _
    c.in_ok-enter.ensures.text c.enter.ensures.first
    (both c.enter.new.self c.phrase_member.new.self c.phrase_member-3.new.self _ _ first
    (both c.phrase_member.new.self c.phrase_member-2.new.self c.phrase_member-3.new.self _ _ second
    (both c.phrase_member-2.new.self c.command_member.new.self c.phrase_member-3.new.self _ _
    third fourth))) c.in_ok-leave.ensures.text) c.leave.ensures.first
