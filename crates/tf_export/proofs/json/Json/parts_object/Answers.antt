use Rattle.tf_export.proofs.Adding.{named, bracketed}
use Rattle.tf_export.proofs.json.Json.parts_object.Goals as goal

pub returns : goal.returns
returns c =
    named _ _ c.args.name.now _ c.name.new.self.text.items c.in_ok-name.ensures.text
    (bracketed c.name.new.self.text.items _ c.enter.new.self c.parts.new.self 123 125 _
    c.in_ok-enter.ensures.text c.enter.ensures.first c.in_ok-parts.ensures
    c.in_ok-leave.ensures.text) c.leave.ensures.first
