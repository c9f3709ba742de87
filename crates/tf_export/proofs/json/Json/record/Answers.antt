use Rattle.tf_export.proofs.Adding.{one, bracketed}
use Rattle.tf_export.proofs.json.Json.record.Goals as goal

pub returns : goal.returns
returns c =
    one _ _ _ c.begin.new.self.text.items c.in_ok-begin.ensures.text
    (bracketed c.begin.new.self.text.items _ c.enter.new.self c.fields.new.self 123 125 _
    c.in_ok-enter.ensures.text c.enter.ensures.first c.in_ok-fields.ensures
    c.in_ok-leave.ensures.text) c.leave.ensures.first
