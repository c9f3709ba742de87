use Rattle.tf_export.proofs.Adding.{one, bracketed}
use Rattle.tf_export.proofs.json.Json.order_in.Goals as goal

pub returns : goal.returns
returns c =
    one _ _ _ c.begin.new.self.text.items c.in_ok-begin.ensures.text
    (bracketed c.begin.new.self.text.items _ c.enter.new.self c.order_members.new.self 123 125 _
    c.in_ok-enter.ensures.text c.enter.ensures.first c.in_ok-order_members.ensures
    c.in_ok-leave.ensures.text) c.leave.ensures.first
