use Rattle.std.proofs.Common.{OnOk, subst}
use Rattle.tf_words.specs.Words.{words}
use Rattle.tf_export.specs.Adds.{Adds}
use Rattle.tf_export.proofs.Adding.{both}
use Rattle.tf_export.proofs.Saying.{unfaulted, faulted}
use Rattle.tf_export.proofs.json.Json.fault_members.Goals as goal

pub returns-in-None : goal.returns-in-None
returns-in-None c =
    subst (λ items. OnOk c.explanation.result (Adds c.args.self.now c.explanation.new.self items))
    (unfaulted c.args.text.now c.next_line.result.0.now c.next_line.ensures.first c.in-None.ensures)
    c.explanation.ensures

pub returns-in_ok-explanation-in-Some : goal.returns-in_ok-explanation-in-Some
returns-in_ok-explanation-in-Some c =
    subst (Adds c.args.self.now c.explanation-in-Some.new.self)
    (faulted c.args.text.now c.next_line.result.0.now c.next_line.result.1.now
    (words c.in-Some.row.now) c.next_line.ensures.first c.next_line.ensures.behind
    c.in-Some.ensures.0 c.in-Some.ensures.1)
    (both c.args.self.now c.fault.new.self c.explanation-in-Some.new.self _ _
    c.in_ok-fault-in-Some.ensures c.in_ok-explanation-in-Some.ensures)
