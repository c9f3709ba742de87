use Rattle.std.proofs.Common.{true, false, rules, sym, ap, ◌∙◌, SFits, w64}
use Rattle.std.proofs.lemmas.Int.{to_z-of_z}
use Rattle.tf_model.specs.ClassTable.{is_due}
use Rattle.tf_orders.proofs.Posed.{due_is}
use Rattle.tf_orders.proofs.ordered.due_of.Goals as goal

pub returns-then-is_due-clause-due : goal.returns-then-is_due-clause-due
returns-then-is_due-clause-due g c =
    let fits : SFits w64 c.due.result = search rules in
    to_z-of_z w64 c.due.result fits ∙ c.due.ensures
    ∙ sym (due_is c.args.task.now c.class.ensures.sound c.args.job c.requires true
    (ap is_due (sym c.class.ensures.class) ∙ sym c.is_due.ensures ∙ c.if-is_due.true))

pub returns-else-is_due-clause-due : goal.returns-else-is_due-clause-due
returns-else-is_due-clause-due g c =
    sym (due_is c.args.task.now c.class.ensures.sound c.args.job c.requires false
    (ap is_due (sym c.class.ensures.class) ∙ sym c.is_due.ensures ∙ c.if-is_due.false))
