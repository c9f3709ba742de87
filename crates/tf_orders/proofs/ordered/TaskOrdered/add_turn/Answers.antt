use Rattle.std.proofs.Common.{◌≡◌, List, Bool, true, false, IfOk, sym, ap, subst, ◌∙◌}
use Rattle.tf_model.specs.ClassTable.{is_shop}
use Rattle.tf_model.specs.SchedulingTask.{JobData}
use Rattle.tf_schedule.proofs.Limited.{of_class}
use Rattle.tf_schedule.specs.declared.piece.Piece.{Piece}
use Rattle.tf_orders.specs.Laying.{with_job}
use Rattle.tf_orders.proofs.Posed.{times_by, turn_laid}
use Rattle.tf_orders.proofs.ordered.TaskOrdered.add_turn.Goals as goal

pub job-row-requires : goal.job-row-requires
job-row-requires g c = of_class c.args.self.now c.args.turn.job c.requires.turn.job

pub returns-then-is_shop-clause-pieces : goal.returns-then-is_shop-clause-pieces
returns-then-is_shop-clause-pieces g c =
    let k = c.args.self.now in
    let t = c.args.turn in
    let ps = c.args.laying.now.pieces in
    subst (λ (laid : List Piece). IfOk c.add_job.result (λ _. c.add_job.new.self.pieces ≡ laid))
    (ap (λ (row : JobData). with_job ps t.job t.machine row.release (times_by true row))
    (c.row.view_is ∙ c.job-row.ensures.value)
    ∙ sym (turn_laid k c.class.ensures.sound ps t (of_class k t.job c.requires.turn.job) true
    (ap is_shop (sym c.class.ensures.class) ∙ sym c.is_shop.ensures ∙ c.if-is_shop.true)))
    c.add_job.ensures.pieces

pub returns-else-is_shop-clause-pieces : goal.returns-else-is_shop-clause-pieces
returns-else-is_shop-clause-pieces g c =
    let k = c.args.self.now in
    let t = c.args.turn in
    let ps = c.args.laying.now.pieces in
    subst
    (λ (laid : List Piece). IfOk c.add_job-else-is_shop.result
    (λ _. c.add_job-else-is_shop.new.self.pieces ≡ laid))
    (ap (λ (row : JobData). with_job ps t.job t.machine row.release (times_by false row))
    (c.row.view_is ∙ c.job-row.ensures.value)
    ∙ sym (turn_laid k c.class.ensures.sound ps t (of_class k t.job c.requires.turn.job) false
    (ap is_shop (sym c.class.ensures.class) ∙ sym c.is_shop.ensures ∙ c.if-is_shop.false)))
    c.add_job-else-is_shop.ensures.pieces
