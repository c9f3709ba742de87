use mir.Val.{SFits}
use mir.Syntax.{w128}
use Rattle.std.proofs.Common.{rules, pos, List, sym, ap, ◌∙◌, IsTrue}
use Rattle.std.specs.Bool.{IsFalse}
use Rattle.std.proofs.lemmas.Int.{to_z-of_z}
use Rattle.tf_model.specs.ClassTable.{is_sum}
use Rattle.tf_model.specs.Cost.{greatest_price, total_price}
use Rattle.tf_schedule.specs.declared.piece.Piece.{Piece}
use Rattle.tf_schedule.specs.Drawing.{drawing}
use Rattle.tf_schedule.specs.Cost.{known_pieces}
use Rattle.tf_schedule.proofs.Prices.{sum_cost, other_cost}
use Rattle.tf_schedule.proofs.cost.cost.Goals as goal

pub returns-then-is_sum : goal.returns-then-is_sum
returns-then-is_sum g c =
    let sum : IsTrue (is_sum c.args.task.now.class) = ap is_sum (sym c.class.ensures.class)
    ∙ sym c.is_sum.ensures ∙ c.if-is_sum.true in
    let fits : SFits w128 c.total_cost.result = search rules in
    to_z-of_z w128 c.total_cost.result fits
    ∙ c.total_cost.ensures
    ∙ ap (λ (ps : List Piece). pos
    (total_price c.args.task.now
    (drawing c.args.task.now.machines (known_pieces c.args.task.now ps)))) c.pieces.ensures.all
    ∙ sym (sum_cost c.args.task.now
    (drawing c.args.task.now.machines (known_pieces c.args.task.now c.args.schedule.now)) sum)

pub returns-else-is_sum : goal.returns-else-is_sum
returns-else-is_sum g c =
    let other : IsFalse (is_sum c.args.task.now.class) = ap is_sum (sym c.class.ensures.class)
    ∙ sym c.is_sum.ensures ∙ c.if-is_sum.false in
    let fits : SFits w128 c.greatest_cost.result = search rules in
    to_z-of_z w128 c.greatest_cost.result fits
    ∙ c.greatest_cost.ensures
    ∙ ap (λ (ps : List Piece). greatest_price c.args.task.now
    (drawing c.args.task.now.machines (known_pieces c.args.task.now ps)))
    c.pieces-else-is_sum.ensures.all
    ∙ sym (other_cost c.args.task.now
    (drawing c.args.task.now.machines (known_pieces c.args.task.now c.args.schedule.now)) other)
