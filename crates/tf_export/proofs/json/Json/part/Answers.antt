use Rattle.std.proofs.Common.{OnOk, sym, subst}
use Rattle.tf_export.specs.Adds.{Adds}
use Rattle.tf_export.specs.Documents.{part_in}
use Rattle.tf_export.proofs.json.Json.part.Goals as goal

pub returns-in-Members : goal.returns-in-Members
returns-in-Members c =
    subst (λ part. OnOk c.line_members.result
    (Adds c.args.self.now c.line_members.new.self (part_in part c.args.line.now c.args.next.now)))
    (sym c.in-Members.is) c.line_members.ensures

pub returns-in-Step : goal.returns-in-Step
returns-in-Step c =
    subst (λ part. OnOk c.step_in.result
    (Adds c.args.self.now c.step_in.new.self (part_in part c.args.line.now c.args.next.now)))
    (sym c.in-Step.is) c.step_in.ensures

pub returns-in-Problem : goal.returns-in-Problem
returns-in-Problem c =
    subst (λ part. OnOk c.problem_in.result
    (Adds c.args.self.now c.problem_in.new.self (part_in part c.args.line.now c.args.next.now)))
    (sym c.in-Problem.is) c.problem_in.ensures

pub returns-in-Row : goal.returns-in-Row
returns-in-Row c =
    subst (λ part. OnOk c.row_in.result
    (Adds c.args.self.now c.row_in.new.self (part_in part c.args.line.now c.args.next.now)))
    (sym c.in-Row.is) c.row_in.ensures

pub returns-in-Open : goal.returns-in-Open
returns-in-Open c =
    subst (λ part. OnOk c.open_in.result
    (Adds c.args.self.now c.open_in.new.self (part_in part c.args.line.now c.args.next.now)))
    (sym c.in-Open.is) c.open_in.ensures

pub returns-in-Solved : goal.returns-in-Solved
returns-in-Solved c =
    subst (λ part. OnOk c.solved_in.result
    (Adds c.args.self.now c.solved_in.new.self (part_in part c.args.line.now c.args.next.now)))
    (sym c.in-Solved.is) c.solved_in.ensures

pub returns-in-Known : goal.returns-in-Known
returns-in-Known c =
    subst (λ part. OnOk c.known_in.result
    (Adds c.args.self.now c.known_in.new.self (part_in part c.args.line.now c.args.next.now)))
    (sym c.in-Known.is) c.known_in.ensures

pub returns-in-Order : goal.returns-in-Order
returns-in-Order c =
    subst (λ part. OnOk c.order_in.result
    (Adds c.args.self.now c.order_in.new.self (part_in part c.args.line.now c.args.next.now)))
    (sym c.in-Order.is) c.order_in.ensures

pub returns-in-Mark : goal.returns-in-Mark
returns-in-Mark c =
    subst (λ part. OnOk c.mark_in.result
    (Adds c.args.self.now c.mark_in.new.self (part_in part c.args.line.now c.args.next.now)))
    (sym c.in-Mark.is) c.mark_in.ensures
