use Rattle.std.proofs.Common.{List, map, ap, ◌∙◌}
use Rattle.tf_check.specs.Claim.{AnswerData}
use Rattle.tf_schedule.specs.declared.piece.Piece.{Piece}
use Rattle.tf_plan.proofs.Named.{plain_order, bare_order}
use Rattle.tf_schedule.proofs.Judging.{is_prec}
use Rattle.tf_plan.proofs.order.order_of.Goals as goal

pub returns-then-not-problem : goal.returns-then-not-problem
returns-then-not-problem g c =
    plain_order c.args.task.now c.problem.result c.in_ok-order.order.items c.if-not-problem.true
    c.problem.ensures.value c.in_ok-order.ensures.jobs

pub returns-in-Ok : goal.returns-in-Ok
returns-in-Ok g c =
    bare_order c.args.task.now c.in_ok-bare.bare c.in-Ok.answer.pieces c.in-Ok.answer.certificate
    c.in_ok-order-in-Ok.order.items c.in_ok-bare.ensures c.problem.ensures.sized.arcs_in
    c.in-Ok.ensures.rule
    (c.in_ok-order-in-Ok.ensures ∙ ap (λ (ps : List Piece). map (λ (p : Piece). p.job) ps)
    (c.as_slice.ensures ∙ ap (λ (a : AnswerData). a.pieces) c.answer.view_is))

pub returns : goal.returns
returns g c =
    c.fault_of.ensures c.args.task.now c.in_ok-bare.bare c.problem.ensures.sized c.in_ok-bare.ensures
    (is_prec c.problem.result c.args.task.now.problem c.if-not-problem.false c.problem.ensures.value)
    c.in-Err.ensures.cycle
