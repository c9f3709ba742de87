use Rattle.std.proofs.Common.{◌≡◌, Ok, ap, refl, sym, ◌∙◌}
use Rattle.tf_engine.specs.CaseParts.{ReadsAsked}
use Rattle.tf_engine.specs.Refusal.{problem_for}
use Rattle.tf_engine.proofs.CaseRead.{asked_unread, asked_untasked, asked_had}
use Rattle.tf_engine.proofs.Unread.{err_is}
use Rattle.tf_engine.proofs.case.asked_read.Goals as goal

pub returns-in_err-problem : goal.returns-in_err-problem
returns-in_err-problem g c =
    let line = ap problem_for
    (ap (λ r. r.problem) (sym c.request.view_is) ∙ sym c.as_str.ensures) in
    let (refused, same, is) = c.in_err-problem.ensures in
    err_is (ReadsAsked c.args.request.now _ _ _) c.in_err-problem.field-0.0 _
    c.from_residual.ensures.1
    (asked_unread g.row.A.Denot _ c.args.request.now _ _ c.in_err-problem.field-0.0 refused same
    (line ∙ is))

pub returns-in_err-task : goal.returns-in_err-task
returns-in_err-task g c =
    let line : problem_for c.args.request.now.problem ≡ Ok c.in_ok-problem.problem =
    ap problem_for (ap (λ r. r.problem) (sym c.request.view_is) ∙ sym c.as_str.ensures)
    ∙ c.in_ok-problem.ensures in
    err_is (ReadsAsked c.args.request.now _ _ _) c.in_err-task.field-0.0 _
    c.from_residual-in_err-task.ensures.1
    (asked_untasked g.row.A.Denot _ c.args.request.now _ _ _ c.in_ok-problem.problem line
    c.in_err-task.field-0.0 c.in_err-task.ensures)

pub returns : goal.returns
returns g c =
    let line : problem_for c.args.request.now.problem ≡ Ok c.in_ok-problem.problem =
    ap problem_for (ap (λ r. r.problem) (sym c.request.view_is) ∙ sym c.as_str.ensures)
    ∙ c.in_ok-problem.ensures in
    asked_had g.row.A.Denot _ c.args.request.now _ _ _ c.in_ok-problem.problem line _ refl
    c.in_ok-task.ensures
