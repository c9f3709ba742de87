use Rattle.std.proofs.Common.{◌≡◌, Ok, ap, sym, ◌∙◌}
use Rattle.tf_engine.specs.Passed.{of_refusal}
use Rattle.tf_engine.proofs.Unread.{err_is}
use Rattle.tf_bounding.specs.RunBounding.{problem_in, ReadsProblemTask}
use Rattle.tf_bounding.proofs.Reading.{unread, uninstanced_by, untasked_by, tasked_by}
use Rattle.tf_bounding.proofs.instance_read.task_read.Goals as goal

pub returns-in_err-problem : goal.returns-in_err-problem
returns-in_err-problem g c =
    let line = ap problem_in (ap (λ r. r.problem) (sym c.request.view_is) ∙ sym c.as_str.ensures) in
    let (refused, same, is) = c.in_err-problem.ensures in
    err_is (ReadsProblemTask c.args.request.now _ _ _) c.in_err-problem.field-0.0 _
    c.from_residual.ensures.1
    (unread g.row.A.Denot _ c.args.request.now _ _ c.in_err-problem.field-0.0 refused same
    (line ∙ is))

pub returns-in_err-timed : goal.returns-in_err-timed
returns-in_err-timed g c =
    let line : problem_in c.args.request.now.problem ≡ Ok c.in_ok-problem.problem =
    ap problem_in (ap (λ r. r.problem) (sym c.request.view_is) ∙ sym c.as_str.ensures)
    ∙ c.in_ok-problem.ensures in
    err_is (ReadsProblemTask c.args.request.now _ _ _) c.in_err-timed.field-0.0 _
    c.from_residual-in_err-timed.ensures.1
    (uninstanced_by g.row.A.Denot _ c.args.request.now _ _ _ c.in_ok-problem.problem line _
    (ap (λ r. r.form) c.request.view_is) c.in_err-timed.field-0.0 c.in_err-timed.ensures)

pub returns-in_err-task : goal.returns-in_err-task
returns-in_err-task g c =
    let line : problem_in c.args.request.now.problem ≡ Ok c.in_ok-problem.problem =
    ap problem_in (ap (λ r. r.problem) (sym c.request.view_is) ∙ sym c.as_str.ensures)
    ∙ c.in_ok-problem.ensures in
    err_is (ReadsProblemTask c.args.request.now _ _ _) (of_refusal c.in_err-task.field-0.0) _
    c.from_residual-in_err-task.ensures.1
    (untasked_by g.row.A.Denot _ c.args.request.now _ _ _ c.in_ok-problem.problem line _
    (ap (λ r. r.form) c.request.view_is) _
    (ap (λ r. r.machines) c.request.view_is) c.in_ok-timed.timed c.in_ok-timed.ensures
    c.in_err-task.field-0.0 c.in_err-task.ensures)

pub returns : goal.returns
returns g c =
    let line : problem_in c.args.request.now.problem ≡ Ok c.in_ok-problem.problem =
    ap problem_in (ap (λ r. r.problem) (sym c.request.view_is) ∙ sym c.as_str.ensures)
    ∙ c.in_ok-problem.ensures in
    tasked_by g.row.A.Denot _ c.args.request.now _ _ _ c.in_ok-problem.problem line _
    (ap (λ r. r.form) c.request.view_is) _
    (ap (λ r. r.machines) c.request.view_is) c.in_ok-timed.timed c.in_ok-timed.ensures
    c.in_ok-task.task c.in_ok-task.ensures
