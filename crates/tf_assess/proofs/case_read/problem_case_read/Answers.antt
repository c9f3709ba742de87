use Rattle.std.proofs.Common.{refl}
use Rattle.tf_engine.proofs.Unread.{err_is}
use Rattle.tf_assess.specs.RunAssessing.{ReadsProblemCase}
use Rattle.tf_assess.proofs.Reading.{case_unasked, case_unsaid, case_had}
use Rattle.tf_assess.proofs.case_read.problem_case_read.Goals as goal

pub returns-in_err-task : goal.returns-in_err-task
returns-in_err-task g c =
    err_is (ReadsProblemCase c.args.request.now _ _ _ _ _ _) c.in_err-task.field-0.0 _
    c.from_residual.ensures.1
    (case_unasked g.row.A.Denot _ _ c.args.request.now _ _ _ _ _ c.in_err-task.field-0.0
    c.in_err-task.ensures)

pub returns-in_err-sheet : goal.returns-in_err-sheet
returns-in_err-sheet g c =
    err_is (ReadsProblemCase c.args.request.now _ _ _ _ _ _) c.in_err-sheet.field-0.0 _
    c.from_residual-in_err-sheet.ensures.1
    (case_unsaid g.row.A.Denot _ _ c.args.request.now _ _ _ _ _ _ _ c.in_ok-task.ensures
    c.in_err-sheet.field-0.0 c.in_err-sheet.ensures.read)

pub returns : goal.returns
returns g c =
    case_had g.row.A.Denot _ _ c.args.request.now _ _ _ _ _ _ c.in_ok-task.task c.in_ok-task.ensures
    _ refl c.in_ok-sheet.ensures.read
