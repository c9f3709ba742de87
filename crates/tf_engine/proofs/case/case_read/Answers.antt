use Rattle.std.proofs.Common.{refl}
use Rattle.tf_engine.specs.CaseParts.{ReadsCase}
use Rattle.tf_engine.proofs.CaseRead.{case_unasked, case_unsaid, case_had}
use Rattle.tf_engine.proofs.Unread.{err_is}
use Rattle.tf_engine.proofs.case.case_read.Goals as goal

pub returns-in_err-asked : goal.returns-in_err-asked
returns-in_err-asked g c =
    err_is (ReadsCase c.args.request.now _ _ _ _ _ _) c.in_err-asked.field-0.0 _
    c.from_residual.ensures.1
    (case_unasked g.row.A.Denot _ _ c.args.request.now _ _ _ _ _ c.in_err-asked.field-0.0
    c.in_err-asked.ensures)

pub returns-in_err-sheet : goal.returns-in_err-sheet
returns-in_err-sheet g c =
    err_is (ReadsCase c.args.request.now _ _ _ _ _ _) c.in_err-sheet.field-0.0 _
    c.from_residual-in_err-sheet.ensures.1
    (case_unsaid g.row.A.Denot _ _ c.args.request.now _ _ _ _ _ _ _ c.in_ok-asked.ensures
    c.in_err-sheet.field-0.0 c.in_err-sheet.ensures.read)

pub returns : goal.returns
returns g c =
    case_had g.row.A.Denot _ _ c.args.request.now _ _ _ _ _ _ _ c.in_ok-asked.ensures _ refl
    c.in_ok-sheet.ensures.read
