use Rattle.std.proofs.Common.{refl}
use Rattle.tf_engine.proofs.Unread.{err_is}
use Rattle.tf_orders.specs.OrderParts.{ReadsOrderCase}
use Rattle.tf_orders.proofs.Reading.{case_unposed, case_unread, case_had}
use Rattle.tf_orders.proofs.case_read.order_case_read.Goals as goal

pub returns-in_err-posed : goal.returns-in_err-posed
returns-in_err-posed g c =
    err_is (ReadsOrderCase c.args.bounded c.args.request.now _ _ _ _ _ _) c.in_err-posed.field-0.0 _
    c.from_residual.ensures.1
    (case_unposed g.row.A.Denot _ _ c.args.bounded c.args.request.now _ _ _ _ _ c.in_err-posed.field-0.0
    c.in_err-posed.ensures)

pub returns-in_err-text : goal.returns-in_err-text
returns-in_err-text g c =
    err_is (ReadsOrderCase c.args.bounded c.args.request.now _ _ _ _ _ _) c.in_err-text.field-0.0 _
    c.from_residual-in_err-text.ensures.1
    (case_unread g.row.A.Denot _ _ c.args.bounded c.args.request.now _ _ _ _ _ _ _ c.in_ok-posed.ensures
    c.in_err-text.field-0.0 c.in_err-text.ensures)

pub returns : goal.returns
returns g c =
    case_had g.row.A.Denot _ _ c.args.bounded c.args.request.now _ _ _ _ _ _ c.in_ok-posed.posed
    c.in_ok-posed.ensures _ refl c.in_ok-text.ensures
