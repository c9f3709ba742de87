use Rattle.std.proofs.Common.{Err, ap}
use Rattle.tf_routes.specs.RoutedTable.{routed_table}
use Rattle.tf_engine.specs.Parts.{ReadsTo}
use Rattle.tf_engine.proofs.ReadThrough.{reads_input}
use Rattle.tf_engine.proofs.Unread.{err_is}
use Rattle.tf_bounding.specs.ShopTimes.{table_said}
use Rattle.tf_bounding.proofs.ShopTimes.{table_too_long}
use Rattle.tf_bounding.proofs.timed_read.routed_table_read.Goals as goal

pub returns-in_err-text-clause-said : goal.returns-in_err-text-clause-said
returns-in_err-text-clause-said g c =
    err_is (ReadsTo table_said _ _ _) _ _ c.from_residual.ensures.1
    (reads_input _ g.row.A.Denot _ routed_table _ _ _ c.in_err-text.ensures.counted
    c.in_err-text.field-0.0
    (λ e. c.in_err-text.ensures.too_long (ap Err e)) c.in_err-text.ensures.device
    table_too_long c.in_err-text.ensures.pulled)
