use Rattle.std.proofs.Common.{MatchResult}
use Rattle.tf_engine.specs.Faults.{stop_of}
use Rattle.tf_engine.proofs.Unread.{err_is}
use Rattle.tf_orders.specs.declared.run_orders.OrderForm.TheVariants.{Pieces}
use Rattle.tf_orders.specs.OrderParts.{IsUnrated}
use Rattle.tf_orders.specs.OrderText.{AreRated}
use Rattle.tf_orders.proofs.rating.pieces_rating.Goals as goal

pub returns-in_err-pieces : goal.returns-in_err-pieces
returns-in_err-pieces g c =
    λ detail. err_is (λ r. MatchResult r
    (λ r. AreRated (Pieces detail) c.args.measure c.args.text.now r.text.items r.returned)
    (λ e. IsUnrated (Pieces detail) c.args.measure c.args.text.now (stop_of e)))
    c.in_err-pieces.field-0.0 _ c.from_residual.ensures.1 c.in_err-pieces.ensures
