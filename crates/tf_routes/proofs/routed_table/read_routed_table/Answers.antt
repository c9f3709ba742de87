use Rattle.std.proofs.Common.{refl, subst, arith}
use Rattle.tf_read.specs.Faults.{Gives}
use Rattle.tf_routes.proofs.TableRead.{not_long, too_long}
use Rattle.tf_routes.proofs.routed_table.read_routed_table.Goals as goal

pub returns-then-text-gt-MOST_BYTES-clause-gives :
    goal.returns-then-text-gt-MOST_BYTES-clause-gives
returns-then-text-gt-MOST_BYTES-clause-gives g c = too_long c.args.text.now _ refl (omega arith)

pub returns-clause-gives : goal.returns-clause-gives
returns-clause-gives g c =
    subst (λ r. Gives (λ i. i) c.table_routed.result r)
    (not_long c.args.text.now _ refl (omega arith)) c.table_routed.ensures.gives
