use Rattle.std.proofs.Common.{sym, ◌∙◌}
use Rattle.std.proofs.lemmas.Bool.{eqb-true}
use Rattle.tf_held.proofs.Names.{none_named}
use Rattle.tf_held.proofs.headings.name_at.Goals as goal

pub returns : goal.returns
returns c =
    none_named c.loop-rest.rest.now c.loop-rest.passed
    (eqb-true _ _ (sym c.is_empty.ensures ∙ c.loop-rest-test.false)) ∙ c.loop-rest.invariant
