use Rattle.std.proofs.Common.{sym, ◌∙◌}
use Rattle.std.proofs.lemmas.Bool.{eqb-true}
use Rattle.tf_export.proofs.Saying.{explanation_none}
use Rattle.tf_export.proofs.Adding.{nothing}
use Rattle.tf_export.proofs.json.Json.explanation.Goals as goal

pub returns-then-is_empty : goal.returns-then-is_empty
returns-then-is_empty c = nothing c.args.self.now _ (explanation_none c.args.text.now (eqb-true _ _ (sym c.is_empty.ensures ∙ c.if-is_empty.true)))
