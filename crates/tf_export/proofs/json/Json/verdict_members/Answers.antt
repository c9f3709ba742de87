use Rattle.std.proofs.Common.{sym, ◌∙◌}
use Rattle.tf_words.specs.Words.{words}
use Rattle.tf_export.proofs.Saying.{verdict_none}
use Rattle.tf_export.proofs.Adding.{nothing}
use Rattle.tf_export.proofs.json.Json.verdict_members.Goals as goal

pub returns : goal.returns
returns c = nothing c.args.self.now _ (verdict_none c.args.key.now (words c.args.row.now) (sym c.is.ensures ∙ c.if-is.false) (sym c.is-2.ensures ∙ c.if-is-2.false) (sym c.is-3.ensures ∙ c.if-is-3.false) (sym c.is-4.ensures ∙ c.if-is-4.false))
