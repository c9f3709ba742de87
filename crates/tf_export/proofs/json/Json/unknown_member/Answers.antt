use Rattle.std.proofs.Common.{sym, ◌∙◌}
use Rattle.tf_words.specs.Words.{lines}
use Rattle.tf_export.proofs.Adding.{nothing}
use Rattle.tf_export.proofs.Planning.{is_known}
use Rattle.tf_export.proofs.json.Json.unknown_member.Goals as goal

pub returns-then-has_line : goal.returns-then-has_line
returns-then-has_line c =
    nothing c.args.self.now _
    (is_known c.args.name.now (lines c.args.text.now) (sym c.has_line.ensures ∙ c.if-has_line.true))
