use Rattle.std.proofs.Common.{OnOk, ap, subst}
use Rattle.tf_export.specs.Adds.{Adds}
use Rattle.tf_export.specs.Documents.{parts}
use Rattle.tf_export.specs.declared.documents.Part.TheVariants.{Members}
use Rattle.tf_export.proofs.json.Json.members_behind.Goals as goal

pub returns : goal.returns
returns c =
    subst (λ items. OnOk c.parts.result (Adds c.args.self.now c.parts.new.self items))
    (ap (parts Members) c.behind_heading.ensures) c.parts.ensures
