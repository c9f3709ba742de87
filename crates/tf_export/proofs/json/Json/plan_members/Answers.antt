use Rattle.std.proofs.Common.{drop, subst}
use Rattle.tf_words.specs.Words.{lines}
use Rattle.tf_export.specs.Adds.{Adds}
use Rattle.tf_export.specs.Documents.{parts}
use Rattle.tf_export.proofs.Adding.{both}
use Rattle.tf_export.proofs.json.Json.plan_members.Goals as goal

pub returns : goal.returns
returns c =
    both c.args.self.now c.parts.new.self c.parts_array.new.self _ _
    (subst (λ part. Adds c.args.self.now c.parts.new.self
    (parts part (drop 1 (lines c.args.text.now)))) c.part_of_plan-part.ensures
    (subst (λ all. Adds c.args.self.now c.parts.new.self (parts c.part_of_plan-part.result all))
    c.behind_heading.ensures c.in_ok-parts.ensures)) c.in_ok-parts_array.ensures
