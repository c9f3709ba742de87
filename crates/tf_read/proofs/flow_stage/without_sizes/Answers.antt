use Rattle.std.proofs.Common.{sym, ◌∙◌}
use Rattle.std.proofs.Common.{true, false}
use Rattle.tf_read.proofs.FlowReading.{heading_last}
use Rattle.tf_read.proofs.flow_stage.without_sizes.Goals as goal

pub returns-then-is_heading-clause-fault : goal.returns-then-is_heading-clause-fault
returns-then-is_heading-clause-fault c =
    λ pair line bytes all at. heading_last c.args.name.now pair line bytes true all
    (sym (c.is_heading.ensures bytes at) ∙ c.if-is_heading.true)

pub returns-else-is_heading-clause-fault : goal.returns-else-is_heading-clause-fault
returns-else-is_heading-clause-fault c =
    λ pair line bytes all at. heading_last c.args.name.now pair line bytes false all
    (sym (c.is_heading.ensures bytes at) ∙ c.if-is_heading.false)
