use Rattle.std.proofs.Common.{subst}
use Rattle.tf_read.specs.declared.sizes.SizesLine.{SizesLine}
use Rattle.tf_read.specs.Sizes.{SizesShown}
use Rattle.tf_read.proofs.SizesLines.{gap_in_jobs, gap_in_machines, gap_stays}
use Rattle.tf_read.proofs.sizes.SizesLine.gap.Goals as goal

pub returns-in-Jobs : goal.returns-in-Jobs
returns-in-Jobs c =
    λ bytes byte white h. gap_in_jobs bytes byte c.in-Jobs.jobs white
    (subst (λ (s : SizesLine). SizesShown bytes s) c.in-Jobs.is h)

pub returns-in-Machines : goal.returns-in-Machines
returns-in-Machines c =
    λ bytes byte white h. gap_in_machines bytes byte c.in-Machines.jobs c.in-Machines.machines white
    (subst (λ (s : SizesLine). SizesShown bytes s) c.in-Machines.is h)

pub returns-in_default : goal.returns-in_default
returns-in_default c =
    λ bytes byte white h. gap_stays bytes byte c.args.self white c.in_default.not-Jobs
    c.in_default.not-Machines h
