-- Why a task with an order of its jobs has no plan.
use Rattle.tf_posed.specs.ProblemData.{ProblemData}
use Rattle.tf_plan.specs.Plan.{IsTooDear}
use Rattle.tf_plan.specs.declared.make_plan.NoPlan.{NoPlan}
use Rattle.tf_plan.specs.declared.make_plan.NoPlan.TheVariants.{TooLarge, OutOfMemory}

-- it costs too much, or memory was wanting
abbrev pub HasNoPlan : ProblemData → NoPlan → Type 0
HasNoPlan k TooLarge = IsTooDear k
HasNoPlan k OutOfMemory = Unit {0}
