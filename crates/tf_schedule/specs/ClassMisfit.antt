-- A misfit of a task of a class, as it is told of one.
use Rattle.tf_schedule.specs.declared.fit.Misfit.{Misfit}
use Rattle.tf_schedule.specs.declared.fit.Misfit.TheVariants.{OutOfOrder, OutOfMemory}
use Rattle.tf_schedule.specs.declared.misfit.ProblemMisfit.{ProblemMisfit}
use Rattle.tf_schedule.specs.declared.misfit.ProblemMisfit.TheVariants.{Plain, OffRoute, NoOneOrder, Waits}

-- a job of a flow shop that is off its route is out of order; no class has the other two
abbrev pub of_class : ProblemMisfit → Misfit
of_class (Plain misfit) = misfit
of_class (OffRoute j) = OutOfOrder j j
of_class NoOneOrder = OutOfMemory
of_class (Waits j) = OutOfMemory
