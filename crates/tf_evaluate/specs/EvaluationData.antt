-- What an evaluation says, whatever memory holds it.
use Rattle.std.specs.Prelude.{ℕ, ℤ, ◌-ℤ◌, unsigned_abs, int_le, List, Option, None, Some, Result, if◌then◌else◌}
use Rattle.tf_model.specs.declared.problem.Problem.{Problem}
use Rattle.tf_schedule.specs.declared.misfit.ProblemMisfit.TheVariants.{Plain}
use Rattle.tf_check.specs.declared.fault.BoundFault.{BoundFault}
use Rattle.tf_check.specs.declared.judgement.Fit.{Fit}
use Rattle.tf_check.specs.declared.judgement.Fit.TheVariants as classes
use Rattle.tf_evaluate.specs.declared.evaluation.ProblemFit.{ProblemFit}
use Rattle.tf_evaluate.specs.declared.evaluation.ProblemFit.TheVariants.{Fits, NoSchedule, Misfit}
use Rattle.tf_evaluate.specs.declared.evaluation.Standing.{Standing}
use Rattle.tf_evaluate.specs.declared.evaluation.Standing.TheVariants.{Best, Beaten, Unproved, Unfit}
use Rattle.tf_evaluate.specs.declared.evaluation.WhyUnfit.TheVariants as reasons
use Rattle.tf_evaluate.specs.declared.evaluation.JobOutcome.{JobOutcome}
use Rattle.tf_evaluate.specs.declared.step.Step.{Step}

-- R is what the cost is held against
pub record EvaluationData (R : Type 0) : Type 0 where
  pub problem : Problem
  pub jobs : ℕ
  pub machines : ℕ
  pub fit : Option ProblemFit
  pub claimed : Option ℤ
  pub reference : R
  pub outcomes : List JobOutcome

-- the least cost, and what the answer's certificate bounds, with its arithmetic
pub record OptimumData : Type 0 where
  pub best : ℤ
  pub bound : Option (Result ℤ BoundFault)
  pub steps : List Step

-- how far a cost is from the least one
abbrev pub gap : ℤ → ℤ → ℕ
gap value best = unsigned_abs (value -ℤ best)

-- how pieces that stand so to a task of a class stand to it as one of any problem
abbrev pub problem_fit : Fit → ProblemFit
problem_fit (classes.Fits value) = Fits (Some value)
problem_fit (classes.NoSchedule fault) = NoSchedule fault
problem_fit (classes.Misfit misfit) = Misfit (Plain misfit)

-- what the schedule costs, if it fits
abbrev pub value_in : Option ProblemFit → Option ℤ
value_in (Some (Fits value)) = value
value_in _ = None

-- what a schedule comes to: what its cost does if it fits, and else why it does not
abbrev pub standing_by : (Option ℤ → Standing) → Option ProblemFit → Standing
standing_by rated (Some (Fits value)) = rated value
standing_by rated (Some (NoSchedule fault)) = Unfit (reasons.NoSchedule fault)
standing_by rated (Some (Misfit misfit)) = Unfit (reasons.Misfit misfit)
standing_by rated None = Unfit reasons.OtherTask

-- it is best where it costs no more than the least cost
abbrev pub rated_by_best : ℤ → Option ℤ → Standing
rated_by_best best (Some value) = if int_le value best then Best else Beaten
rated_by_best best None = Unproved

abbrev pub standing_of : Option ProblemFit → ℤ → Standing
standing_of fit best = standing_by (rated_by_best best) fit
