-- What a problem uses of a job table.
use Rattle.std.specs.Prelude.{Bool, true, false, ◌||◌, not}
use Rattle.tf_model.specs.declared.problem.Goal.{Goal}
use Rattle.tf_model.specs.declared.problem.Goal.TheVariants.{Cmax, Lmax, Hmax, SumC, SumWC, SumT, SumWT, SumU, SumWU}
use Rattle.tf_model.specs.declared.problem.Problem.{Problem}

abbrev pub has_weight : Goal → Bool
has_weight Cmax = false
has_weight Lmax = false
has_weight Hmax = false
has_weight SumC = false
has_weight SumWC = true
has_weight SumT = false
has_weight SumWT = true
has_weight SumU = false
has_weight SumWU = true

abbrev pub has_due : Goal → Bool
has_due Cmax = false
has_due Lmax = true
has_due Hmax = false
has_due SumC = false
has_due SumWC = false
has_due SumT = true
has_due SumWT = true
has_due SumU = true
has_due SumWU = true

abbrev pub has_cost : Goal → Bool
has_cost Cmax = false
has_cost Lmax = false
has_cost Hmax = true
has_cost SumC = false
has_cost SumWC = false
has_cost SumT = false
has_cost SumWT = false
has_cost SumU = false
has_cost SumWU = false

-- nothing of a job is used but its processing times
abbrev pub has_times_alone : Problem → Bool
has_times_alone problem =
    not ((has_weight problem.goal || (has_due problem.goal || has_cost problem.goal))
    || (problem.release || problem.prec))
