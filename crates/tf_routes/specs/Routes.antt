-- Routes: the machines that a job visits, one after another.
use Rattle.std.specs.Prelude.{ℕ, Bool, List, Result, Ok, ◌==◌}
use Rattle.std.specs.List.{list_any}
use Rattle.tf_words.specs.Number.{number}
use Rattle.tf_model.specs.Outcome.{◌>>=◌}
use Rattle.tf_model.specs.Whole.{as_time}
use Rattle.tf_read.specs.declared.fault.ReadFault.{ReadFault}
use Rattle.tf_read.specs.Faults.{natural}
use Rattle.tf_routes.specs.declared.route.Step.{Step}

-- one of these steps is on the machine
abbrev pub visits : ℕ → List Step → Bool
visits machine steps = list_any (λ (step : Step). step.machine == machine) steps

-- the processing time that a word of this line is
abbrev pub time_in : ℕ → List ℕ → Result ℕ ReadFault
time_in line word = natural line (number word) >>= λ time. Ok (as_time time)
