-- The steps of a job: its machines in the order in which all of it can be processed.
use Rattle.std.specs.Prelude.{ℕ, List, length}
use Rattle.std.specs.List.{range_with_len}
use Rattle.tf_model.specs.declared.problem.Env.{Env}
use Rattle.tf_model.specs.declared.problem.Env.TheVariants.{JobShop}
use Rattle.tf_posed.specs.ProblemData.{ProblemData, ProblemJobData, problem_job}

-- in a job shop its route, elsewhere the machines from the first on for which it has times
abbrev pub steps_by : Env → ProblemJobData → List ℕ
steps_by JobShop x = x.route
steps_by _ x = range_with_len 0 (length x.times)

abbrev pub steps_of : ProblemData → ℕ → List ℕ
steps_of k j = steps_by k.problem.env (problem_job k j)
