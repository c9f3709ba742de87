-- The problems that have lower bounds and no solver.
use Rattle.std.specs.Prelude.{List, [], ◌∷◌, map, filter, is_some}
use Rattle.std.specs.List.{flat_map}
use Rattle.tf_model.specs.ClassTable.{class_of, plain_problem}
use Rattle.tf_model.specs.declared.problem.Env.{Env}
use Rattle.tf_model.specs.declared.problem.Env.TheVariants.{Single, Parallel, Uniform, Unrelated, Flow, OpenShop, JobShop}
use Rattle.tf_model.specs.declared.problem.Goal.{Goal}
use Rattle.tf_model.specs.declared.problem.Goal.TheVariants.{Cmax, Lmax, Hmax, SumC, SumWC, SumT, SumWT, SumU, SumWU}
use Rattle.tf_model.specs.declared.problem.Problem.{Problem}
use Rattle.tf_posed.specs.ProblemData.{is_covered}

-- all environments, in the order of the list
abbrev pub environments : List Env
environments =
    Single ∷ Parallel ∷ Uniform ∷ Unrelated ∷ Flow ∷ OpenShop ∷ JobShop ∷ []

-- all objectives, in the order of the list
abbrev pub objectives : List Goal
objectives = Cmax ∷ Lmax ∷ Hmax ∷ SumC ∷ SumWC ∷ SumT ∷ SumWT ∷ SumU ∷ SumWU ∷ []

-- the problem without conditions, or where that is solved, with release dates
abbrev pub unsolved : Env → Goal → Problem
unsolved env goal =
    let plain = plain_problem env goal in record plain { release = is_some (class_of plain) }

-- these problems, where some kind of certificate bounds their tasks
abbrev pub unsolved_problems : List Problem
unsolved_problems =
    filter is_covered (flat_map (λ env. map (unsolved env) objectives) environments)
