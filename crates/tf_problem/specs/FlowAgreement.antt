-- A job shop where all jobs visit all machines in the order of their numbers is a flow shop.
use Rattle.std.specs.Prelude.{◌≡◌, ℕ, ◌↔◌}
use Rattle.std.specs.List.{range_with_len}
use Rattle.tf_model.specs.declared.problem.Env.TheVariants.{Flow, JobShop}
use Rattle.tf_model.specs.Timetable.{Timetable}
use Rattle.tf_posed.specs.ProblemData.{ProblemData, IsProblemJob, problem_job}
use Rattle.tf_posed.specs.FitsProblem.{FitsProblem}
use Rattle.tf_posed.specs.ProblemCost.{problem_cost}

-- the same jobs in a flow shop
abbrev pub in_flow_shop : ProblemData → ProblemData
in_flow_shop k = record k { problem = record k.problem { env = Flow } }

-- the same timetables fit, and they cost the same
pub record IsSameProblem (k other : ProblemData) : Type 0 where
  pub fits : (rows : Timetable) → FitsProblem k rows ↔ FitsProblem other rows
  pub costs : (rows : Timetable) → problem_cost k rows ≡ problem_cost other rows

-- a job shop where each route is of all machines in the order of their numbers is a flow shop
abbrev pub FlowAgreementLaw : Type 0
FlowAgreementLaw = (k : ProblemData) → k.problem.env ≡ JobShop
    → ((j : ℕ) → IsProblemJob k j → (problem_job k j).route ≡ range_with_len 0 k.machines)
    → IsSameProblem k (in_flow_shop k)
