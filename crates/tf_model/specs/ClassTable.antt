-- The classes: the notation of each, which problem is of which, and all that follows from it.
use Rattle.std.specs.Prelude.{◌≡◌, ◌⊎◌, ℕ, IsTrue, Bool, true, false, not, ◌&&◌, ◌||◌, ◌==◌, Option, None, Some, if◌then◌else◌}
use Rattle.tf_model.specs.declared.class.Class.{Class}
use Rattle.tf_model.specs.declared.class.Class.TheVariants.{WeightedSum, PlainSum, Hmax, PrecHmax, Lmax, PrecLmax, ReleaseLmax, FlowTwo, OpenTwo, ParallelPrmp, ParallelSum, PrmpWeightedSum, PrmpPlainSum, PrmpHmax, PrmpPrecHmax, PrmpLmax, PrmpPrecLmax, PrmpFlowTwo, PrmpOpenTwo}
use Rattle.tf_model.specs.declared.problem.Env.{Env}
use Rattle.tf_model.specs.declared.problem.Env.TheVariants.{Single, Parallel, Uniform, Unrelated, Flow, OpenShop, JobShop}
use Rattle.tf_model.specs.declared.problem.Goal.{Goal}
use Rattle.tf_model.specs.declared.problem.Goal.TheVariants as goals
use Rattle.tf_model.specs.declared.problem.Problem.{Problem}

-- ---- the table

-- an environment and an objective, no number of machines and no condition
abbrev pub plain_problem : Env → Goal → Problem
plain_problem env goal =
    record {
      env = env;
      count = None;
      release = false;
      prec = false;
      prmp = false;
      prmu = false;
      nwt = false;
      block = false;
      rcrc = false;
      goal = goal;
    }

abbrev pub notation_of : Class → Problem
notation_of WeightedSum = plain_problem Single goals.SumWC
notation_of PlainSum = plain_problem Single goals.SumC
notation_of Hmax = plain_problem Single goals.Hmax
notation_of PrecHmax = record (plain_problem Single goals.Hmax) { prec = true }
notation_of Lmax = plain_problem Single goals.Lmax
notation_of PrecLmax = record (plain_problem Single goals.Lmax) { prec = true }
notation_of ReleaseLmax = record (plain_problem Single goals.Lmax) { release = true; prmp = true }
notation_of FlowTwo = record (plain_problem Flow goals.Cmax) { count = Some 2 }
notation_of OpenTwo = record (plain_problem OpenShop goals.Cmax) { count = Some 2 }
notation_of ParallelPrmp = record (plain_problem Parallel goals.Cmax) { prmp = true }
notation_of ParallelSum = plain_problem Parallel goals.SumC
notation_of PrmpWeightedSum = record (plain_problem Single goals.SumWC) { prmp = true }
notation_of PrmpPlainSum = record (plain_problem Single goals.SumC) { prmp = true }
notation_of PrmpHmax = record (plain_problem Single goals.Hmax) { prmp = true }
notation_of PrmpPrecHmax = record (plain_problem Single goals.Hmax) { prec = true; prmp = true }
notation_of PrmpLmax = record (plain_problem Single goals.Lmax) { prmp = true }
notation_of PrmpPrecLmax = record (plain_problem Single goals.Lmax) { prec = true; prmp = true }
notation_of PrmpFlowTwo = record (plain_problem Flow goals.Cmax) { count = Some 2; prmp = true }
notation_of PrmpOpenTwo = record (plain_problem OpenShop goals.Cmax) { count = Some 2; prmp = true }

-- ---- what follows from the environment

-- a job has a time for each machine
abbrev pub is_shop_env : Env → Bool
is_shop_env Flow = true
is_shop_env OpenShop = true
is_shop_env JobShop = true
is_shop_env _ = false

abbrev pub is_flow_env : Env → Bool
is_flow_env Flow = true
is_flow_env _ = false

abbrev pub is_single_env : Env → Bool
is_single_env Single = true
is_single_env _ = false

abbrev pub is_parallel_env : Env → Bool
is_parallel_env Parallel = true
is_parallel_env _ = false

-- the classes whose jobs have a time for each machine
abbrev pub is_shop : Class → Bool
is_shop c = is_shop_env (notation_of c).env

-- the shops whose jobs visit machine 1 before machine 2
abbrev pub is_flow : Class → Bool
is_flow c = is_flow_env (notation_of c).env

-- the classes of one machine
abbrev pub is_single : Class → Bool
is_single c = is_single_env (notation_of c).env

-- the classes of identical machines in parallel
abbrev pub is_parallel : Class → Bool
is_parallel c = is_parallel_env (notation_of c).env

-- ---- which problem is of the class

pub record IsOfClass (p : Problem) (c : Class) : Type 0 where
  -- it has the environment, exactly the conditions, and the objective of the class's notation
  pub notation : record p { count = None } ≡ record (notation_of c) { count = None }
  -- a shop has two machines, or it is not said how many
  pub machines : IsTrue (is_shop c) → (p.count ≡ None) ⊎ (p.count ≡ Some 2)

-- ---- from the conditions

-- the classes that let a job be broken off and taken up again
abbrev pub may_break : Class → Bool
may_break c = (notation_of c).prmp

-- the classes whose jobs have release dates
abbrev pub is_released : Class → Bool
is_released c = (notation_of c).release

-- the classes that keep the order of arcs
abbrev pub is_ordered : Class → Bool
is_ordered c = (notation_of c).prec

-- ---- and from the objective

-- the four kinds of objective
pub data Objective : Type 0 where
  Makespan : Objective  -- the greatest completion
  Lateness : Objective  -- the greatest completion minus due date
  Dearest : Objective  -- the greatest cost by the jobs' cost functions
  Total : Objective  -- the weighted sum of the completions

-- of the objectives that follow these no class has one
abbrev pub objective_by : Goal → Objective
objective_by goals.Cmax = Makespan
objective_by goals.Lmax = Lateness
objective_by goals.Hmax = Dearest
objective_by _ = Total

abbrev pub is_lateness : Objective → Bool
is_lateness Lateness = true
is_lateness _ = false

abbrev pub is_dearest : Objective → Bool
is_dearest Dearest = true
is_dearest _ = false

abbrev pub is_total : Objective → Bool
is_total Total = true
is_total _ = false

abbrev pub is_makespan : Goal → Bool
is_makespan goals.Cmax = true
is_makespan _ = false

abbrev pub is_weighted_goal : Goal → Bool
is_weighted_goal goals.SumWC = true
is_weighted_goal _ = false

abbrev pub objective_of : Class → Objective
objective_of c = objective_by (notation_of c).goal

-- the classes whose objective is the greatest completion time
abbrev pub is_span : Class → Bool
is_span c = is_makespan (notation_of c).goal

-- the class whose jobs have weights of their own
abbrev pub is_weighted : Class → Bool
is_weighted c = is_weighted_goal (notation_of c).goal

-- the classes whose jobs have due dates
abbrev pub is_due : Class → Bool
is_due c = is_lateness (objective_of c)

-- the classes whose jobs have cost functions
abbrev pub is_costed : Class → Bool
is_costed c = is_dearest (objective_of c)

-- the classes whose objective is a sum of completion times
abbrev pub is_sum : Class → Bool
is_sum c = is_total (objective_of c)

-- ---- the class of a problem: by the contract of the call `class_of` the one that it is of, if any

-- one machine: objective, release dates, precedence, preemption
abbrev pub single_class : Goal → Bool → Bool → Bool → Option Class
single_class goals.SumWC false false false = Some WeightedSum
single_class goals.SumWC false false true = Some PrmpWeightedSum
single_class goals.SumC false false false = Some PlainSum
single_class goals.SumC false false true = Some PrmpPlainSum
single_class goals.Hmax false false false = Some Hmax
single_class goals.Hmax false false true = Some PrmpHmax
single_class goals.Hmax false true false = Some PrecHmax
single_class goals.Hmax false true true = Some PrmpPrecHmax
single_class goals.Lmax false false false = Some Lmax
single_class goals.Lmax false false true = Some PrmpLmax
single_class goals.Lmax false true false = Some PrecLmax
single_class goals.Lmax false true true = Some PrmpPrecLmax
single_class goals.Lmax true false true = Some ReleaseLmax
single_class _ _ _ _ = None

-- identical machines in parallel: the same
abbrev pub parallel_class : Goal → Bool → Bool → Bool → Option Class
parallel_class goals.Cmax false false true = Some ParallelPrmp
parallel_class goals.SumC false false false = Some ParallelSum
parallel_class _ _ _ _ = None

-- two machines, or not said how many
abbrev pub may_be_two : Option ℕ → Bool
may_be_two None = true
may_be_two (Some m) = m == 2

-- a shop with no condition, or with preemption alone
abbrev pub shop_class : Problem → Class → Class → Option Class
shop_class p plain broken =
    if is_makespan p.goal && may_be_two p.count
    && not (p.release || p.prec) then Some (if p.prmp then broken else plain) else None

abbrev pub class_of : Problem → Option Class
class_of p = if p.prmu || p.nwt || p.block || p.rcrc then None else by_environment p.env
  where
    by_environment : Env → Option Class
    by_environment Single = single_class p.goal p.release p.prec p.prmp
    by_environment Parallel = parallel_class p.goal p.release p.prec p.prmp
    by_environment Flow = shop_class p FlowTwo PrmpFlowTwo
    by_environment OpenShop = shop_class p OpenTwo PrmpOpenTwo
    by_environment Uniform = None
    by_environment Unrelated = None
    by_environment JobShop = None
