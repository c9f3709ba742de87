-- What a random table has.
use Rattle.std.specs.Prelude.{ℕ, ◌+◌, ◌-◌, ◌*◌, ◌/◌, max, nat_le, ◌==◌, Option, None, Some, unwrap_or, option_map, if◌then◌else◌}
use Rattle.tf_model.specs.declared.problem.Env.{Env}
use Rattle.tf_model.specs.declared.problem.Env.TheVariants.{Single, Parallel, Uniform, Unrelated, Flow, OpenShop, JobShop}
use Rattle.tf_model.specs.declared.problem.Problem.{Problem}
use Rattle.tf_random.specs.Draw.{below}
use Rattle.tf_random.specs.Fields.{has_cost, has_due, has_times_alone, has_weight}
use Rattle.tf_random.specs.declared.plan.Plan.{Plan}
use Rattle.tf_random.specs.declared.plan.Times.{Times}
use Rattle.tf_random.specs.declared.plan.Times.TheVariants.{One, Two, Route, Each}

-- the number of machines that the text names, or 0
abbrev pub machines_in : Env → Option ℕ → Option ℕ → ℕ
machines_in Single count machines = 0
machines_in Parallel count machines = unwrap_or count (unwrap_or machines 2)
machines_in Uniform count machines = 0
machines_in Unrelated count machines = 0
machines_in Flow count machines = unwrap_or count (unwrap_or machines 2)
machines_in OpenShop count machines = unwrap_or count (unwrap_or machines 2)
machines_in JobShop count machines = unwrap_or count (unwrap_or machines 2)

abbrev pub machines_of : Problem → Option ℕ → ℕ
machines_of problem machines = machines_in problem.env problem.count machines

-- how the times of a job of a flow shop or an open shop are written: on two machines in a table, on
-- others in a flow shop file, which has a place for nothing else
abbrev pub shop_times : Problem → ℕ → Option Times
shop_times problem machines =
    if machines == 2 then Some Two else if has_times_alone problem then Some Each else None

abbrev pub times_in : Env → Problem → ℕ → Option Times
times_in Single problem machines = Some One
times_in Parallel problem machines = Some One
times_in Uniform problem machines = None
times_in Unrelated problem machines = None
times_in Flow problem machines = shop_times problem machines
times_in OpenShop problem machines = shop_times problem machines
times_in JobShop problem machines = Some Route

-- how the times of a job are written, if a text has a place for all that the problem needs
abbrev pub times_of : Problem → ℕ → Option Times
times_of problem machines = times_in problem.env problem machines

-- about how long so many jobs take of at most so many time steps: half of that each, on all machines
-- where they are parallel
abbrev pub work_in : Env → ℕ → ℕ → ℕ → ℕ
work_in Single jobs machines most = jobs * most / 2
work_in Parallel jobs machines most = jobs * most / 2 / max machines 1
work_in Uniform jobs machines most = jobs * most / 2
work_in Unrelated jobs machines most = jobs * most / 2
work_in Flow jobs machines most = jobs * most / 2
work_in OpenShop jobs machines most = jobs * most / 2
work_in JobShop jobs machines most = jobs * most / 2

abbrev pub work_of : Problem → ℕ → ℕ → ℕ → ℕ
work_of problem jobs machines most = work_in problem.env jobs machines most

abbrev pub planned : Problem → ℕ → ℕ → Times → ℕ → ℕ → Plan
planned problem jobs machines times most seed = record {
  jobs = jobs;
  machines = machines;
  most = most;
  seed = seed;
  times = times;
  weight = has_weight problem.goal;
  due = has_due problem.goal;
  release = problem.release;
  cost = has_cost problem.goal;
  arcs = problem.prec;
  work = work_of problem jobs machines most;
}

-- the plan of a table or a flow shop file for a problem, if one can be written for it
abbrev pub plan_of : Problem → ℕ → Option ℕ → ℕ → ℕ → Option Plan
plan_of problem jobs machines most seed =
    let count = machines_of problem machines in
    option_map (λ times. planned problem jobs count times most seed) (times_of problem count)

-- draw i of job k, below `most`
abbrev pub value : Plan → ℕ → ℕ → ℕ → ℕ
value plan k i most = below plan.seed ((k - 1) * 10 + i) most

-- the number that is drawn for step i of job k
abbrev pub number_of_step : ℕ → ℕ → ℕ
number_of_step k i = 4294967296 + (k - 1) * 2000 + i

-- the time of step i of job k: the first two times are those of a table
abbrev pub step_time : Plan → ℕ → ℕ → ℕ
step_time plan k i =
    (if nat_le i 2 then value plan k i (max plan.most 1)
    else below plan.seed (number_of_step k i) (max plan.most 1))
    + 1

-- how many of the rest of the machines come before the one at place i of the route of job k
abbrev pub swapped : Plan → ℕ → ℕ → ℕ → ℕ
swapped plan k i rest = below plan.seed (number_of_step k i + 1000) rest
