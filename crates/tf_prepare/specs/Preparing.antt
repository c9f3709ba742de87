-- The task of any problem that an instance makes, or the first refusal. A field that the problem
-- does not use is ignored.
use Rattle.std.specs.Prelude.{◌≡◌, ◌⊎◌, ℕ, ◌+◌, ◌*◌, max, Bool, true, false, not, ◌&&◌, ◌||◌, ◌==◌, nat_lt, nat_le, pos, List, [], ◌∷◌, length, map, replicate, slice_index, slice_set, Option, None, Some, Result, Ok, Err, is_none, is_some, unwrap_or, if◌then◌else◌}
use Rattle.std.specs.List.{list_all, list_any, fold}
use Rattle.std.specs.Option.{option_map, option_or}
use Rattle.tf_model.specs.Limit.{most_machines}
use Rattle.tf_model.specs.Outcome.{◌>>=◌, unless}
use Rattle.tf_model.specs.Whole.{as_time}
use Rattle.tf_model.specs.JobFields.{JobFields}
use Rattle.tf_model.specs.InstanceData.{InstanceData, first_with}
use Rattle.tf_model.specs.ClassTable.{is_single_env, is_shop_env}
use Rattle.tf_model.specs.Prepare.{agreed, given, has_two, first_time}
use Rattle.tf_model.specs.declared.problem.Problem.{Problem}
use Rattle.tf_model.specs.declared.problem.Goal.{Goal}
use Rattle.tf_model.specs.declared.problem.Goal.TheVariants as goals
use Rattle.tf_model.specs.declared.job.Times.{Times}
use Rattle.tf_model.specs.declared.job.Times.TheVariants.{One, Two}
use Rattle.tf_model.specs.declared.prepare.Field.{Field}
use Rattle.tf_model.specs.declared.prepare.Field.TheVariants.{Weight, Due, Release}
use Rattle.tf_model.specs.declared.prepare.Refusal.{Refusal}
use Rattle.tf_model.specs.declared.prepare.Refusal.TheVariants.{MachineCount, WrongTimes, MissingField, ZeroTime, TotalTooLarge, OutOfMemory}
use Rattle.tf_posed.specs.ProblemData.{ProblemData, ProblemJobData, is_job_shop, needs_time}
use Rattle.tf_routes.specs.declared.route.Step.{Step}
use Rattle.tf_bound.specs.Sized.{IsSized}
use Rattle.tf_prepare.specs.TimedData.{TimedData}

-- ---- the problem

-- the objectives that use weights
abbrev pub uses_weight : Goal → Bool
uses_weight goals.SumWC = true
uses_weight goals.SumWT = true
uses_weight goals.SumWU = true
uses_weight _ = false

-- the objectives that use due dates
abbrev pub uses_due : Goal → Bool
uses_due goals.Lmax = true
uses_due goals.SumT = true
uses_due goals.SumWT = true
uses_due goals.SumU = true
uses_due goals.SumWU = true
uses_due _ = false

-- ---- the number of machines

-- A shop has two machines, or as many as there are lists of times by machine. There are 1 to 1000.
abbrev pub count_in : Problem → Bool → ℕ → Result ℕ Refusal
count_in p is_listed m =
    if nat_lt m 1 || nat_lt most_machines m
    || (is_shop_env p.env && not is_listed && not (m == 2)) then Err (MachineCount m) else Ok m

-- by the notation, by the caller and by the instance; a single machine ignores them
abbrev pub machines_in : Problem → Bool → Option ℕ → Option ℕ → Result ℕ Refusal
machines_in p is_listed argument instance =
    if is_single_env p.env then Ok 1
    else (agreed p.count argument >>= λ m. agreed m instance >>= λ n. given n
    >>= λ count. count_in p is_listed count)

-- ---- the jobs

-- two times where the problem wants one, or one where it wants two
abbrev pub has_wrong_times_in : Problem → JobFields → Bool
has_wrong_times_in p job =
    if is_shop_env p.env then not (has_two job.times) else has_two job.times

-- the first such job, where the times are not listed by machine
abbrev pub wrong_times_in : Problem → Bool → List JobFields → Option Refusal
wrong_times_in p is_listed jobs =
    if is_listed then None else option_map WrongTimes (first_with (has_wrong_times_in p) jobs)

-- the first field that the problem uses and the job lacks
abbrev pub lacking_in : Problem → JobFields → Option Field
lacking_in p job =
    if uses_weight p.goal && is_none job.weight then Some Weight
    else if p.release && is_none job.release then Some Release
    else if uses_due p.goal && is_none job.due then Some Due
    else None

-- the first job that lacks a field, of jobs of which the first has this number
abbrev pub missing_in : Problem → ℕ → List JobFields → Option Refusal
missing_in p j [] = None
missing_in p j (job ∷ jobs) =
    option_or (option_map (MissingField j) (lacking_in p job)) (missing_in p (j + 1) jobs)

-- the processing times that a job has itself
abbrev pub times_of : Times → List ℕ
times_of (One a) = as_time a ∷ []
times_of (Two a b) = as_time a ∷ as_time b ∷ []

-- its time, or the first of two
abbrev pub first_of : JobFields → ℕ
first_of job = as_time (first_time job.times)

-- the processing times of the job at this place, counted from 0: its own, or on each machine the
-- one at its place
abbrev pub times_in : Option (List (List ℕ)) → ℕ → JobFields → List ℕ
times_in None place job = times_of job.times
times_in (Some machines) place job = map (λ times. slice_index times place) machines

-- no time at all
abbrev pub is_idle : List ℕ → Bool
is_idle times = list_all (λ time. time == 0) times

-- the first job without any time, of jobs of which the first has this place
abbrev pub idle_in : Option (List (List ℕ)) → ℕ → List JobFields → Option Refusal
idle_in by_machine place [] = None
idle_in by_machine place (job ∷ jobs) =
    if is_idle (times_in by_machine place job) then Some (ZeroTime (place + 1))
    else idle_in by_machine (place + 1) jobs

-- a job without any time is refused where the problem needs time of each
abbrev pub where_needed : Problem → Option Refusal → Option Refusal
where_needed p refusal = if needs_time p then refusal else None

-- the first reason for the jobs' sake, each kind over all jobs before the next
abbrev pub jobs_refusal_in : Problem → TimedData → Option Refusal
jobs_refusal_in p t =
    option_or (wrong_times_in p (is_some t.by_machine) t.instance.jobs)
    (option_or (missing_in p 1 t.instance.jobs)
    (where_needed p (idle_in t.by_machine 0 t.instance.jobs)))

-- ---- the task

-- what the problem uses of a job with these times and this route, and what is neutral for the rest
abbrev pub job_in : Problem → List ℕ → List ℕ → JobFields → ProblemJobData
job_in p times route job = record {
  times = times;
  route = route;
  weight = if uses_weight p.goal then as_time (unwrap_or job.weight (pos 0)) else 1;
  release = if p.release then as_time (unwrap_or job.release (pos 0)) else 0;
  due = if uses_due p.goal then unwrap_or job.due (pos 0) else pos 0;
}

-- all jobs, of which the first has this place
abbrev pub jobs_in : Problem → Option (List (List ℕ)) → ℕ → List JobFields → List ProblemJobData
jobs_in p by_machine place [] = []
jobs_in p by_machine place (job ∷ jobs) =
    job_in p (times_in by_machine place job) [] job ∷ jobs_in p by_machine (place + 1) jobs

abbrev pub task_in : Problem → ℕ → TimedData → ProblemData
task_in p machines t = record {
  problem = p;
  machines = machines;
  jobs = jobs_in p t.by_machine 0 t.instance.jobs;
  arcs = if p.prec then t.instance.arcs else [];
}

-- the task of an instance without routes, or the first refusal but that of totals
abbrev pub plain_in : TimedData → Problem → Option ℕ → Result ProblemData Refusal
plain_in t p argument = do
  machines ← machines_in p (is_some t.by_machine) argument t.instance.machines
  unless (jobs_refusal_in p t) (Ok (task_in p machines t))

-- ---- with routes

-- the most processing times of a shop: its jobs times its machines
abbrev pub most_times : ℕ
most_times = 2000000

-- the greatest of this and of the machines that a route names, counted from 1
abbrev pub greatest_on : ℕ → List Step → ℕ
greatest_on most route = fold (λ greatest step. max greatest (step.machine + 1)) most route

abbrev pub greatest_named : List (List Step) → ℕ
greatest_named routes = fold greatest_on 0 routes

-- by the notation, by the caller and by the instance; else as many as the routes name
abbrev pub routed_machines_in : Problem → Option ℕ → Option ℕ → List (List Step) → Result ℕ Refusal
routed_machines_in p argument instance routes =
    agreed p.count argument >>= λ m. agreed m instance
    >>= λ n. count_in p true (unwrap_or n (greatest_named routes))

-- a job without a route
abbrev pub is_unrouted : List Step → Bool
is_unrouted route = length route == 0

-- a route that names a machine beyond so many
abbrev pub is_beyond : ℕ → List Step → Bool
is_beyond machines route = list_any (λ step. nat_le machines step.machine) route

-- a route without any time
abbrev pub is_idle_route : List Step → Bool
is_idle_route route = list_all (λ step. step.time == 0) route

-- too many processing times
abbrev pub much_in : ℕ → List (List Step) → Option Refusal
much_in machines routes =
    if nat_lt most_times (length routes * machines) then Some TotalTooLarge else None

-- the first reason for the jobs' sake, each kind over all jobs before the next
abbrev pub routes_refusal_in : Problem → ℕ → List JobFields → List (List Step) → Option Refusal
routes_refusal_in p machines jobs routes =
    option_or (option_map WrongTimes (first_with (is_beyond machines) routes))
    (option_or (missing_in p 1 jobs)
    (option_or (where_needed p (option_map ZeroTime (first_with is_idle_route routes)))
    (much_in machines routes)))

-- the time on each machine: none, but for each step its own
abbrev pub times_by : ℕ → List Step → List ℕ
times_by machines route =
    fold (λ times step. slice_set times step.machine step.time) (replicate machines 0) route

abbrev pub machines_of : List Step → List ℕ
machines_of route = map (λ step. step.machine) route

abbrev pub routed_jobs_in : Problem → ℕ → List (List Step) → List JobFields → List ProblemJobData
routed_jobs_in p machines (route ∷ routes) (job ∷ jobs) =
    job_in p (times_by machines route) (machines_of route) job
    ∷ routed_jobs_in p machines routes jobs
routed_jobs_in p machines _ _ = []

abbrev pub routed_task_in : Problem → ℕ → InstanceData → List (List Step) → ProblemData
routed_task_in p machines i routes = record {
  problem = p;
  machines = machines;
  jobs = routed_jobs_in p machines routes i.jobs;
  arcs = if p.prec then i.arcs else [];
}

-- the task of an instance with routes, or the first refusal but that of totals
abbrev pub routed_in : List (List Step) → InstanceData → Problem → Option ℕ
    → Result ProblemData Refusal
routed_in routes i p argument =
    unless (option_map WrongTimes (first_with is_unrouted routes))
    (routed_machines_in p argument i.machines routes >>= λ machines.
    unless (routes_refusal_in p machines i.jobs routes) (Ok (routed_task_in p machines i routes)))

-- ---- either

-- in a job shop the jobs have routes, elsewhere times alone
abbrev pub prepared_by : Option (List (List Step)) → TimedData → Problem → Option ℕ
    → Result ProblemData Refusal
prepared_by None t p argument =
    if is_job_shop p.env then Err (WrongTimes 1) else plain_in t p argument
prepared_by (Some routes) t p argument = routed_in routes t.instance p argument

-- the task, or the first refusal but that of totals
abbrev pub prepared_in : TimedData → Problem → Option ℕ → Result ProblemData Refusal
prepared_in t p argument = prepared_by t.routes t p argument

-- memory is wanting; or the task is not within the limits, of which those on totals are left
abbrev pub IsOfSize : ProblemData → Refusal → Type 0
IsOfSize k refusal = (refusal ≡ OutOfMemory) ⊎ ((refusal ≡ TotalTooLarge) × (¬ (IsSized k)))

-- The task, or the first refusal. Totals and memory come last, where nothing else is refused.
abbrev pub PreparesIn : Result ProblemData Refusal → Result ProblemData Refusal → Type 0
PreparesIn (Ok k) wanted = wanted ≡ Ok k
PreparesIn (Err refusal) wanted =
    (wanted ≡ Err refusal) ⊎ ((k : ProblemData) × (wanted ≡ Ok k) × IsOfSize k refusal)
