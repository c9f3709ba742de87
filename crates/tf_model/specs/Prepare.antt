-- The task of an instance and a problem, or the first refusal. A field that the class does not use
-- is ignored.
use Rattle.std.specs.Prelude.{◌≡◌, ℕ, ◌+◌, ◌*◌, max, Bool, true, false, not, ◌&&◌, ◌||◌, ◌==◌, nat_lt, ℤ, pos, List, [], ◌∷◌, map, length, Option, None, Some, Result, Ok, Err, is_none, unwrap_or, int_lt, if◌then◌else◌, IsOk}
use Rattle.std.specs.Bool.{then_some}
use Rattle.std.specs.Option.{option_map, option_or, ok_or}
use Rattle.std.specs.List.{sum_by}
use Rattle.tf_model.specs.Limit.{limit, most_costed_jobs, most_machines}
use Rattle.tf_model.specs.Outcome.{◌>>=◌, unless}
use Rattle.tf_model.specs.Whole.{as_time}
use Rattle.tf_model.specs.Steps.{Steps, no_steps}
use Rattle.tf_model.specs.JobFields.{JobFields}
use Rattle.tf_model.specs.InstanceData.{InstanceData, any_time, first_with}
use Rattle.tf_model.specs.SchedulingTask.{JobData, SchedulingTask}
use Rattle.tf_model.specs.ClassTable.{is_shop, is_single, is_weighted, is_released, is_due, is_costed, is_ordered, is_sum}
use Rattle.tf_model.specs.ClassTable.{class_of}
use Rattle.tf_model.specs.declared.class.Class.{Class}
use Rattle.tf_model.specs.declared.problem.Problem.{Problem}
use Rattle.tf_model.specs.declared.job.Times.{Times}
use Rattle.tf_model.specs.declared.job.Times.TheVariants.{One, Two}
use Rattle.tf_model.specs.declared.prepare.Field.{Field}
use Rattle.tf_model.specs.declared.prepare.Field.TheVariants.{Weight, Due, Release, Cost}
use Rattle.tf_model.specs.declared.prepare.Refusal.{Refusal}
use Rattle.tf_model.specs.declared.prepare.Refusal.TheVariants.{NoSolver, TooManyJobs, MachinesMissing, MachinesDisagree, MachineCount, WrongTimes, MissingField, ZeroTime, TotalTooLarge, OutOfMemory}

abbrev pub work_of : List JobData → ℕ
work_of jobs = sum_by (λ job. job.first + job.second) jobs

-- ---- the class, the number of jobs, and the number of machines

-- where each job has a cost function of its own, there are fewer jobs at most
abbrev pub is_too_many : Class → ℕ → Bool
is_too_many class jobs = is_costed class && nat_lt most_costed_jobs jobs

-- the count that two places give, each perhaps none
abbrev pub agreed : Option ℕ → Option ℕ → Result (Option ℕ) Refusal
agreed None other = Ok other
agreed (Some m) None = Ok (Some m)
agreed (Some m) (Some n) = if m == n then Ok (Some m) else Err MachinesDisagree

abbrev pub given : Option ℕ → Result ℕ Refusal
given count = ok_or count MachinesMissing

-- a shop has two machines, and machines in parallel are 1 to 1000
abbrev pub count_for : Class → ℕ → Result ℕ Refusal
count_for class m =
    if nat_lt m 1 || nat_lt most_machines m
    || (is_shop class && not (m == 2)) then Err (MachineCount m) else Ok m

-- by the notation, by the caller and by the instance; a single machine ignores them
abbrev pub machines_for : Class → Option ℕ → Option ℕ → Option ℕ → Result ℕ Refusal
machines_for class notation argument instance =
    if is_single class then Ok 1
    else (agreed notation argument >>= λ m. agreed m instance >>= λ n. given n
    >>= λ count. count_for class count)

-- ---- the jobs

abbrev pub has_two : Times → Bool
has_two (One a) = false
has_two (Two a b) = true

-- two times where the class wants one, or one where it wants two
abbrev pub has_wrong_times : Class → JobFields → Bool
has_wrong_times class job = if is_shop class then not (has_two job.times) else has_two job.times

-- the first field that the class uses and the job lacks
abbrev pub lacking : Class → JobFields → Option Field
lacking class job =
    if is_weighted class && is_none job.weight then Some Weight
    else if is_released class && is_none job.release then Some Release
    else if is_due class && is_none job.due then Some Due
    else if is_costed class && is_none job.cost then Some Cost
    else None

-- the first job that lacks a field, of jobs of which the first has this number
abbrev pub missing_from : Class → ℕ → List JobFields → Option Refusal
missing_from class j [] = None
missing_from class j (job ∷ jobs) =
    option_or (option_map (MissingField j) (lacking class job)) (missing_from class (j + 1) jobs)

abbrev pub has_zero_time : JobFields → Bool
has_zero_time job = any_time (λ p. int_lt p (pos 1)) job.times

-- on single and parallel machines a time is at least 1
abbrev pub zero_time : Class → List JobFields → Option Refusal
zero_time class jobs =
    if is_shop class then None else option_map ZeroTime (first_with has_zero_time jobs)

-- ---- the task

abbrev pub first_time : Times → ℤ
first_time (One a) = a
first_time (Two a b) = a

abbrev pub second_time : Times → ℤ
second_time (One a) = pos 0
second_time (Two a b) = b

-- what the class uses of a job, and what is neutral for the rest
abbrev pub data_of : Class → JobFields → JobData
data_of class job = record {
  first = as_time (first_time job.times);
  second = as_time (second_time job.times);
  weight = if is_weighted class then as_time (unwrap_or job.weight (pos 0)) else 1;
  release = if is_released class then as_time (unwrap_or job.release (pos 0)) else 0;
  due = if is_due class then unwrap_or job.due (pos 0) else pos 0;
}

abbrev pub steps_of : JobFields → Steps
steps_of job = unwrap_or job.cost no_steps

-- the cost functions, where the class has them
abbrev pub kept_costs : Class → List JobFields → List Steps
kept_costs class jobs = if is_costed class then map steps_of jobs else []

-- the arcs, where the class keeps them
abbrev pub kept_arcs : Class → List (ℕ × ℕ) → List (ℕ × ℕ)
kept_arcs class arcs = if is_ordered class then arcs else []

abbrev pub task_of : Class → ℕ → InstanceData → SchedulingTask
task_of class machines i = record {
  class = class;
  machines = machines;
  jobs = map (data_of class) i.jobs;
  costs = kept_costs class i.jobs;
  arcs = kept_arcs class i.arcs;
}

-- the greatest of the numbers, 0 if there are none
abbrev pub greatest_of : List ℕ → ℕ
greatest_of [] = 0
greatest_of (x ∷ xs) = max x (greatest_of xs)

-- all the work, the work behind the last release date, or for a sum of completion times the weights
-- times the work
abbrev pub is_too_large : Class → List JobData → Bool
is_too_large class jobs =
    nat_lt limit (work_of jobs)
    || nat_lt limit (greatest_of (map (λ job. job.release) jobs) + work_of jobs)
    || (is_sum class && nat_lt limit (sum_by (λ job. job.weight) jobs * work_of jobs))

-- each kind of refusal over all jobs before the next, with the smallest job
abbrev pub jobs_refusal : Class → List JobFields → Option Refusal
jobs_refusal class jobs =
    option_or (option_map WrongTimes (first_with (has_wrong_times class) jobs))
    (option_or (missing_from class 1 jobs)
    (option_or (zero_time class jobs)
    (then_some (is_too_large class (map (data_of class) jobs)) TotalTooLarge)))

abbrev pub prepared : InstanceData → Problem → Option ℕ → Result SchedulingTask Refusal
prepared i problem argument = do
  class ← ok_or (class_of problem) NoSolver
  machines ← unless (then_some (is_too_many class (length i.jobs)) TooManyJobs)
      (machines_for class problem.count argument i.machines)
  unless (jobs_refusal class i.jobs) (Ok (task_of class machines i))

-- what `prepare` answers: what is prepared or refused, or want of memory once nothing is refused
abbrev pub Prepares : Result SchedulingTask Refusal → Result SchedulingTask Refusal → Type 0
Prepares (Ok k) wanted = wanted ≡ Ok k
Prepares (Err OutOfMemory) wanted = IsOk wanted
Prepares (Err refusal) wanted = wanted ≡ Err refusal
