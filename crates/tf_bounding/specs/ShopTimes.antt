-- The processing times of a shop on all machines of a flow shop file, and the routes of a job shop.
use Rattle.std.specs.Prelude.{ℕ, ◌*◌, Bool, ◌==◌, nat_lt, List, [], length, map, Option, None, Some, Result, Ok, Err, unwrap_or, if◌then◌else◌}
use Rattle.std.specs.List.{range_with_len}
use Rattle.tf_model.specs.ClassTable.{is_shop_env}
use Rattle.tf_model.specs.InstanceData.{InstanceData}
use Rattle.tf_model.specs.Outcome.{◌>>=◌}
use Rattle.tf_model.specs.declared.prepare.Refusal.TheVariants.{TotalTooLarge}
use Rattle.tf_model.specs.declared.problem.Env.{Env}
use Rattle.tf_posed.specs.ProblemData.{is_job_shop}
use Rattle.tf_read.specs.declared.fault.ReadFault.{ReadFault}
use Rattle.tf_read.specs.FlowShop.{flow_shop}
use Rattle.tf_routes.specs.JobShop.{job_shop}
use Rattle.tf_routes.specs.RoutedData.{RoutedData}
use Rattle.tf_routes.specs.RoutedTable.{routed_table}
use Rattle.tf_engine.specs.Faults.{Refused, ByTask, ByText}
use Rattle.tf_engine.specs.FormData.{FormData, InTable, InWt, InFlow}
use Rattle.tf_engine.specs.Parts.{instance_said}
use Rattle.tf_engine.specs.Refusal.{refused_by}
use Rattle.tf_prepare.specs.TimedData.{TimedData, self_timed, with_routes}
use Rattle.tf_prepare.specs.Preparing.{first_of, most_times}

-- Machine i of so many, counted from 0, and another one: of the two times that a job then has in a
-- flow shop text, the first is that on machine i. Where there is one machine alone, a job has one
-- time.
abbrev pub pair_for : ℕ → ℕ → Option (ℕ × ℕ)
pair_for machines i = if machines == 1 then None else Some (i, if i == 0 then 1 else 0)

-- a text that says an instance says one for each pair of its machines too
abbrev pub first_times : Result InstanceData ReadFault → List ℕ
first_times (Ok instance) = map first_of instance.jobs
first_times (Err fault) = []

-- the times of all jobs on machine i of so many, in the instance of this name
abbrev pub times_on : List ℕ → ℕ → List ℕ → ℕ → List ℕ
times_on name machines text i = first_times (flow_shop name (pair_for machines i) text)

-- the same on each machine
abbrev pub times_by_machine : List ℕ → ℕ → List ℕ → List (List ℕ)
times_by_machine name machines text =
    map (times_on name machines text) (range_with_len 0 machines)

-- the number of machines of an instance of a flow shop file, which gives it
abbrev pub machines_of : InstanceData → ℕ
machines_of instance = unwrap_or instance.machines 0

-- there are too many times
abbrev pub is_too_much : InstanceData → Bool
is_too_much instance = nat_lt most_times (length instance.jobs * machines_of instance)

-- an instance of a text, with the times on all its machines, where that is not too much
abbrev pub with_times : List ℕ → List ℕ → InstanceData → Result TimedData Refused
with_times name text instance =
    if is_too_much instance then Err (ByTask TotalTooLarge)
    else Ok (record {
      instance = instance;
      by_machine = Some (times_by_machine name (machines_of instance) text);
      routes = None;
    })

-- the instance of this name, with the times on all machines
abbrev pub shop_said : List ℕ → List ℕ → Result TimedData Refused
shop_said name text =
    instance_said (InFlow name None) text >>= λ instance. with_times name text instance

-- the instance that a text of this form holds, with the times that its jobs have themselves
abbrev pub self_timed_said : FormData → List ℕ → Result TimedData Refused
self_timed_said form text = instance_said form text >>= λ instance. Ok (self_timed instance)

-- a job table with the routes of its jobs
abbrev pub table_said : List ℕ → Result RoutedData Refused
table_said text = refused_by ByText (routed_table text)

-- the instance of this name of a job shop file, with the routes of its jobs
abbrev pub job_shop_said : List ℕ → List ℕ → Result RoutedData Refused
job_shop_said name text = refused_by ByText (job_shop name text)

-- either of them as times
abbrev pub with_routes_said : Result RoutedData Refused → Result TimedData Refused
with_routes_said said = said >>= λ r. Ok (with_routes r)

-- For a job shop a job table has routes; and in place of a flow shop file, where no pair of machines
-- is named, a job shop file is read. For another shop the times are those on all machines of the
-- flow shop file. Otherwise they are those of the jobs themselves.
abbrev pub timed_said : FormData → Env → List ℕ → Result TimedData Refused
timed_said InTable env text =
    if is_job_shop env then with_routes_said (table_said text)
    else self_timed_said InTable text
timed_said (InWt jobs index) env text = self_timed_said (InWt jobs index) text
timed_said (InFlow name (Some pair)) env text = self_timed_said (InFlow name (Some pair)) text
timed_said (InFlow name None) env text =
    if is_job_shop env then with_routes_said (job_shop_said name text)
    else if is_shop_env env then shop_said name text
    else self_timed_said (InFlow name None) text
