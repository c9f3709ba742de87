-- Job shop texts: the instance of a name that a text holds, with the routes of its jobs, or its
-- first fault.
use Rattle.std.specs.Prelude.{ℕ, zero, suc, ◌+◌, not, ◌&&◌, ◌||◌, List, [], ◌∷◌, ◌++◌, length, map, Some, None, Result, Ok, Err, pos, nat_lt, ◌==◌, if◌then◌else◌}
use Rattle.tf_words.specs.Number.{number}
use Rattle.tf_words.specs.Words.{Word, lines, words_from}
use Rattle.tf_words.specs.declared.number.Number.{Number}
use Rattle.tf_words.specs.declared.number.Number.TheVariants.{NotANumber, Value}
use Rattle.tf_model.specs.JobFields.{JobFields}
use Rattle.tf_model.specs.declared.job.Times.TheVariants.{One}
use Rattle.tf_model.specs.Limit.{most_bytes, most_jobs, most_machines}
use Rattle.tf_model.specs.Outcome.{◌>>=◌}
use Rattle.tf_read.specs.declared.fault.ReadFault.{ReadFault}
use Rattle.tf_read.specs.declared.fault.ReadFault.TheVariants.{TooLong, BadNumber, EndsEarly, NoInstance, BadLine, NoJobs, TooManyJobs}
use Rattle.tf_read.specs.FlowShop.{first_line, name_in, sizes_in}
use Rattle.tf_routes.specs.declared.route.Step.{Step}
use Rattle.tf_routes.specs.Routes.{visits, time_in}
use Rattle.tf_routes.specs.RoutedData.{RoutedData}

-- a machine of so many, from 0, on which none of these steps is
abbrev pub machine_in : ℕ → List Step → ℕ → Number → Result ℕ ReadFault
machine_in machines before line NotANumber = Err (BadNumber line)
machine_in machines before line (Value (pos machine)) =
    if nat_lt machine machines && not (visits machine before) then Ok machine
    else Err (BadLine line)
machine_in machines before line _ = Err (BadLine line)

-- the machine that the first of some words is, and the words after it
unfoldable pub machine_first : ℕ → List Step → List Word → Result (ℕ × List Word) ReadFault
machine_first machines before [] = Err EndsEarly
machine_first machines before (word ∷ more) =
    machine_in machines before word.line (number word.bytes) >>= λ machine. Ok (machine, more)

-- the time that the first of some words is, and the words after it
unfoldable pub time_first : List Word → Result (ℕ × List Word) ReadFault
time_first [] = Err EndsEarly
time_first (word ∷ more) = time_in word.line word.bytes >>= λ time. Ok (time, more)

-- the next step of a route that has these: a machine and a time
unfoldable pub step_first : ℕ → List Step → List Word → Result (Step × List Word) ReadFault
step_first machines before words = do
  (machine, timed) ← machine_first machines before words
  (time, more) ← time_first timed
  Ok (record { machine = machine; time = time }, more)

-- these steps and so many more, and the words after them
unfoldable pub route_first : ℕ → ℕ → List Step → List Word
    → Result (List Step × List Word) ReadFault
route_first machines zero before words = Ok (before, words)
route_first machines (suc count) before words = do
  (step, more) ← step_first machines before words
  route_first machines count (before ++ step ∷ []) more

-- these routes and those of so many more jobs, each with a step on each machine; the words after
-- them are not judged
unfoldable pub routes_in : ℕ → ℕ → List (List Step) → List Word
    → Result (List (List Step)) ReadFault
routes_in machines zero before words = Ok before
routes_in machines (suc jobs) before words = do
  (route, more) ← route_first machines machines [] words
  routes_in machines jobs (before ++ route ∷ []) more

-- the time of the first step
abbrev pub first_time : List Step → ℕ
first_time [] = 0
first_time (step ∷ more) = step.time

-- the job of a route, with the time of its first step
abbrev pub routed_job : List Step → JobFields
routed_job route = record {
  times = One (pos (first_time route));
  weight = None;
  due = None;
  release = None;
  cost = None;
}

-- the jobs of these routes, on so many machines
abbrev pub shop_of : ℕ → List (List Step) → RoutedData
shop_of machines routes = record {
  instance = record { jobs = map routed_job routes; arcs = []; machines = Some machines };
  routes = routes;
}

-- the instance of these sizes, which stand on this line, and of the words after it
unfoldable pub shop_sized : ℕ → ℕ → ℕ → List Word → Result RoutedData ReadFault
shop_sized line jobs machines words =
    if jobs == 0 then Err NoJobs
    else if nat_lt most_jobs jobs then Err TooManyJobs
    else if machines == 0 || nat_lt most_machines machines then Err (BadLine line)
    else (routes_in machines jobs [] words >>= λ routes. Ok (shop_of machines routes))

-- from the first line of sizes on, where the first of all lines has number `n`
unfoldable pub from_sizes : ℕ → List (List ℕ) → Result RoutedData ReadFault
from_sizes n all = do
  (line, (jobs, machines), below) ← first_line EndsEarly sizes_in n all
  shop_sized line jobs machines (words_from (line + 1) below)

-- from the first heading of the name on
unfoldable pub from_heading : List ℕ → ℕ → List (List ℕ) → Result RoutedData ReadFault
from_heading name n all = do
  (line, _, below) ← first_line NoInstance (name_in name) n all
  from_sizes (line + 1) below

unfoldable pub job_shop : List ℕ → List ℕ → Result RoutedData ReadFault
job_shop name text =
    if nat_lt most_bytes (length text) then Err TooLong else from_heading name 1 (lines text)
