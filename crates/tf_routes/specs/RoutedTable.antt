-- Job tables with routes: the instance that a text says with the routes of its jobs, or its first
-- fault.
use Rattle.std.specs.Prelude.{ℕ, ◌-◌, Bool, not, ◌&&◌, List, [], ◌∷◌, ◌++◌, length, drop, take, map, filter, Option, Some, None, Result, Ok, Err, pos, is_some, codes, nat_lt, nat_le, ◌==◌, if◌then◌else◌}
use Rattle.std.specs.List.{before_first}
use Rattle.std.specs.Str.{bytes_eq}
use Rattle.tf_words.specs.Number.{number}
use Rattle.tf_words.specs.Words.{Line, lines, first_is, kept_from}
use Rattle.tf_words.specs.WordParts.{divided, parts}
use Rattle.tf_words.specs.declared.number.Number.{Number}
use Rattle.tf_words.specs.declared.number.Number.TheVariants.{NotANumber, Value}
use Rattle.tf_model.specs.Limit.{most_bytes, most_machines}
use Rattle.tf_model.specs.Outcome.{◌>>=◌}
use Rattle.tf_read.specs.declared.fault.ReadFault.{ReadFault}
use Rattle.tf_read.specs.declared.fault.ReadFault.TheVariants.{TooLong, BadNumber, BadLine}
use Rattle.tf_read.specs.Faults.{each_from}
use Rattle.tf_read.specs.JobTable.{table_of}
use Rattle.tf_routes.specs.declared.route.Step.{Step}
use Rattle.tf_routes.specs.Routes.{visits, time_in}
use Rattle.tf_routes.specs.RoutedData.{RoutedData}

-- a machine, written from 1 and seen from 0, on which none of these steps is
abbrev pub machine_named : List Step → ℕ → Number → Result ℕ ReadFault
machine_named before line NotANumber = Err (BadNumber line)
machine_named before line (Value (pos m)) =
    if nat_le 1 m && nat_le m most_machines && not (visits (m - 1) before) then Ok (m - 1)
    else Err (BadLine line)
machine_named before line _ = Err (BadLine line)

-- what stands before the first '@' of a step is its time, and what stands after it its machine
abbrev pub step_of : List Step → ℕ → Option (List ℕ × List ℕ) → Result Step ReadFault
step_of before line None = Err (BadLine line)
step_of before line (Some sides) =
    if is_some (divided 64 sides.1) then Err (BadLine line)
    else (time_in line sides.0 >>= λ time. machine_named before line (number sides.1)
    >>= λ machine. Ok (record { machine = machine; time = time }))

-- a step `time@machine` after these
unfoldable pub step_at : List Step → ℕ → List ℕ → Result Step ReadFault
step_at before line part = step_of before line (divided 64 part)

-- these steps, and then one for each part
unfoldable pub steps_at : List Step → ℕ → List (List ℕ) → Result (List Step) ReadFault
steps_at before line [] = Ok before
steps_at before line (part ∷ more) =
    step_at before line part >>= λ step. steps_at (before ++ step ∷ []) line more

-- the route that a value of `p` is, which has none where it has no '@'
unfoldable pub route_at : ℕ → List ℕ → Result (List Step) ReadFault
route_at line value = if is_some (divided 64 value) then steps_at [] line (parts value) else Ok []

-- a word that begins with `p=`
abbrev pub is_times : List ℕ → Bool
is_times word = bytes_eq (take 2 word) (codes "p=")

-- the value of the first such word
abbrev pub times_in : List (List ℕ) → List ℕ
times_in [] = []
times_in (word ∷ more) = if is_times word then drop 2 word else times_in more

-- a line `job ..`
abbrev pub is_job : Line → Bool
is_job line = first_is (codes "job") line.words

-- the route on such a line
abbrev pub job_route : Line → Result (List Step) ReadFault
job_route line = route_at line.number (times_in line.words)

-- the routes on the lines of the jobs
abbrev pub routes_on : List Line → Result (List (List Step)) ReadFault
routes_on all = each_from (λ k. job_route) 1 (filter is_job all)

-- a word without its route: of one that begins with `p=` what stands before its first '@'
abbrev pub unrouted_word : List ℕ → List ℕ
unrouted_word word = if is_times word then before_first (λ b. b == 64) word else word

abbrev pub unrouted_line : Line → Line
unrouted_line line = record { number = line.number; words = map unrouted_word line.words }

-- a job table by its kept lines: the table without its routes, and then the routes
unfoldable pub table_routed : List Line → Result RoutedData ReadFault
table_routed all = do
  instance ← table_of (map unrouted_line all)
  routes ← routes_on all
  Ok (record { instance = instance; routes = routes })

unfoldable pub routed_table : List ℕ → Result RoutedData ReadFault
routed_table text =
    if nat_lt most_bytes (length text) then Err TooLong
    else table_routed (kept_from 1 (lines text))
