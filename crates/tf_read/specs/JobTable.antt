-- The job table: the instance that a text says, or its first fault.
use Rattle.std.specs.Prelude.{ℕ, Bool, false, not, ◌&&◌, List, [], ◌∷◌, length, drop, Option, Some, None, Result, Ok, Err, pos, negsuc, codes, nat_lt, nat_le, ◌==◌, if◌then◌else◌}
use Rattle.std.specs.List.{before_first, position_or_len}
use Rattle.std.specs.Str.{bytes_eq}
use Rattle.std.specs.Cmp.Lexicographic.{pointwise}
use Rattle.tf_words.specs.Number.{number, plain}
use Rattle.tf_words.specs.Words.{Line, lines, first_is, kept_from}
use Rattle.tf_model.specs.JobFields.{JobFields}
use Rattle.tf_model.specs.InstanceData.{InstanceData, is_no_job}
use Rattle.tf_model.specs.Limit.{most_bytes, most_jobs, most_machines, most_arcs}
use Rattle.tf_words.specs.declared.number.Number.{Number}
use Rattle.tf_words.specs.declared.number.Number.TheVariants.{NotANumber, TooLarge, Value}
use Rattle.tf_read.specs.declared.fault.ReadFault.{ReadFault}
use Rattle.tf_read.specs.declared.fault.ReadFault.TheVariants.{TooLong, BadNumber, EndsEarly, BadLine, NoJobs, TooManyJobs, TooManyArcs, BadArc}
use Rattle.tf_model.specs.Outcome.{◌>>=◌}
use Rattle.tf_read.specs.Faults.{each_from}
use Rattle.tf_read.specs.JobLine.{fields_at, no_fields}

-- `machines m`, with m from 1 to the most machines
abbrev pub machines_named : ℕ → Number → Result ℕ ReadFault
machines_named line NotANumber = Err (BadNumber line)
machines_named line (Value (pos m)) =
    if nat_le 1 m && nat_le m most_machines then Ok m else Err (BadLine line)
machines_named line _ = Err (BadLine line)

unfoldable pub machines_at : ℕ → List (List ℕ) → Result ℕ ReadFault
machines_at line (word ∷ []) = machines_named line (number word)
machines_at line _ = Err (BadLine line)

abbrev pub is_job_number : ℕ → Option ℕ → Bool
is_job_number k None = false
is_job_number k (Some n) = n == k

-- the number k without leading zeros, and the fields
abbrev pub numbered_job : ℕ → ℕ → List (List ℕ) → Result JobFields ReadFault
numbered_job line k [] = Err (BadLine line)
numbered_job line k (word ∷ more) =
    if is_job_number k (plain most_jobs word) then fields_at line no_fields more
    else Err (BadLine line)

-- the line of job k
unfoldable pub job_line : ℕ → Line → Result JobFields ReadFault
job_line k line =
    if not (first_is (codes "job") line.words) then Err (BadLine line.number)
    else if nat_lt most_jobs k then Err TooManyJobs
    else numbered_job line.number k (drop 1 line.words)

-- a line `prec ..`
abbrev pub is_arc : Line → Bool
is_arc line = first_is (codes "prec") line.words

-- a job of an arc, from 1 to the number of jobs
abbrev pub arc_job : ℕ → ℕ → Number → Result ℕ ReadFault
arc_job jobs line NotANumber = Err (BadNumber line)
arc_job jobs line (Value (pos j)) = if is_no_job jobs j then Err (BadArc line) else Ok j
arc_job jobs line _ = Err (BadArc line)

-- two words, judged one after the other
unfoldable pub arc_of : ℕ → ℕ → List (List ℕ) → Result (ℕ × ℕ) ReadFault
arc_of jobs line (a ∷ b ∷ []) =
    arc_job jobs line (number a) >>= λ first. arc_job jobs line (number b)
    >>= λ second. Ok (first, second)
arc_of jobs line _ = Err (BadLine line)

-- the line of arc k
unfoldable pub arc_line : ℕ → ℕ → Line → Result (ℕ × ℕ) ReadFault
arc_line jobs k line =
    if not (is_arc line) then Err (BadLine line.number)
    else if nat_lt most_arcs k then Err TooManyArcs
    else arc_of jobs line.number (drop 1 line.words)

-- what is missing where no job is there
abbrev pub without_jobs : List Line → ReadFault
without_jobs [] = NoJobs
without_jobs (line ∷ more) = BadLine line.number

-- a line for each arc, behind one job or more
unfoldable pub arcs_of : ℕ → List Line → Result (List (ℕ × ℕ)) ReadFault
arcs_of jobs all = if jobs == 0 then Err (without_jobs all) else each_from (arc_line jobs) 1 all

-- from the first element that passes on
abbrev pub since_first : {X : Type 0} → (X → Bool) → List X → List X
since_first p xs = drop (position_or_len p xs) xs

-- a line for each job up to the first arc, and then the arcs
unfoldable pub body_of : Option ℕ → List Line → Result InstanceData ReadFault
body_of machines all = do
  jobs ← each_from job_line 1 (before_first is_arc all)
  arcs ← arcs_of (length jobs) (since_first is_arc all)
  Ok (record { jobs = jobs; arcs = arcs; machines = machines })

-- at most one line `machines m` before them
unfoldable pub below_heading : List Line → Result InstanceData ReadFault
below_heading [] = body_of None []
below_heading (line ∷ more) =
    if first_is (codes "machines") line.words
    then (machines_at line.number (drop 1 line.words) >>= λ m. body_of (Some m) more)
    else body_of None (line ∷ more)

-- the heading is exactly `table 1`
abbrev pub is_table_heading : List (List ℕ) → Bool
is_table_heading words = pointwise bytes_eq words (codes "table" ∷ codes "1" ∷ [])

unfoldable pub table_of : List Line → Result InstanceData ReadFault
table_of [] = Err EndsEarly
table_of (heading ∷ more) =
    if is_table_heading heading.words then below_heading more else Err (BadLine heading.number)

-- a text by its kept lines
unfoldable pub job_table : List ℕ → Result InstanceData ReadFault
job_table text =
    if nat_lt most_bytes (length text) then Err TooLong else table_of (kept_from 1 (lines text))
