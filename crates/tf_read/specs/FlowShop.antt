-- Flow shop texts: the instance of a name that a text holds, or its first fault.
use Rattle.std.specs.Prelude.{◌≡◌, ℕ, ◌+◌, ◌*◌, ◌/◌, ◌%◌, Bool, true, not, ◌&&◌, ◌||◌, List, [], ◌∷◌, length, map, take, Option, Some, None, Result, Ok, Err, ℤ, pos, negsuc, codes, nat_lt, ◌==◌, if◌then◌else◌}
use Rattle.std.specs.List.{range_with_len}
use Rattle.std.specs.Option.{option_map_or}
use Rattle.std.specs.Str.{bytes_eq}
use Rattle.std.specs.Cmp.Lexicographic.{pointwise}
use Rattle.tf_words.specs.Number.{number, limit, is_numeral}
use Rattle.tf_words.specs.Words.{Word, words, lines, words_from}
use Rattle.tf_model.specs.JobFields.{JobFields}
use Rattle.tf_model.specs.InstanceData.{InstanceData}
use Rattle.tf_model.specs.declared.job.Times.TheVariants.{One, Two}
use Rattle.tf_model.specs.Limit.{most_bytes, most_jobs, most_machines}
use Rattle.tf_words.specs.declared.number.Number.{Number}
use Rattle.tf_words.specs.declared.number.Number.TheVariants.{NotANumber, TooLarge, Value}
use Rattle.tf_read.specs.declared.fault.ReadFault.{ReadFault}
use Rattle.tf_read.specs.declared.fault.ReadFault.TheVariants.{TooLong, BadNumber, EndsEarly, NoInstance, NotAFlowShop, BadPair, BadLine, NoJobs, TooManyJobs}
use Rattle.tf_model.specs.Outcome.{◌>>=◌}
use Rattle.tf_read.specs.Faults.{each_from, natural, number_at}

-- Words count from 0 here, those behind the line of the sizes. Each second word is a time, and the
-- word before it names the machine, from 0.
abbrev pub is_time : ℕ → Bool
is_time i = i % 2 == 1

abbrev pub machine_at : ℕ → ℕ → ℕ
machine_at machines i = i / 2 % machines

-- the machine that is wanted
abbrev pub machine_is : ℕ → ℕ → Number → Result ℤ ReadFault
machine_is wanted line NotANumber = Err (BadNumber line)
machine_is wanted line (Value (pos i)) = if i == wanted then Ok (pos i) else Err (NotAFlowShop line)
machine_is wanted line _ = Err (NotAFlowShop line)

abbrev pub shop_number_read : ℕ → ℕ → ℕ → Number → Result ℤ ReadFault
shop_number_read machines i line read =
    if is_time i then natural line read else machine_is (machine_at machines i) line read

abbrev pub shop_number : ℕ → ℕ → Word → Result ℤ ReadFault
shop_number machines i word = shop_number_read machines i word.line (number word.bytes)

-- the machines whose times are kept
abbrev pub first_kept : Option (ℕ × ℕ) → ℕ
first_kept None = 0
first_kept (Some pair) = pair.0

-- where there is but one machine, it is both
abbrev pub second_kept : ℕ → Option (ℕ × ℕ) → ℕ
second_kept machines None = if machines == 1 then 0 else 1
second_kept machines (Some pair) = pair.1

abbrev pub machines_kept : ℕ → Option (ℕ × ℕ) → ℕ
machines_kept machines None = machines
machines_kept machines (Some pair) = 2

-- the time of a job on a machine stands here, where jobs and machines count from 0
abbrev pub time_place : ℕ → ℕ → ℕ → ℕ
time_place machines machine j = 2 * (j * machines + machine) + 1

-- a job with these times; one where there is one machine
abbrev pub job_with : ℕ → ℤ → ℤ → JobFields
job_with machines first second = record {
  times = if machines == 1 then One first else Two first second;
  weight = None;
  due = None;
  release = None;
  cost = None;
}

-- job j on these two machines
abbrev pub shop_job : ℕ → ℕ → ℕ → List ℤ → ℕ → JobFields
shop_job machines first second numbers j =
    job_with machines (number_at numbers (time_place machines first j))
    (number_at numbers (time_place machines second j))

abbrev pub shop_jobs : ℕ → ℕ → ℕ → ℕ → List ℤ → List JobFields
shop_jobs jobs machines first second numbers =
    map (shop_job machines first second numbers) (range_with_len 0 jobs)

-- the instance, where all its numbers are there
abbrev pub shop_of : ℕ → ℕ → Option (ℕ × ℕ) → List ℤ → Result InstanceData ReadFault
shop_of jobs machines pair numbers =
    if nat_lt (length numbers) (2 * jobs * machines) then Err EndsEarly
    else Ok (record {
      jobs = shop_jobs jobs machines (first_kept pair) (second_kept machines pair) numbers;
      arcs = [];
      machines = Some (machines_kept machines pair);
    })

-- for each job and each machine the machine and the time, however the lines are broken
unfoldable pub pairs_of : ℕ → ℕ → Option (ℕ × ℕ) → List Word → Result InstanceData ReadFault
pairs_of jobs machines pair words =
    each_from (shop_number machines) 0 (take (2 * jobs * machines) words)
    >>= λ numbers. shop_of jobs machines pair numbers

-- it is what words say of the pairs of some jobs on some machines
abbrev pub IsOfPairs : Result InstanceData ReadFault → Type 0
IsOfPairs outcome = (jobs : ℕ) × (machines : ℕ) × (pair : Option (ℕ × ℕ)) × (words : List Word)
    × (outcome ≡ pairs_of jobs machines pair words)

-- two machines that are there, and not the same
abbrev pub are_machines : ℕ → Option (ℕ × ℕ) → Bool
are_machines machines None = true
are_machines machines (Some pair) =
    not (pair.0 == pair.1) && nat_lt pair.0 machines && nat_lt pair.1 machines

-- a size of digits alone; of those above the limit each is as good as another
abbrev pub size : Number → ℕ
size (Value (pos n)) = n
size TooLarge = limit + 1
size _ = 0

-- the sizes stand on this line, and the words behind it
unfoldable pub sized : Option (ℕ × ℕ) → ℕ → ℕ → ℕ → List Word → Result InstanceData ReadFault
sized pair line jobs machines words =
    if jobs == 0 then Err NoJobs
    else if nat_lt most_jobs jobs then Err TooManyJobs
    else if machines == 0 || nat_lt most_machines machines then Err (BadLine line)
    else if not (are_machines machines pair) then Err BadPair
    else pairs_of jobs machines pair words

-- two words of digits alone
abbrev pub sizes_in : List (List ℕ) → Option (ℕ × ℕ)
sizes_in (a ∷ b ∷ []) =
    if is_numeral a && is_numeral b then Some (size (number a), size (number b)) else None
sizes_in _ = None

-- The first line in whose words something is found: its number, where the first of all lines has
-- number `n`, what is found, and the lines below; or the fault, where there is no such line.
unfoldable pub first_line : {A : Type 0} → ReadFault → (List (List ℕ) → Option A) → ℕ
    → List (List ℕ) → Result (ℕ × A × List (List ℕ)) ReadFault
first_line fault find n [] = Err fault
first_line fault find n (line ∷ below) =
    option_map_or (λ found. Ok (n, found, below)) (find (words line))
    (first_line fault find (n + 1) below)

-- from the first line of sizes on
unfoldable pub from_sizes : Option (ℕ × ℕ) → ℕ → List (List ℕ) → Result InstanceData ReadFault
from_sizes pair n all = do
  (line, (jobs, machines), below) ← first_line EndsEarly sizes_in n all
  sized pair line jobs machines (words_from (line + 1) below)

-- exactly `instance` and the name
abbrev pub is_name_line : List ℕ → List (List ℕ) → Bool
is_name_line name words = pointwise bytes_eq words (codes "instance" ∷ name ∷ [])

-- the name that is wanted, if this is its line
abbrev pub name_in : List ℕ → List (List ℕ) → Option (List ℕ)
name_in name words = if is_name_line name words then Some name else None

-- from the first heading of the name on
unfoldable pub from_heading : List ℕ → Option (ℕ × ℕ) → ℕ → List (List ℕ)
    → Result InstanceData ReadFault
from_heading name pair n all = do
  (line, _, below) ← first_line NoInstance (name_in name) n all
  from_sizes pair (line + 1) below

unfoldable pub flow_shop : List ℕ → Option (ℕ × ℕ) → List ℕ → Result InstanceData ReadFault
flow_shop name pair text =
    if nat_lt most_bytes (length text) then Err TooLong else from_heading name pair 1 (lines text)
