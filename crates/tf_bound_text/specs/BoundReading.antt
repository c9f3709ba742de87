-- What the text of a bound says, or its first fault. A line that is kept is read by its words.
use Rattle.std.specs.Prelude.{ℕ, ◌-◌, ℤ, pos, negsuc, Bool, true, false, List, [], ◌∷◌, length, drop, codes, Option, Some, None, Result, Ok, Err, nat_lt, if◌then◌else◌}
use Rattle.std.specs.Str.{bytes_eq}
use Rattle.std.specs.Cmp.Lexicographic.{pointwise}
use Rattle.tf_model.specs.Outcome
use Rattle.tf_model.specs.Outcome.{◌>>=◌}
use Rattle.tf_model.specs.Whole.{as_time}
use Rattle.tf_model.specs.Limit.{limit, most_bytes, most_jobs, most_machines}
use Rattle.tf_model.specs.declared.problem.Problem.{Problem}
use Rattle.tf_words.specs.Words.{words, lines, first_is, KeptLine, kept_lines}
use Rattle.tf_words.specs.LineParts.{after_word, without_return}
use Rattle.tf_words.specs.Ranged.{number_in}
use Rattle.tf_words.specs.declared.ranged.Ranged.{Ranged}
use Rattle.tf_words.specs.declared.ranged.Ranged.TheVariants.{NotANumber, Below, Above, Within}
use Rattle.tf_notation.specs.Reading.{notation}
use Rattle.tf_bound_text.specs.BoundSheetData.{Basis, ByMachine, ByWindow, ByCrowd, ByOneJob, ByMultipliers, ByPrices, ByMachinePrices, ByAlone, ByKept, ByShortest, ByRanks, ByParts, BoundSheetData, BySplit, ByPotentials}
use Rattle.tf_bound_text.specs.declared.fault.BoundTextFault.{BoundTextFault}
use Rattle.tf_bound_text.specs.declared.fault.BoundTextFault.TheVariants.{TooLong, BadLine, OutOfRange, BadNotation, EndsEarly, OutOfMemory}

-- each error but want of memory is a fault of the text
abbrev pub fault_in : BoundTextFault → Option BoundTextFault
fault_in OutOfMemory = None
fault_in e = Some e

abbrev pub Fails : {Y : Type 0} → BoundTextFault → Result Y BoundTextFault → Type 0
Fails e = Outcome.IsFault (fault_in e)

abbrev pub Gives : {X Y : Type 0} → (X → Y) → Result X BoundTextFault → Result Y BoundTextFault
    → Type 0
Gives = Outcome.Gives fault_in

-- ---- numbers

-- a number of a line, where it lies in its range
abbrev pub within : ℕ → Ranged → Result ℤ BoundTextFault
within line NotANumber = Err (BadLine line)
within line Below = Err (OutOfRange line)
within line Above = Err (OutOfRange line)
within line (Within z) = Ok z

-- a word as a whole number from `least` to `most`, neither of them negative
unfoldable pub natural : ℕ → ℕ → ℕ → List ℕ → Result ℕ BoundTextFault
natural line least most word =
    within line (number_in (pos least) (pos most) word) >>= λ z. Ok (as_time z)

-- a word as a value: any whole number of 64 bits
abbrev pub value_in : ℕ → List ℕ → Result ℤ BoundTextFault
value_in line word =
    within line (number_in (negsuc 9223372036854775807) (pos 9223372036854775807) word)

-- all words as such numbers, from left to right
unfoldable pub naturals : ℕ → ℕ → ℕ → List (List ℕ) → Result (List ℕ) BoundTextFault
naturals line least most [] = Ok []
naturals line least most (word ∷ more) = do
  number ← natural line least most word
  numbers ← naturals line least most more
  Ok (number ∷ numbers)

-- all words as values, from left to right
unfoldable pub values : ℕ → List (List ℕ) → Result (List ℤ) BoundTextFault
values line [] = Ok []
values line (word ∷ more) = do
  value ← value_in line word
  others ← values line more
  Ok (value ∷ others)

-- the first word as such a number, and the other words
abbrev pub first_number : ℕ → ℕ → ℕ → List (List ℕ) → Result (ℕ × List (List ℕ)) BoundTextFault
first_number line least most [] = Err (BadLine line)
first_number line least most (word ∷ more) =
    natural line least most word >>= λ number. Ok (number, more)

-- the first word as such a value, and the other words
abbrev pub first_value : ℕ → List (List ℕ) → Result (ℤ × List (List ℕ)) BoundTextFault
first_value line [] = Err (BadLine line)
first_value line (word ∷ more) = value_in line word >>= λ value. Ok (value, more)

-- exactly one word
abbrev pub only : ℕ → List (List ℕ) → Result (List ℕ) BoundTextFault
only line [] = Err (BadLine line)
only line (word ∷ []) = Ok word
only line (word ∷ other ∷ more) = Err (BadLine line)

-- ---- the certificate

-- a machine, counted from 1, and jobs
unfoldable pub machine_basis : ℕ → List (List ℕ) → Result Basis BoundTextFault
machine_basis line words = do
  (machine, more) ← first_number line 1 most_machines words
  jobs ← naturals line 1 most_jobs more
  Ok (ByMachine (machine - 1) jobs)

unfoldable pub window_basis : ℕ → List (List ℕ) → Result Basis BoundTextFault
window_basis line words = do
  jobs ← naturals line 1 most_jobs words
  Ok (ByWindow jobs)

unfoldable pub crowd_basis : ℕ → List (List ℕ) → Result Basis BoundTextFault
crowd_basis line words = do
  (h, more) ← first_number line 0 most_jobs words
  jobs ← naturals line 1 most_jobs more
  Ok (ByCrowd h jobs)

unfoldable pub one_job_basis : ℕ → List (List ℕ) → Result Basis BoundTextFault
one_job_basis line words = do
  word ← only line words
  job ← natural line 1 most_jobs word
  Ok (ByOneJob job)

-- a machine, counted from 1, a denominator and numerators
unfoldable pub multiplier_basis : ℕ → List (List ℕ) → Result Basis BoundTextFault
multiplier_basis line words = do
  (machine, more) ← first_number line 1 most_machines words
  (q, more) ← first_number line 0 limit more
  numerators ← naturals line 0 limit more
  Ok (ByMultipliers (machine - 1) q numerators [])

unfoldable pub price_basis : ℕ → List (List ℕ) → Result Basis BoundTextFault
price_basis line words = do
  (q, more) ← first_number line 0 limit words
  rows ← naturals line 0 limit more
  Ok (ByPrices q rows)

-- a machine, counted from 1, a denominator and prices
unfoldable pub machine_price_basis : ℕ → List (List ℕ) → Result Basis BoundTextFault
machine_price_basis line words = do
  (machine, more) ← first_number line 1 most_machines words
  (q, more) ← first_number line 0 limit more
  rows ← naturals line 0 limit more
  Ok (ByMachinePrices (machine - 1) q rows)

-- no word
abbrev pub alone_basis : ℕ → List (List ℕ) → Result Basis BoundTextFault
alone_basis line [] = Ok ByAlone
alone_basis line (word ∷ more) = Err (BadLine line)

-- jobs by due date, by release date, and by falling time
unfoldable pub kept_basis : ℕ → List (List ℕ) → Result Basis BoundTextFault
kept_basis line words = do
  jobs ← naturals line 1 most_jobs words
  Ok (ByKept jobs)

unfoldable pub shortest_basis : ℕ → List (List ℕ) → Result Basis BoundTextFault
shortest_basis line words = do
  jobs ← naturals line 1 most_jobs words
  Ok (ByShortest jobs)

unfoldable pub ranks_basis : ℕ → List (List ℕ) → Result Basis BoundTextFault
ranks_basis line words = do
  jobs ← naturals line 1 most_jobs words
  Ok (ByRanks jobs)

-- the word `first` or `second`, and the other words
abbrev pub is_first : ℕ → List (List ℕ) → Result (Bool × List (List ℕ)) BoundTextFault
is_first line [] = Err (BadLine line)
is_first line (word ∷ more) =
    if bytes_eq word (codes "first") then Ok (true, more)
    else if bytes_eq word (codes "second") then Ok (false, more)
    else Err (BadLine line)

-- two machines, counted from 1, on which of them delta is reached, delta, and the jobs of the side
unfoldable pub split_basis : ℕ → List (List ℕ) → Result Basis BoundTextFault
split_basis line words = do
  (first, more) ← first_number line 1 most_machines words
  (second, last) ← first_number line 1 most_machines more
  (by_first, rest) ← is_first line last
  (delta, jobs) ← first_number line 0 limit rest
  side ← naturals line 1 most_jobs jobs
  Ok (BySplit (first - 1) (second - 1) delta by_first side)

-- an interval, a lateness, and jobs
unfoldable pub parts_basis : ℕ → List (List ℕ) → Result Basis BoundTextFault
parts_basis line words = do
  (from, more) ← first_number line 0 limit words
  (until, last) ← first_number line 0 limit more
  (late, rest) ← first_value line last
  jobs ← naturals line 1 most_jobs rest
  Ok (ByParts from until late jobs)

-- a number for the end, and two for each job
unfoldable pub potentials_basis : ℕ → List (List ℕ) → Result Basis BoundTextFault
potentials_basis line words = do
  numbers ← values line words
  Ok (ByPotentials numbers)

-- a kind, and the words behind it
unfoldable pub kind_in : ℕ → List ℕ → List (List ℕ) → Result Basis BoundTextFault
kind_in line kind words =
    if bytes_eq kind (codes "machine") then machine_basis line words
    else if bytes_eq kind (codes "window") then window_basis line words
    else if bytes_eq kind (codes "crowd") then crowd_basis line words
    else if bytes_eq kind (codes "job") then one_job_basis line words
    else if bytes_eq kind (codes "multipliers") then multiplier_basis line words
    else if bytes_eq kind (codes "prices") then price_basis line words
    else if bytes_eq kind (codes "prices_on") then machine_price_basis line words
    else if bytes_eq kind (codes "alone") then alone_basis line words
    else if bytes_eq kind (codes "kept") then kept_basis line words
    else if bytes_eq kind (codes "shortest") then shortest_basis line words
    else if bytes_eq kind (codes "ranks") then ranks_basis line words
    else if bytes_eq kind (codes "pair") then split_basis line words
    else if bytes_eq kind (codes "parts") then parts_basis line words
    else if bytes_eq kind (codes "potentials") then potentials_basis line words
    else Err (BadLine line)

abbrev pub basis_in : ℕ → List (List ℕ) → Result Basis BoundTextFault
basis_in line [] = Err (BadLine line)
basis_in line (kind ∷ words) = kind_in line kind words

-- ---- lines

-- the next line that is kept, and those after it
abbrev pub next : List KeptLine → Result (KeptLine × List KeptLine) BoundTextFault
next [] = Err EndsEarly
next (line ∷ more) = Ok (line, more)

-- the one word behind a key
abbrev pub word_behind : List ℕ → KeptLine → Result (List ℕ) BoundTextFault
word_behind key line =
    if first_is key (words line.bytes) then only line.number (drop 1 (words line.bytes))
    else Err (BadLine line.number)

-- a line of a key and one word: its number, the word, and the lines after it
unfoldable pub word_at : List ℕ → List KeptLine → Result (ℕ × List ℕ × List KeptLine) BoundTextFault
word_at key all = do
  (line, more) ← next all
  word ← word_behind key line
  Ok (line.number, word, more)

-- the version is 1
abbrev pub behind_version : ℕ → List ℕ → List KeptLine → Result (List KeptLine) BoundTextFault
behind_version number word more =
    if bytes_eq word (codes "1") then Ok more else Err (BadLine number)

-- the lines behind the heading
unfoldable pub heading_at : List KeptLine → Result (List KeptLine) BoundTextFault
heading_at all = do
  (number, word, more) ← word_at (codes "bound") all
  behind_version number word more

-- where no notation is, the byte of its fault plays no part
abbrev pub meant : Result Problem ℕ → Result Problem BoundTextFault
meant (Ok problem) = Ok problem
meant (Err byte) = Err BadNotation

-- what stands behind the word `problem` is a notation, a carriage return at its end aside
unfoldable pub problem_in : KeptLine → Result Problem BoundTextFault
problem_in line =
    if first_is (codes "problem") (words line.bytes)
    then meant (notation (without_return (after_word line.bytes)))
    else Err (BadLine line.number)

-- the line `problem`, and those behind it
unfoldable pub problem_at : List KeptLine → Result (Problem × List KeptLine) BoundTextFault
problem_at all = do
  (line, more) ← next all
  problem ← problem_in line
  Ok (problem, more)

-- a line of a key and a number from 1 to `most`, and those behind it
unfoldable pub count_at : List ℕ → ℕ → List KeptLine → Result (ℕ × List KeptLine) BoundTextFault
count_at key most all = do
  (number, word, more) ← word_at key all
  count ← natural number 1 most word
  Ok (count, more)

-- the line `value`, and those behind it
unfoldable pub value_at : List KeptLine → Result (ℤ × List KeptLine) BoundTextFault
value_at all = do
  (number, word, more) ← word_at (codes "value") all
  value ← value_in number word
  Ok (value, more)

-- one number at least
abbrev pub arcs_in : ℕ → List (List ℕ) → Result (List ℕ) BoundTextFault
arcs_in line [] = Err (BadLine line)
arcs_in line (word ∷ more) = naturals line 0 limit (word ∷ more)

-- the numbers of a line `arcs`, and the lines behind it
abbrev pub listed_at : KeptLine → List KeptLine → Result (List ℕ × List KeptLine) BoundTextFault
listed_at line more =
    arcs_in line.number (drop 1 (words line.bytes)) >>= λ numbers. Ok (numbers, more)

-- the same, where that line comes first, and otherwise no numbers
unfoldable pub arcs_at : List KeptLine → Result (List ℕ × List KeptLine) BoundTextFault
arcs_at [] = Ok ([], [])
arcs_at (line ∷ more) =
    if first_is (codes "arcs") (words line.bytes) then listed_at line more
    else Ok ([], line ∷ more)

-- multipliers, and those of the arcs that may follow
unfoldable pub multipliers_at : ℕ → ℕ → List ℕ → List KeptLine
    → Result (Basis × List KeptLine) BoundTextFault
multipliers_at machine q v all = do
  (arcs, rest) ← arcs_at all
  Ok (ByMultipliers machine q v arcs, rest)

-- The line `arcs` may follow multipliers.
abbrev pub with_arcs : Basis → List KeptLine → Result (Basis × List KeptLine) BoundTextFault
with_arcs (ByMachine machine jobs) all = Ok (ByMachine machine jobs, all)
with_arcs (ByWindow jobs) all = Ok (ByWindow jobs, all)
with_arcs (ByCrowd h jobs) all = Ok (ByCrowd h jobs, all)
with_arcs (ByOneJob job) all = Ok (ByOneJob job, all)
with_arcs (ByMultipliers machine q v none) all = multipliers_at machine q v all
with_arcs (ByPrices q rows) all = Ok (ByPrices q rows, all)
with_arcs (ByMachinePrices machine q rows) all = Ok (ByMachinePrices machine q rows, all)
with_arcs ByAlone all = Ok (ByAlone, all)
with_arcs (ByKept jobs) all = Ok (ByKept jobs, all)
with_arcs (ByShortest jobs) all = Ok (ByShortest jobs, all)
with_arcs (ByRanks jobs) all = Ok (ByRanks jobs, all)
with_arcs (BySplit first second delta by_first side) all =
    Ok (BySplit first second delta by_first side, all)
with_arcs (ByParts from until late jobs) all = Ok (ByParts from until late jobs, all)
with_arcs (ByPotentials numbers) all = Ok (ByPotentials numbers, all)

-- the lines of the certificate, and those behind them
unfoldable pub certificate_at : List KeptLine → Result (Basis × List KeptLine) BoundTextFault
certificate_at all = do
  (line, more) ← next all
  basis ← basis_in line.number (words line.bytes)
  with_arcs basis more

-- the word `end` and no other
abbrev pub is_end : List (List ℕ) → Bool
is_end words = pointwise bytes_eq words (codes "end" ∷ [])

-- no line that is kept follows
abbrev pub finished : List KeptLine → Result (Unit {0}) BoundTextFault
finished [] = Ok tt
finished (line ∷ more) = Err (BadLine line.number)

-- the line `end`, and no other
unfoldable pub end_at : List KeptLine → Result (Unit {0}) BoundTextFault
end_at all = do
  (line, more) ← next all
  if is_end (words line.bytes) then finished more else Err (BadLine line.number)

-- ---- the whole text

-- the value, the certificate and the end
unfoldable pub bound_at : List KeptLine → Result (ℤ × Basis) BoundTextFault
bound_at all = do
  (value, rest) ← value_at all
  (basis, rest) ← certificate_at rest
  _ ← end_at rest
  Ok (value, basis)

-- all kept lines in their order
unfoldable pub sheet_of : List KeptLine → Result BoundSheetData BoundTextFault
sheet_of all = do
  rest ← heading_at all
  (problem, rest) ← problem_at rest
  (jobs, rest) ← count_at (codes "jobs") most_jobs rest
  (machines, rest) ← count_at (codes "machines") most_machines rest
  (value, basis) ← bound_at rest
  Ok (record {
    problem = problem;
    jobs = jobs;
    machines = machines;
    value = value;
    basis = basis;
  })

-- a text that is not too long, by its kept lines
unfoldable pub bound_in : List ℕ → Result BoundSheetData BoundTextFault
bound_in text =
    if nat_lt most_bytes (length text) then Err TooLong else sheet_of (kept_lines 1 (lines text))
