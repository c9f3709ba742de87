-- What an answer text says, or its first fault. A line that is kept is read by its words.
use Rattle.std.specs.Prelude.{ℕ, ℤ, pos, negsuc, Bool, true, false, ◌&&◌, ◌||◌, List, [], ◌∷◌, ◌++◌, length, drop, codes, Option, Some, None, is_some, Result, Ok, Err, nat_lt, neg_ℤ, if◌then◌else◌}
use Rattle.std.specs.List.{list_all}
use Rattle.std.specs.Option.{option_map_or, ok_or}
use Rattle.std.specs.Str.{bytes_eq}
use Rattle.std.specs.Cmp.Lexicographic.{pointwise}
use Rattle.tf_model.specs.Outcome
use Rattle.tf_model.specs.Outcome.{◌>>=◌}
use Rattle.tf_words.specs.Number.{is_numeral}
use Rattle.tf_model.specs.Whole.{as_time}
use Rattle.tf_words.specs.Words.{words, lines, first_is, KeptLine, kept_lines}
use Rattle.tf_words.specs.declared.limit.TheConstants.{LIMIT}
use Rattle.tf_model.specs.Limit.{most_bytes, most_jobs, most_machines}
use Rattle.tf_model.specs.declared.problem.Problem.{Problem}
use Rattle.tf_notation.specs.Reading.{notation}
use Rattle.tf_schedule.specs.declared.piece.Piece.{Piece}
use Rattle.tf_check.specs.Claim.{Claim, AnswerData, ByPairs, ByLastOf, ByWindow, BySplit, ByLoad, ByMachine, ByOneJob, ByRanks}
use Rattle.tf_text.specs.AnswerText.{SheetData, version}
use Rattle.tf_text.specs.JobWords.{alone, run_jobs}
use Rattle.tf_words.specs.LineParts.{after_word, without_return}
use Rattle.tf_words.specs.WordParts.{divided}
use Rattle.tf_words.specs.Ranged.{is_number, number_in}
use Rattle.tf_text.specs.declared.answer.layout.Layout.{Layout}
use Rattle.tf_text.specs.declared.answer.layout.Layout.TheVariants.{One, Two}
use Rattle.tf_text.specs.declared.answer.run.Run.{Run}
use Rattle.tf_words.specs.declared.ranged.Ranged.{Ranged}
use Rattle.tf_words.specs.declared.ranged.Ranged.TheVariants.{NotANumber, Below, Above, Within}
use Rattle.tf_text.specs.declared.answer.fault.AnswerFault.{AnswerFault}
use Rattle.tf_text.specs.declared.answer.fault.AnswerFault.TheVariants.{TooLong, BadLine, NumberTooLarge, BadNotation, EndsEarly, OutOfMemory}

-- each error but want of memory is a fault of the text
abbrev pub fault_in : AnswerFault → Option AnswerFault
fault_in OutOfMemory = None
fault_in e = Some e

abbrev pub Fails : {Y : Type 0} → AnswerFault → Result Y AnswerFault → Type 0
Fails e = Outcome.IsFault (fault_in e)

abbrev pub Gives : {X Y : Type 0} → (X → Y) → Result X AnswerFault → Result Y AnswerFault → Type 0
Gives = Outcome.Gives fault_in

-- ---- numbers

-- a number that counts from 1: below 1 the line is none of its kind
abbrev pub counted : ℕ → Ranged → Result ℕ AnswerFault
counted line (Within z) = Ok (as_time z)
counted line Above = Err (NumberTooLarge line)
counted line _ = Err (BadLine line)

-- a word as a number from 1 to `most`
abbrev pub count_in : ℕ → ℕ → List ℕ → Result ℕ AnswerFault
count_in line most word = counted line (number_in (pos 1) (pos most) word)

-- a number that may be negative
abbrev pub signed_within : ℕ → Ranged → Result ℤ AnswerFault
signed_within line (Within z) = Ok z
signed_within line NotANumber = Err (BadLine line)
signed_within line _ = Err (NumberTooLarge line)

-- a word as a time or a delta
abbrev pub time_in : ℕ → List ℕ → Result ℤ AnswerFault
time_in line word = signed_within line (number_in (neg_ℤ LIMIT) LIMIT word)

-- a word as a value: any signed number of 64 bits
abbrev pub value_in : ℕ → List ℕ → Result ℤ AnswerFault
value_in line word =
    signed_within line (number_in (negsuc 9223372036854775807) (pos 9223372036854775807) word)

-- ---- lists of jobs

-- both words, if each is of digits alone
abbrev pub ends_of : Option (List ℕ × List ℕ) → Option (List ℕ × List ℕ)
ends_of None = None
ends_of (Some (first, last)) =
    if is_numeral first && is_numeral last then Some (first, last) else None

-- the two numbers of a range: digits, one '-', digits
unfoldable pub range_ends : List ℕ → Option (List ℕ × List ℕ)
range_ends word = ends_of (divided 45 word)

-- a word of a list is a number, in version 2 a range as well
abbrev pub is_item : Layout → List ℕ → Bool
is_item One word = is_number word
is_item Two word = is_number word || is_some (range_ends word)

-- the numbers of a range from left to right, the first below the last, or the only one of a job
abbrev pub run_of : ℕ → List ℕ → Option (List ℕ × List ℕ) → Result Run AnswerFault
run_of line word None = do
  job ← count_in line most_jobs word
  Ok (alone job)
run_of line word (Some (left, right)) = do
  first ← count_in line most_jobs left
  last ← count_in line most_jobs right
  if nat_lt first last then Ok (record { first = first; last = last }) else Err (BadLine line)

-- a word as a run of jobs
unfoldable pub run_in : ℕ → List ℕ → Result Run AnswerFault
run_in line word = run_of line word (range_ends word)

-- words as jobs, judged from left to right
unfoldable pub jobs_from : ℕ → List (List ℕ) → Result (List ℕ) AnswerFault
jobs_from line [] = Ok []
jobs_from line (word ∷ more) = do
  run ← run_in line word
  jobs ← jobs_from line more
  Ok (run_jobs run ++ jobs)

-- they are more jobs than an instance may have
abbrev pub are_many : List ℕ → Bool
are_many jobs = nat_lt most_jobs (length jobs)

-- the same of jobs by their words
abbrev pub name_many : ℕ → List (List ℕ) → Result Bool AnswerFault
name_many line words = jobs_from line words >>= λ jobs. Ok (are_many jobs)

-- in version 2 a list has at most as many jobs as an instance
abbrev pub few : Layout → ℕ → List ℕ → Result (List ℕ) AnswerFault
few One line jobs = Ok jobs
few Two line jobs = if are_many jobs then Err (BadLine line) else Ok jobs

-- the jobs of words that are items of a list
unfoldable pub jobs_listed : Layout → ℕ → List (List ℕ) → Result (List ℕ) AnswerFault
jobs_listed layout line words = jobs_from line words >>= few layout line

-- the same, once all words are such items
unfoldable pub jobs_in : Layout → ℕ → List (List ℕ) → Result (List ℕ) AnswerFault
jobs_in layout line words =
    if list_all (is_item layout) words then jobs_listed layout line words else Err (BadLine line)

-- ---- the lines before the pieces

-- these words and no others
abbrev pub is_exactly : List (List ℕ) → List (List ℕ) → Bool
is_exactly wanted words = pointwise bytes_eq words wanted

-- the next line that is kept, and those after it
abbrev pub next : List KeptLine → Result (KeptLine × List KeptLine) AnswerFault
next [] = Err EndsEarly
next (line ∷ more) = Ok (line, more)

-- the lines behind a line of exactly these words
unfoldable pub exactly : List (List ℕ) → List KeptLine → Result (List KeptLine) AnswerFault
exactly wanted all = do
  (line, more) ← next all
  if is_exactly wanted (words line.bytes) then Ok more else Err (BadLine line.number)

-- the version that a heading names
abbrev pub version_in : List (List ℕ) → Option Layout
version_in words =
    if is_exactly (codes "answer" ∷ version One ∷ []) words then Some One
    else if is_exactly (codes "answer" ∷ version Two ∷ []) words then Some Two
    else None

-- the heading
abbrev pub heading_in : KeptLine → Result Layout AnswerFault
heading_in line = ok_or (version_in (words line.bytes)) (BadLine line.number)

-- what the next line says, and those after it
abbrev pub line_at : {X : Type 0} → (KeptLine → Result X AnswerFault) → List KeptLine
    → Result (X × List KeptLine) AnswerFault
line_at says all = do
  (line, more) ← next all
  said ← says line
  Ok (said, more)

-- the version, and the lines behind the heading
unfoldable pub heading_at : List KeptLine → Result (Layout × List KeptLine) AnswerFault
heading_at all = line_at heading_in all

-- where no notation is, the byte of its fault plays no part
abbrev pub meant : Result Problem ℕ → Result Problem AnswerFault
meant (Ok problem) = Ok problem
meant (Err byte) = Err BadNotation

-- what stands behind the word `problem` is a notation, a carriage return at its end aside
unfoldable pub problem_in : KeptLine → Result Problem AnswerFault
problem_in line =
    if first_is (codes "problem") (words line.bytes) then meant
    (notation (without_return (after_word line.bytes)))
    else Err (BadLine line.number)

-- exactly one word
abbrev pub only : ℕ → List (List ℕ) → Result (List ℕ) AnswerFault
only line (word ∷ []) = Ok word
only line _ = Err (BadLine line)

-- the one word behind a key
unfoldable pub word_behind : List ℕ → KeptLine → Result (List ℕ) AnswerFault
word_behind key line =
    if first_is key (words line.bytes) then only line.number (drop 1 (words line.bytes))
    else Err (BadLine line.number)

-- the line `problem`, and those behind it
unfoldable pub problem_at : List KeptLine → Result (Problem × List KeptLine) AnswerFault
problem_at all = line_at problem_in all

-- a key and a number from 1 to `most`
abbrev pub count_line : List ℕ → ℕ → KeptLine → Result ℕ AnswerFault
count_line key most line = word_behind key line >>= count_in line.number most

-- such a line, and those behind it
unfoldable pub count_at : List ℕ → ℕ → List KeptLine → Result (ℕ × List KeptLine) AnswerFault
count_at key most all = line_at (count_line key most) all

-- the value
abbrev pub value_line : KeptLine → Result ℤ AnswerFault
value_line line = word_behind (codes "value") line >>= value_in line.number

-- the line `value`, and those behind it
unfoldable pub value_at : List KeptLine → Result (ℤ × List KeptLine) AnswerFault
value_at all = line_at value_line all

-- ---- the pieces

-- the words, if there are four
abbrev pub four : List (List ℕ) → Option (List ℕ × List ℕ × List ℕ × List ℕ)
four (a ∷ b ∷ c ∷ d ∷ []) = Some (a, b, c, d)
four _ = None

-- the form before the numbers: a job, a machine, a start and a stop
abbrev pub piece_of : ℕ → Option (List ℕ × List ℕ × List ℕ × List ℕ) → Result Piece AnswerFault
piece_of line None = Err (BadLine line)
piece_of line (Some (a, b, c, d)) =
    if is_number a && is_number b && is_number c && is_number d then (do
      job ← count_in line most_jobs a
      machine ← count_in line most_machines b
      start ← time_in line c
      stop ← time_in line d
      Ok (record { job = job; machine = machine; start = start; stop = stop }))
    else Err (BadLine line)

-- the words behind `piece`
unfoldable pub piece_in : ℕ → List (List ℕ) → Result Piece AnswerFault
piece_in line words = piece_of line (four words)

-- as many lines as begin with `piece`, and those that are left
unfoldable pub pieces_at : List KeptLine → Result (List Piece × List KeptLine) AnswerFault
pieces_at [] = Ok ([], [])
pieces_at (line ∷ more) =
    if first_is (codes "piece") (words line.bytes) then (do
      piece ← piece_in line.number (drop 1 (words line.bytes))
      (pieces, rest) ← pieces_at more
      Ok (piece ∷ pieces, rest))
    else Ok ([], line ∷ more)

-- ---- the certificate

-- a kind with nothing behind it
abbrev pub bare : ℕ → Claim → List (List ℕ) → Result Claim AnswerFault
bare line claim [] = Ok claim
bare line claim (word ∷ words) = Err (BadLine line)

-- which machine has to wait: the word `first` or `second`
abbrev pub side_of : List ℕ → Option Bool
side_of word =
    if bytes_eq word (codes "first") then Some true
    else (if bytes_eq word (codes "second") then Some false else None)

-- the delta and the jobs of the side, all of them of their form
abbrev pub split_of : Layout → ℕ → Bool → List ℕ → List (List ℕ) → Result Claim AnswerFault
split_of layout line first delta jobs =
    if is_number delta && list_all (is_item layout) jobs then (do
      wait ← time_in line delta
      side ← jobs_listed layout line jobs
      Ok (BySplit side wait first))
    else Err (BadLine line)

-- which machine has to wait, for how long, and the jobs of the side
unfoldable pub split_in : Layout → ℕ → List (List ℕ) → Result Claim AnswerFault
split_in layout line (side ∷ delta ∷ jobs) =
    option_map_or (λ first. split_of layout line first delta jobs) (side_of side)
    (Err (BadLine line))
split_in layout line _ = Err (BadLine line)

-- the kinds from `load` on; a ranking has no ranges
unfoldable pub later_claim_in : ℕ → List ℕ → List (List ℕ) → Result Claim AnswerFault
later_claim_in line kind words =
    if bytes_eq kind (codes "load") then bare line ByLoad words
    else if bytes_eq kind (codes "machine")
    then (only line words >>= count_in line most_machines >>= λ machine. Ok (ByMachine machine))
    else if bytes_eq kind (codes "job")
    then (only line words >>= count_in line most_jobs >>= λ job. Ok (ByOneJob job))
    else if bytes_eq kind (codes "ranks")
    then (jobs_in One line words >>= λ jobs. Ok (ByRanks jobs))
    else Err (BadLine line)

-- a kind, and the words behind it
unfoldable pub claim_in : Layout → ℕ → List ℕ → List (List ℕ) → Result Claim AnswerFault
claim_in layout line kind words =
    if bytes_eq kind (codes "pairs") then bare line ByPairs words
    else if bytes_eq kind (codes "last")
    then (jobs_in layout line words >>= λ jobs. Ok (ByLastOf jobs))
    else if bytes_eq kind (codes "window")
    then (jobs_in layout line words >>= λ jobs. Ok (ByWindow jobs))
    else if bytes_eq kind (codes "split") then split_in layout line words
    else later_claim_in line kind words

-- the words behind `cert`
abbrev pub kind_in : Layout → ℕ → List (List ℕ) → Result Claim AnswerFault
kind_in layout line [] = Err (BadLine line)
kind_in layout line (kind ∷ words) = claim_in layout line kind words

-- `cert`, and a kind
unfoldable pub certificate_in : Layout → ℕ → List (List ℕ) → Result Claim AnswerFault
certificate_in layout line words =
    if first_is (codes "cert") words then kind_in layout line (drop 1 words) else Err (BadLine line)

-- the line `cert`, and those behind it
unfoldable pub certificate_at : Layout → List KeptLine → Result (Claim × List KeptLine) AnswerFault
certificate_at layout all =
    line_at (λ line. certificate_in layout line.number (words line.bytes)) all

-- ---- the whole text

-- no line that is kept follows
abbrev pub finished : List KeptLine → Result (Unit {0}) AnswerFault
finished [] = Ok tt
finished (line ∷ more) = Err (BadLine line.number)

-- the value, the pieces, the certificate and the end
unfoldable pub answer_at : Layout → List KeptLine → Result AnswerData AnswerFault
answer_at layout all = do
  (value, rest) ← value_at all
  (pieces, rest) ← pieces_at rest
  (certificate, rest) ← certificate_at layout rest
  rest ← exactly (codes "end" ∷ []) rest
  _ ← finished rest
  Ok (record { pieces = pieces; value = value; certificate = certificate })

-- all kept lines in their order
unfoldable pub sheet_of : List KeptLine → Result SheetData AnswerFault
sheet_of all = do
  (layout, rest) ← heading_at all
  (problem, rest) ← problem_at rest
  (jobs, rest) ← count_at (codes "jobs") most_jobs rest
  (machines, rest) ← count_at (codes "machines") most_machines rest
  answer ← answer_at layout rest
  Ok (record { problem = problem; jobs = jobs; machines = machines; answer = answer })

-- a text that is not too long, by its kept lines
unfoldable pub answer_in : List ℕ → Result SheetData AnswerFault
answer_in text =
    if nat_lt most_bytes (length text) then Err TooLong else sheet_of (kept_lines 1 (lines text))
