-- The text of an answer.
use Rattle.std.specs.Prelude.{ℕ, Bool, List, [], ◌∷◌, ◌++◌, map, take, codes, if◌then◌else◌}
use Rattle.std.specs.List.{flat_map, join_with_byte}
use Rattle.std.specs.Fmt.{decimal, signed_decimal}
use Rattle.tf_model.specs.declared.problem.Problem.{Problem}
use Rattle.tf_notation.specs.Canonical.{canonical}
use Rattle.tf_schedule.specs.declared.piece.Piece.{Piece}
use Rattle.tf_text.specs.declared.answer.layout.Layout.{Layout}
use Rattle.tf_text.specs.declared.answer.layout.Layout.TheVariants.{One, Two}
use Rattle.tf_text.specs.JobWords.{job_words}
use Rattle.tf_check.specs.Claim.{Claim, AnswerData, ByPairs, ByLastOf, ByWindow, BySplit, ByLoad, ByMachine, ByOneJob, ByRanks}

-- what an answer text says
pub record SheetData : Type 0 where
  pub problem : Problem
  pub jobs : ℕ
  pub machines : ℕ
  pub answer : AnswerData

-- a piece: job, machine, start and stop
abbrev pub piece_words : Piece → List (List ℕ)
piece_words p =
    codes "piece" ∷ decimal p.job ∷ decimal p.machine ∷ signed_decimal p.start
    ∷ signed_decimal p.stop ∷ []

-- which machine has to wait
abbrev pub side_word : Bool → List ℕ
side_word first = if first then codes "first" else codes "second"

-- a certificate: its kind, its numbers and its jobs, of which a ranking has no ranges
abbrev pub claim_words : Layout → Claim → List (List ℕ)
claim_words layout ByPairs = codes "pairs" ∷ []
claim_words layout (ByLastOf jobs) = codes "last" ∷ job_words layout jobs
claim_words layout (ByWindow jobs) = codes "window" ∷ job_words layout jobs
claim_words layout (BySplit side delta first) =
    codes "split" ∷ side_word first ∷ signed_decimal delta ∷ job_words layout side
claim_words layout ByLoad = codes "load" ∷ []
claim_words layout (ByMachine machine) = codes "machine" ∷ decimal machine ∷ []
claim_words layout (ByOneJob job) = codes "job" ∷ decimal job ∷ []
claim_words layout (ByRanks jobs) = codes "ranks" ∷ job_words One jobs

-- the lines behind the pieces, each by its words
abbrev pub back_lines : Layout → Claim → List (List (List ℕ))
back_lines layout claim = (codes "cert" ∷ claim_words layout claim) ∷ (codes "end" ∷ []) ∷ []

-- the lines of an answer: its value, its pieces in their order, its certificate
abbrev pub result_lines : Layout → AnswerData → List (List (List ℕ))
result_lines layout a =
    (codes "value" ∷ signed_decimal a.value ∷ [])
    ∷ (map piece_words a.pieces ++ back_lines layout a.certificate)

-- the number of a version
abbrev pub version : Layout → List ℕ
version One = codes "1"
version Two = codes "2"

-- all lines: a heading, what the answer is for, and the answer
abbrev pub answer_lines : Layout → SheetData → List (List (List ℕ))
answer_lines layout s =
    (codes "answer" ∷ version layout ∷ [])
    ∷ (codes "problem" ∷ canonical s.problem ∷ [])
    ∷ (codes "jobs" ∷ decimal s.jobs ∷ [])
    ∷ (codes "machines" ∷ decimal s.machines ∷ [])
    ∷ result_lines layout s.answer

-- the lines before the pieces
abbrev pub front_lines : Layout → SheetData → List (List (List ℕ))
front_lines layout s = take 5 (answer_lines layout s)

-- those of them behind the problem
abbrev pub size_lines : SheetData → List (List (List ℕ))
size_lines s =
    (codes "jobs" ∷ decimal s.jobs ∷ []) ∷ (codes "machines" ∷ decimal s.machines ∷ [])
    ∷ (codes "value" ∷ signed_decimal s.answer.value ∷ []) ∷ []

-- a line: its words with a blank between each two, and a line feed
abbrev pub line_text : List (List ℕ) → List ℕ
line_text words = join_with_byte 32 words ++ 10 ∷ []

-- the lines of pieces, in their order
abbrev pub pieces_text : List Piece → List ℕ
pieces_text pieces = flat_map line_text (map piece_words pieces)

-- the text of a sheet
unfoldable pub answer_text : Layout → SheetData → List ℕ
answer_text layout s = flat_map line_text (answer_lines layout s)
