-- The text of a sheet is read as that sheet.
use Rattle.std.proofs.Common.{◌≡◌, ℕ, ℤ, ◌+◌, ◌^◌, ◌<◌, ◌≤◌, Bool, true, false, ltb, List, [], ◌∷◌, ◌++◌, length, map, drop, codes, Some, is_some, Ok, w64, refl, ap, ◌∙◌, arith, lit<}
use Rattle.std.specs.List.{list_all, flat_map, join_with_byte, AllByRecursion}
use Rattle.std.specs.Fmt.{decimal, signed_decimal}
use Rattle.std.specs.Str.{bytes_eq}
use Rattle.std.proofs.lemmas.Bool.{le-ltb}
use Rattle.std.proofs.lemmas.Int.{ints}
use Rattle.tf_words.specs.Words.{words, lines, KeptLine, kept_lines}
use Rattle.tf_model.specs.Whole.{IsWithin}
use Rattle.tf_model.specs.declared.problem.Problem.{Problem}
use Rattle.tf_notation.specs.Reading.{notation}
use Rattle.tf_notation.specs.Canonical.{canonical}
use Rattle.tf_schedule.specs.declared.piece.Piece.{Piece}
use Rattle.tf_check.specs.Claim.{Claim, AnswerData, ByPairs, ByLastOf, ByWindow, BySplit, ByLoad, ByMachine, ByOneJob, ByRanks}
use Rattle.tf_model.specs.Outcome.{◌>>=◌}
use Rattle.tf_text.specs.declared.answer.layout.Layout.{Layout}
use Rattle.tf_text.specs.declared.answer.layout.Layout.TheVariants.{One, Two}
use Rattle.tf_text.specs.JobWords.{job_words}
use Rattle.tf_text.proofs.JobRuns.{list_read, list_words, list_form}
use Rattle.tf_text.specs.AnswerText.{SheetData, version, piece_words, side_word, claim_words, result_lines, answer_lines, line_text, answer_text}
use Rattle.tf_words.specs.LineParts.{after_word, without_return}
use Rattle.tf_words.specs.Ranged.{is_number}
use Rattle.tf_text.specs.Readable.{IsCount, IsReadablePiece, AreFew, AreListed, IsReadableClaim, IsReadable}
use Rattle.tf_text.specs.AnswerReading.{count_in, time_in, value_in, side_of, is_item, few, jobs_listed, jobs_in, exactly, heading_at, problem_in, problem_at, word_behind, count_at, value_at, piece_in, pieces_at, split_in, claim_in, later_claim_in, kind_in, certificate_in, certificate_at, answer_at, sheet_of, answer_in}
use Rattle.tf_notation.proofs.Again.{IsCounted, again}
use Rattle.tf_notation.proofs.Counted.{is_counted}
use Rattle.tf_model.specs.Limit.{most_bytes, most_jobs, most_machines}
use Rattle.tf_text.proofs.BehindBlank.{behind_blank}
use Rattle.tf_text.proofs.NotationWord.{word-canonical, behind_problem, no_return}
use mir.Val.{SFits}
use Rattle.tf_text.proofs.WordLines.{IsWord, AreWords, IsLine, words-join, numbered, kept-text}
use Rattle.tf_text.proofs.Numerals.{word-decimal, word-signed, word-time, numeral-decimal, numeral-signed, count-decimal, time-signed, value-signed}

-- ---- words

word_count : (most n : ℕ) → most < 2 ^ 63 → IsCount most n → IsWord (decimal n)
word_count most n small is = word-decimal n (omega (arith, is.1))

number_count : (most n : ℕ) → most < 2 ^ 63 → IsCount most n → is_number (decimal n) ≡ true
number_count most n small is = ap is_some (numeral-decimal n (omega (arith, is.1)))

-- ---- jobs

-- a list of version 2 is not too long
few_again : (layout : Layout) (line : ℕ) (jobs : List ℕ) → AreFew layout jobs
    → few layout line jobs ≡ Ok jobs
few_again One line jobs are = refl
few_again Two line jobs are = let fits : ltb most_jobs (length jobs) ≡ false = le-ltb _ _ are in
    rw fits refl

listed_again : (layout : Layout) (line : ℕ) (jobs : List ℕ) → AreListed layout jobs
    → jobs_listed layout line (job_words layout jobs) ≡ Ok jobs
unfolding jobs_listed
listed_again layout line jobs are =
    ap (λ read. read >>= few layout line) (list_read line layout jobs are.0)
    ∙ few_again layout line jobs are.1

jobs_again : (layout : Layout) (line : ℕ) (jobs : List ℕ) → AreListed layout jobs
    → jobs_in layout line (job_words layout jobs) ≡ Ok jobs
unfolding jobs_in
jobs_again layout line jobs are =
    let form : list_all (is_item layout) (job_words layout jobs) ≡ true =
    list_form layout jobs are.0 in
    rw form (listed_again layout line jobs are)

-- ---- a piece

piece_again : (line : ℕ) (p : Piece) → IsReadablePiece p
    → piece_in line (drop 1 (piece_words p)) ≡ Ok p
unfolding piece_in
piece_again line p is =
    let a : is_number (decimal p.job) ≡ true = number_count most_jobs p.job (lit< tt) is.0 in
    let b : is_number (decimal p.machine) ≡ true =
    number_count most_machines p.machine (lit< tt) is.1 in
    let c : is_number (signed_decimal p.start) ≡ true =
    ap is_some (numeral-signed p.start (omega (arith, ints, is.2))) in
    let d : is_number (signed_decimal p.stop) ≡ true =
    ap is_some (numeral-signed p.stop (omega (arith, ints, is.3))) in
    let job : count_in line most_jobs (decimal p.job) ≡ Ok p.job =
    count-decimal line most_jobs p.job (lit< tt) is.0 in
    let machine : count_in line most_machines (decimal p.machine) ≡ Ok p.machine =
    count-decimal line most_machines p.machine (lit< tt) is.1 in
    let start : time_in line (signed_decimal p.start) ≡ Ok p.start =
    time-signed line p.start is.2 in
    let stop : time_in line (signed_decimal p.stop) ≡ Ok p.stop = time-signed line p.stop is.3 in
    rw (a, b, c, d, job, machine, start, stop) refl

-- a literal word
key_words : (p : Piece) → IsReadablePiece p → AreWords (piece_words p)
key_words p is = (
  record { some = omega arith; dark = refl },
  (
    word_count most_jobs p.job (lit< tt) is.0,
    (
      word_count most_machines p.machine (lit< tt) is.1,
      (word-time p.start is.2, (word-time p.stop is.3, tt)),
    ),
  ),
)

-- ---- a certificate

side_again : (first : Bool) → side_of (side_word first) ≡ Some first
side_again true = refl
side_again false = refl

split_again : (layout : Layout) (line : ℕ) (side : List ℕ) (delta : ℤ) (first : Bool)
    → AreListed layout side → IsWithin delta
    → split_in layout line (side_word first ∷ signed_decimal delta ∷ job_words layout side)
    ≡ Ok (BySplit side delta first)
unfolding split_in
split_again layout line side delta first are within =
    let which : side_of (side_word first) ≡ Some first = side_again first in
    let number : is_number (signed_decimal delta) ≡ true =
    ap is_some (numeral-signed delta (omega (arith, ints, within))) in
    let form : list_all (is_item layout) (job_words layout side) ≡ true =
    list_form layout side are.0 in
    let wait : time_in line (signed_decimal delta) ≡ Ok delta = time-signed line delta within in
    let jobs : jobs_listed layout line (job_words layout side) ≡ Ok side =
    listed_again layout line side are in
    rw (which, number, form, wait, jobs) refl

certificate_again : (layout : Layout) (line : ℕ) (claim : Claim) → IsReadableClaim layout claim
    → kind_in layout line (claim_words layout claim) ≡ Ok claim
unfolding claim_in later_claim_in
certificate_again layout line ByPairs is = refl
certificate_again layout line (ByLastOf jobs) is =
    let read : jobs_in layout line (job_words layout jobs) ≡ Ok jobs =
    jobs_again layout line jobs is in rw read refl
certificate_again layout line (ByWindow jobs) is =
    let read : jobs_in layout line (job_words layout jobs) ≡ Ok jobs =
    jobs_again layout line jobs is in rw read refl
certificate_again layout line (BySplit side delta first) is =
    split_again layout line side delta first is.0 is.1
certificate_again layout line ByLoad is = refl
certificate_again layout line (ByMachine machine) is =
    let read : count_in line most_machines (decimal machine) ≡ Ok machine =
    count-decimal line most_machines machine (lit< tt) is in rw read refl
certificate_again layout line (ByOneJob job) is =
    let read : count_in line most_jobs (decimal job) ≡ Ok job =
    count-decimal line most_jobs job (lit< tt) is in rw read refl
certificate_again layout line (ByRanks jobs) is =
    let read : jobs_in One line (map decimal jobs) ≡ Ok jobs = jobs_again One line jobs (is, tt) in
    rw read refl

-- ---- the lines before the pieces

heading_again : (layout : Layout) (more : List KeptLine)
    → heading_at
    (record { number = 1; bytes = join_with_byte 32 (codes "answer" ∷ version layout ∷ []) }
    ∷ more) ≡ Ok (layout, more)
unfolding heading_at words
heading_again One more = refl
heading_again Two more = refl

end_again : (number : ℕ)
    → exactly (codes "end" ∷ []) (numbered number ((codes "end" ∷ []) ∷ [])) ≡ Ok []
unfolding exactly words
end_again number = refl

problem_words : (p : Problem) → IsCounted p.env p.count
    → AreWords (codes "problem" ∷ canonical p ∷ [])
problem_words p is = (record { some = omega arith; dark = refl }, (word-canonical p is, tt))

problem_again : (number : ℕ) (p : Problem) (more : List KeptLine) → IsCounted p.env p.count
    → notation (canonical p) ≡ Ok p
    → problem_at
    (record { number = number; bytes = join_with_byte 32 (codes "problem" ∷ canonical p ∷ []) }
    ∷ more) ≡ Ok (p, more)
unfolding problem_at problem_in
problem_again number p more is read =
    let found : words (codes "problem" ++ 32 ∷ canonical p) ≡ codes "problem" ∷ canonical p ∷ [] =
    words-join (codes "problem" ∷ canonical p ∷ []) (problem_words p is) in
    let text : without_return (after_word (codes "problem" ++ 32 ∷ canonical p)) ≡ 32
    ∷ canonical p =
    ap without_return (behind_problem (canonical p))
    ∙ no_return (canonical p) (word-canonical p is).dark in
    let meaning : notation (without_return (after_word (codes "problem" ++ 32 ∷ canonical p)))
    ≡ Ok p = ap notation text ∙ behind_blank (canonical p) p read in
    rw (found, meaning) refl

behind_again : (number : ℕ) (key word : List ℕ) → IsWord key → IsWord word → bytes_eq key key ≡ true
    → word_behind key (record { number = number; bytes = join_with_byte 32 (key ∷ word ∷ []) })
    ≡ Ok word
unfolding word_behind
behind_again number key word is-key is-word same =
    let found : words (key ++ 32 ∷ word) ≡ key ∷ word ∷ [] =
    words-join (key ∷ word ∷ []) (is-key, (is-word, tt)) in
    rw (found, same) refl

count_again : (number : ℕ) (key : List ℕ) (most n : ℕ) (more : List KeptLine) → IsWord key
    → bytes_eq key key ≡ true → most < 2 ^ 63 → IsCount most n
    → count_at key most
    (record { number = number; bytes = join_with_byte 32 (key ∷ decimal n ∷ []) } ∷ more)
    ≡ Ok (n, more)
unfolding count_at
count_again number key most n more is-key same small is =
    let word : word_behind key
    (record { number = number; bytes = join_with_byte 32 (key ∷ decimal n ∷ []) })
    ≡ Ok (decimal n) =
    behind_again number key (decimal n) is-key (word_count most n small is) same in
    let count : count_in number most (decimal n) ≡ Ok n = count-decimal number most n small is in
    rw (word, count) refl

value_again : (number : ℕ) (z : ℤ) (more : List KeptLine) → SFits w64 z
    → value_at (record {
      number = number;
      bytes = join_with_byte 32 (codes "value" ∷ signed_decimal z ∷ []);
    } ∷ more) ≡ Ok (z, more)
unfolding value_at
value_again number z more fits =
    let word : word_behind (codes "value")
    (record {
      number = number;
      bytes = join_with_byte 32 (codes "value" ∷ signed_decimal z ∷ []);
    })
    ≡ Ok (signed_decimal z) =
    behind_again number (codes "value") (signed_decimal z)
    (record { some = omega arith; dark = refl }) (word-signed z fits) refl in
    let value : value_in number (signed_decimal z) ≡ Ok z = value-signed number z fits in
    rw (word, value) refl

-- ---- the pieces, and the lines behind them

abbrev closing : Layout → Claim → List (List (List ℕ))
closing layout claim = (codes "cert" ∷ claim_words layout claim) ∷ (codes "end" ∷ []) ∷ []

claim_are_words : (layout : Layout) (claim : Claim) → IsReadableClaim layout claim
    → AreWords (claim_words layout claim)
claim_are_words layout ByPairs is = (record { some = omega arith; dark = refl }, tt)
claim_are_words layout (ByLastOf jobs) is =
    (record { some = omega arith; dark = refl }, list_words layout jobs is.0)
claim_are_words layout (ByWindow jobs) is =
    (record { some = omega arith; dark = refl }, list_words layout jobs is.0)
claim_are_words layout (BySplit side delta true) is = (
  record { some = omega arith; dark = refl },
  (
    record { some = omega arith; dark = refl },
    (word-time delta is.1, list_words layout side is.0.0),
  ),
)
claim_are_words layout (BySplit side delta false) is = (
  record { some = omega arith; dark = refl },
  (
    record { some = omega arith; dark = refl },
    (word-time delta is.1, list_words layout side is.0.0),
  ),
)
claim_are_words layout ByLoad is = (record { some = omega arith; dark = refl }, tt)
claim_are_words layout (ByMachine machine) is =
    (record { some = omega arith; dark = refl }, (word_count most_machines machine (lit< tt) is, tt))
claim_are_words layout (ByOneJob job) is =
    (record { some = omega arith; dark = refl }, (word_count most_jobs job (lit< tt) is, tt))
claim_are_words layout (ByRanks jobs) is =
    (record { some = omega arith; dark = refl }, list_words One jobs is)

cert_words : (layout : Layout) (claim : Claim) → IsReadableClaim layout claim
    → AreWords (codes "cert" ∷ claim_words layout claim)
cert_words layout claim is =
    (record { some = omega arith; dark = refl }, claim_are_words layout claim is)

-- how many lines before these
abbrev PiecesAgain : Layout → ℕ → List Piece → Claim → Type 0
PiecesAgain layout number pieces claim = (last : ℕ)
    × (pieces_at (numbered number (map piece_words pieces ++ closing layout claim))
    ≡ Ok (pieces, numbered last (closing layout claim)))

pieces_again : (layout : Layout) (number : ℕ) (pieces : List Piece) (claim : Claim)
    → AllByRecursion IsReadablePiece pieces → IsReadableClaim layout claim
    → PiecesAgain layout number pieces claim
unfolding pieces_at
pieces_again layout number [] claim are is =
    let found : words (join_with_byte 32 (codes "cert" ∷ claim_words layout claim)) ≡ codes "cert"
    ∷ claim_words layout claim =
    words-join (codes "cert" ∷ claim_words layout claim) (cert_words layout claim is) in
    (number, rw found refl)
pieces_again layout number (p ∷ pieces) claim are is =
    let found : words (join_with_byte 32 (piece_words p)) ≡ piece_words p =
    words-join (piece_words p) (key_words p are.0) in
    let piece : piece_in number (drop 1 (piece_words p)) ≡ Ok p = piece_again number p are.0 in
    let others = pieces_again layout (number + 1) pieces claim are.1 is in
    (others.0, rw (found, piece, others.1) refl)

certificate_line : (layout : Layout) (number : ℕ) (claim : Claim) (more : List KeptLine)
    → IsReadableClaim layout claim
    → certificate_at layout
    (record {
      number = number;
      bytes = join_with_byte 32 (codes "cert" ∷ claim_words layout claim);
    } ∷ more)
    ≡ Ok (claim, more)
unfolding certificate_at certificate_in
certificate_line layout number claim more is =
    let found : words (join_with_byte 32 (codes "cert" ∷ claim_words layout claim)) ≡ codes "cert"
    ∷ claim_words layout claim =
    words-join (codes "cert" ∷ claim_words layout claim) (cert_words layout claim is) in
    let read : kind_in layout number (claim_words layout claim) ≡ Ok claim =
    certificate_again layout number claim is in
    rw (found, read) refl

-- ---- the whole

answer_again : (layout : Layout) (number : ℕ) (a : AnswerData) → SFits w64 a.value
    → AllByRecursion IsReadablePiece a.pieces → IsReadableClaim layout a.certificate
    → answer_at layout (numbered number (result_lines layout a)) ≡ Ok a
unfolding answer_at
answer_again layout number a value are is =
    let first : value_at (numbered number (result_lines layout a))
    ≡ Ok (
      a.value,
      numbered (number + 1) (map piece_words a.pieces ++ closing layout a.certificate),
    ) =
    value_again number a.value _ value in
    let pieces = pieces_again layout (number + 1) a.pieces a.certificate are is in
    let certificate : certificate_at layout (numbered pieces.0 (closing layout a.certificate))
    ≡ Ok (a.certificate, numbered (pieces.0 + 1) ((codes "end" ∷ []) ∷ [])) =
    certificate_line layout pieces.0 a.certificate _ is in
    let last : exactly (codes "end" ∷ []) (numbered (pieces.0 + 1) ((codes "end" ∷ []) ∷ []))
    ≡ Ok [] = end_again (pieces.0 + 1) in
    rw (first, pieces.1, certificate, last) refl

pieces_are_lines : (layout : Layout) (pieces : List Piece) (claim : Claim)
    → AllByRecursion IsReadablePiece pieces → IsReadableClaim layout claim
    → AllByRecursion IsLine (map piece_words pieces ++ closing layout claim)
pieces_are_lines layout [] claim are is = (
  record { words = cert_words layout claim is; kept = refl },
  (record { words = (record { some = omega arith; dark = refl }, tt); kept = refl }, tt),
)
pieces_are_lines layout (p ∷ pieces) claim are is = (
  record { words = key_words p are.0; kept = refl },
  pieces_are_lines layout pieces claim are.1 is,
)

keyed : (key word : List ℕ) → IsWord key → IsWord word → AreWords (key ∷ word ∷ [])
keyed key word is-key is-word = (is-key, (is-word, tt))

version_word : (layout : Layout) → IsWord (version layout)
version_word One = record { some = omega arith; dark = refl }
version_word Two = record { some = omega arith; dark = refl }

sheet_are_lines : (layout : Layout) (s : SheetData) → IsReadable layout s
    → IsCounted s.problem.env s.problem.count → AllByRecursion IsLine (answer_lines layout s)
sheet_are_lines layout s is counted = (
  record {
    words = (record { some = omega arith; dark = refl }, (version_word layout, tt));
    kept =
        refl;
  },
  (
    record { words = problem_words s.problem counted; kept = refl },
    (
      record {
        words =
            keyed (codes "jobs") (decimal s.jobs) (record { some = omega arith; dark = refl })
            (word_count most_jobs s.jobs (lit< tt) is.jobs);
        kept = refl;
      },
      (
        record {
          words =
              keyed (codes "machines") (decimal s.machines)
              (record { some = omega arith; dark = refl })
              (word_count most_machines s.machines (lit< tt) is.machines);
          kept = refl;
        },
        (
          record {
            words =
                keyed (codes "value") (signed_decimal s.answer.value)
                (record { some = omega arith; dark = refl }) (word-signed s.answer.value is.value);
            kept = refl;
          },
          pieces_are_lines layout s.answer.pieces s.answer.certificate is.pieces is.certificate,
        ),
      ),
    ),
  ),
)

sheet_again : (layout : Layout) (s : SheetData) → IsReadable layout s
    → IsCounted s.problem.env s.problem.count → notation (canonical s.problem) ≡ Ok s.problem
    → sheet_of (numbered 1 (answer_lines layout s)) ≡ Ok s
unfolding sheet_of
sheet_again layout s is counted read =
    let heading : heading_at (numbered 1 (answer_lines layout s))
    ≡ Ok (layout, numbered 2 (drop 1 (answer_lines layout s))) = heading_again layout _ in
    let problem : problem_at (numbered 2 (drop 1 (answer_lines layout s)))
    ≡ Ok (s.problem, numbered 3 (drop 2 (answer_lines layout s))) =
    problem_again 2 s.problem _ counted read in
    let jobs : count_at (codes "jobs") most_jobs (numbered 3 (drop 2 (answer_lines layout s)))
    ≡ Ok (s.jobs, numbered 4 (drop 3 (answer_lines layout s))) =
    count_again 3 (codes "jobs") most_jobs s.jobs _ (record { some = omega arith; dark = refl }) refl
    (lit< tt) is.jobs in
    let machines : count_at (codes "machines") most_machines
    (numbered 4 (drop 3 (answer_lines layout s)))
    ≡ Ok (s.machines, numbered 5 (result_lines layout s.answer)) =
    count_again 4 (codes "machines") most_machines s.machines _
    (record { some = omega arith; dark = refl }) refl (lit< tt) is.machines in
    let answer : answer_at layout (numbered 5 (result_lines layout s.answer)) ≡ Ok s.answer =
    answer_again layout 5 s.answer is.value is.pieces is.certificate in
    rw (heading, problem, jobs, machines, answer) refl

-- the text of a sheet whose numbers are in their ranges says that sheet, line by line
pub lines_again : (layout : Layout) (s : SheetData) → IsReadable layout s
    → sheet_of (kept_lines 1 (lines (answer_text layout s))) ≡ Ok s
unfolding answer_text
lines_again layout s is =
    let read = is.problem in
    let counted = is_counted read.0 s.problem read.1 in
    let kept : kept_lines 1 (lines (flat_map line_text (answer_lines layout s)))
    ≡ numbered 1 (answer_lines layout s) =
    kept-text (answer_lines layout s) (sheet_are_lines layout s is counted) in
    rw kept (sheet_again layout s is counted (again s.problem counted))

-- a text whose lines say a sheet is read as that sheet, if it is not too long
pub read_again : (text : List ℕ) (s : SheetData) → sheet_of (kept_lines 1 (lines text)) ≡ Ok s
    → length text ≤ most_bytes → answer_in text ≡ Ok s
unfolding answer_in
read_again text s says short =
    let fits : ltb most_bytes (length text) ≡ false = le-ltb _ _ short in rw fits says

-- the text of a sheet is read as that sheet
pub text_again : (layout : Layout) (s : SheetData) → IsReadable layout s
    → length (answer_text layout s) ≤ most_bytes → answer_in (answer_text layout s) ≡ Ok s
text_again layout s is short = read_again (answer_text layout s) s (lines_again layout s is) short
