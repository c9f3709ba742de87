-- The definitions at worked examples.
use Rattle.std.proofs.Common.{◌≡◌, ℕ, List, [], ◌∷◌, ◌++◌, Some, Ok, Err, true, false, pos, negsuc, codes, refl}
use Rattle.std.specs.List.{flat_map}
use Rattle.std.specs.Fmt.{digits}
use Rattle.tf_words.specs.Words.{words, lines, kept_lines}
use Rattle.tf_words.specs.Number.{plain}
use Rattle.tf_model.specs.declared.problem.Env.TheVariants.{Parallel, Flow}
use Rattle.tf_model.specs.declared.problem.Goal.TheVariants.{Cmax}
use Rattle.tf_model.specs.ClassTable.{plain_problem}
use Rattle.tf_notation.specs.Canonical.{canonical}
use Rattle.tf_notation.specs.Tokens.{tokens_from}
use Rattle.tf_notation.specs.Reading.{notation, expect, listed, conditions_at}
use Rattle.tf_check.specs.Claim.{BySplit, ByLoad}
use Rattle.tf_text.specs.AnswerText.{SheetData, line_text, claim_words, answer_text}
use Rattle.tf_text.specs.declared.answer.layout.Layout.TheVariants.{One, Two}
use Rattle.tf_text.specs.JobWords.{runs, job_words}
use Rattle.tf_words.specs.Digits.{numeral}
use Rattle.tf_text.specs.AnswerReading.{value_in, range_ends, run_in, jobs_from, jobs_listed, jobs_in, heading_at, exactly, problem_in, problem_at, word_behind, count_at, value_at, piece_in, pieces_at, split_in, claim_in, later_claim_in, certificate_in, certificate_at, answer_at, sheet_of, answer_in}
use Rattle.tf_text.specs.declared.answer.fault.AnswerFault.TheVariants.{BadLine, NumberTooLarge, BadNotation, EndsEarly}

-- three jobs of time 4 on two parallel machines
two_parallel : SheetData
two_parallel = record {
  problem = record (plain_problem Parallel Cmax) { count = Some 2; prmp = true };
  jobs = 3;
  machines = 2;
  answer = record {
    pieces =
        record { job = 1; machine = 1; start = pos 0; stop = pos 4 }
        ∷ record { job = 2; machine = 1; start = pos 4; stop = pos 6 }
        ∷ record { job = 2; machine = 2; start = pos 0; stop = pos 2 }
        ∷ record { job = 3; machine = 2; start = pos 2; stop = pos 6 }
        ∷ [];
    value = pos 6;
    certificate = ByLoad;
  };
}

two_parallel_lines : List (List ℕ)
two_parallel_lines =
    codes "answer 1" ∷ codes "problem P2|prmp|Cmax" ∷ codes "jobs 3" ∷ codes "machines 2"
    ∷ codes "value 6"
    ∷ codes "piece 1 1 0 4" ∷ codes "piece 2 1 4 6" ∷ codes "piece 2 2 0 2" ∷ codes "piece 3 2 2 6"
    ∷ codes "cert load" ∷ codes "end" ∷ []

two_parallel_text : answer_text One two_parallel
    ≡ flat_map (λ line. line ++ 10 ∷ []) two_parallel_lines
unfolding two_parallel two_parallel_lines answer_text canonical digits
two_parallel_text = refl

split_second : line_text
    (codes "cert" ∷ claim_words One (BySplit (1 ∷ 3 ∷ 4 ∷ 5 ∷ []) (pos 5) false))
    ≡ codes "cert split second 5 1 3 4 5" ++ 10 ∷ []
unfolding digits
split_second = refl

split_of_none : line_text (codes "cert" ∷ claim_words One (BySplit [] (negsuc 6) true))
    ≡ codes "cert split first -7" ++ 10 ∷ []
unfolding digits
split_of_none = refl

split_in_ranges : line_text
    (codes "cert" ∷ claim_words Two (BySplit (1 ∷ 3 ∷ 4 ∷ 5 ∷ []) (pos 5) false))
    ≡ codes "cert split second 5 1 3-5" ++ 10 ∷ []
unfolding digits runs
split_in_ranges = refl

range_first : job_words Two (3 ∷ 4 ∷ 5 ∷ 1 ∷ []) ≡ codes "3-5" ∷ codes "1" ∷ []
unfolding digits runs
range_first = refl

falling : job_words Two (5 ∷ 4 ∷ 3 ∷ []) ≡ codes "5" ∷ codes "4" ∷ codes "3" ∷ []
unfolding digits runs
falling = refl

two_alone : job_words Two (1 ∷ 2 ∷ []) ≡ codes "1" ∷ codes "2" ∷ []
unfolding digits runs
two_alone = refl

-- ---- reading

text_of : List (List ℕ) → List ℕ
text_of lines = flat_map (λ line. line ++ 10 ∷ []) lines

-- the lines of that text up to its pieces, the problem's notation aside
before_pieces : List ℕ → List (List ℕ)
before_pieces problem =
    codes "answer 1" ∷ problem ∷ codes "jobs 3" ∷ codes "machines 2" ∷ codes "value 6" ∷ []

-- the same with these lines behind it
with_lines : List (List ℕ) → List ℕ
with_lines more = text_of (before_pieces (codes "problem P2|prmp|Cmax") ++ more)

read_back : answer_in (text_of two_parallel_lines) ≡ Ok two_parallel
unfolding text_of two_parallel two_parallel_lines answer_in sheet_of answer_at heading_at exactly
    problem_at problem_in word_behind count_at value_at pieces_at piece_in certificate_at
    certificate_in claim_in later_claim_in numeral kept_lines lines words notation expect conditions_at listed
    tokens_from plain
read_back = refl

cut_after_value : answer_in (with_lines []) ≡ Err EndsEarly
unfolding with_lines before_pieces text_of answer_in sheet_of answer_at heading_at exactly
    problem_at problem_in word_behind count_at value_at pieces_at piece_in certificate_at
    certificate_in claim_in later_claim_in numeral kept_lines lines words notation expect conditions_at listed
    tokens_from plain
cut_after_value = refl

short_piece : answer_in (with_lines (codes "piece 1 1 0" ∷ [])) ≡ Err (BadLine 6)
unfolding with_lines before_pieces text_of answer_in sheet_of answer_at heading_at exactly
    problem_at problem_in word_behind count_at value_at pieces_at piece_in certificate_at
    certificate_in claim_in later_claim_in numeral kept_lines lines words notation expect conditions_at listed
    tokens_from plain
short_piece = refl

late_stop : answer_in (with_lines (codes "piece 1 1 0 4000000000000000001" ∷ []))
    ≡ Err (NumberTooLarge 6)
unfolding with_lines before_pieces text_of answer_in sheet_of answer_at heading_at exactly
    problem_at problem_in word_behind count_at value_at pieces_at piece_in certificate_at
    certificate_in claim_in later_claim_in numeral kept_lines lines words notation expect conditions_at listed
    tokens_from plain
late_stop = refl

form_before_numbers : answer_in (with_lines (codes "piece 100001 1 0 x" ∷ [])) ≡ Err (BadLine 6)
unfolding with_lines before_pieces text_of answer_in sheet_of answer_at heading_at exactly
    problem_at problem_in word_behind count_at value_at pieces_at piece_in certificate_at
    certificate_in claim_in later_claim_in numeral kept_lines lines words notation expect conditions_at listed
    tokens_from plain
form_before_numbers = refl

small_job : answer_in
    (with_lines (codes "piece -10000000000000000000000000000000000000000 1 0 4" ∷ []))
    ≡ Err (BadLine 6)
unfolding with_lines before_pieces text_of answer_in sheet_of answer_at heading_at exactly
    problem_at problem_in word_behind count_at value_at pieces_at piece_in certificate_at
    certificate_in claim_in later_claim_in numeral kept_lines lines words notation expect conditions_at listed
    tokens_from plain
small_job = refl

no_delta : answer_in (with_lines (codes "cert split first 1-3" ∷ [])) ≡ Err (BadLine 6)
unfolding with_lines before_pieces text_of answer_in sheet_of answer_at heading_at exactly
    problem_at problem_in word_behind count_at value_at pieces_at piece_in certificate_at
    certificate_in claim_in later_claim_in split_in numeral kept_lines lines words notation expect conditions_at
    listed tokens_from plain
no_delta = refl

after_end : answer_in
    (with_lines (codes "cert last 3 1" ∷ codes "end" ∷ [] ∷ codes "# a note" ∷ codes "end" ∷ []))
    ≡ Err (BadLine 10)
unfolding with_lines before_pieces text_of answer_in sheet_of answer_at heading_at exactly
    problem_at problem_in word_behind count_at value_at pieces_at piece_in certificate_at
    certificate_in claim_in later_claim_in jobs_in jobs_listed jobs_from run_in range_ends numeral kept_lines lines
    words notation expect conditions_at listed tokens_from plain
after_end = refl

unknown_goal : answer_in (text_of (before_pieces (codes "problem 1||sumX"))) ≡ Err BadNotation
unfolding before_pieces text_of answer_in sheet_of answer_at heading_at exactly problem_at
    problem_in word_behind count_at value_at pieces_at piece_in certificate_at certificate_in
    claim_in later_claim_in numeral kept_lines lines words notation expect conditions_at listed tokens_from plain
unknown_goal = refl

no_notation : answer_in (text_of (before_pieces (codes "problem"))) ≡ Err BadNotation
unfolding before_pieces text_of answer_in sheet_of answer_at heading_at exactly problem_at
    problem_in word_behind count_at value_at pieces_at piece_in certificate_at certificate_in
    claim_in later_claim_in numeral kept_lines lines words notation expect conditions_at listed tokens_from plain
no_notation = refl

one_return : problem_in (record { number = 2; bytes = codes " problem F2 || Cmax" ++ 13 ∷ [] })
    ≡ Ok (record (plain_problem Flow Cmax) { count = Some 2 })
unfolding problem_in words notation expect conditions_at listed tokens_from plain
one_return = refl

two_returns : problem_in (record { number = 2; bytes = codes "problem F2||Cmax" ++ 13 ∷ 13 ∷ [] })
    ≡ Err BadNotation
unfolding problem_in words notation expect conditions_at listed tokens_from plain
two_returns = refl

least_value : value_in 5 (codes "-9223372036854775808") ≡ Ok (negsuc 9223372036854775807)
unfolding numeral
least_value = refl

below_least_value : value_in 5 (codes "-9223372036854775809") ≡ Err (NumberTooLarge 5)
unfolding numeral
below_least_value = refl
