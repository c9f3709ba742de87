-- A loop's step over the words of a line, and over the lines of pieces.
use Rattle.std.proofs.Common.{◌≡◌, ◌<◌, ◌≤◌, ◌+◌, ◌-◌, ℕ, suc, Bool, min, ltb, length, zero-add, add-zero, arith, inl, inr, true, false, List, [], ◌∷◌, ◌++◌, drop, codes, Result, Ok, Err, refl, sym, ap, subst, ◌∙◌, append_assoc}
use Rattle.std.proofs.lemmas.List.{append-nil, length-append}
use Rattle.std.proofs.lemmas.List.FromFn.{length-range_with_len}
use Rattle.std.proofs.lemmas.Bool.{cases_Bool, ltb-true, ltb-false, lt-ltb, le-ltb}
use Rattle.tf_model.specs.Limit.{most_jobs}
use Rattle.tf_text.specs.declared.answer.fault.AnswerFault.TheVariants.{TooLong, BadLine, NumberTooLarge, BadNotation, EndsEarly, OutOfMemory}
use Rattle.tf_text.specs.declared.answer.layout.Layout.TheVariants.{One, Two}
use Rattle.tf_text.specs.declared.answer.run.Run.{Run}
use Rattle.tf_model.specs.Outcome.{◌>>=◌}
use Rattle.tf_model.proofs.Outcomes
use Rattle.tf_model.proofs.Ranges.{range_push}
use Rattle.std.specs.List.{range_with_len}
use Rattle.tf_words.specs.Words.{words, first_is, KeptLine}
use Rattle.tf_schedule.specs.declared.piece.Piece.{Piece}
use Rattle.tf_text.specs.declared.answer.fault.AnswerFault.{AnswerFault}
use Rattle.tf_text.specs.JobWords.{run_jobs}
use Rattle.tf_text.specs.NextPiece.{Read, with_pieces}
use Rattle.tf_text.specs.AnswerReading.{fault_in, Fails, run_in, jobs_from, are_many, name_many, few, jobs_listed, piece_in, pieces_at}

-- a fault of a step is one of what begins with it
pub fails_then : {A B : Type 0} (e : AnswerFault) (r : Result A AnswerFault)
    (f : A → Result B AnswerFault)
    → Fails e r → Fails e (r >>= f)
fails_then e r f h = Outcomes.fails_then (fault_in e) r f h

-- ---- jobs

-- jobs that are read, and then those that reading gives
abbrev pub with_jobs : List ℕ → Result (List ℕ) AnswerFault → Result (List ℕ) AnswerFault
with_jobs front read = read >>= λ jobs. Ok (front ++ jobs)

pub no_jobs : (read : Result (List ℕ) AnswerFault) → with_jobs [] read ≡ read
no_jobs (Ok jobs) = refl
no_jobs (Err e) = refl

-- a word is read, and then the others
pub word_read : (line : ℕ) (word : List ℕ) (run : Run) (more : List (List ℕ))
    → run_in line word ≡ Ok run
    → jobs_from line (word ∷ more) ≡ with_jobs (run_jobs run) (jobs_from line more)
unfolding jobs_from
word_read line word run more read = rw read refl

-- what stands before what stands before
pub with_twice : (xs ys : List ℕ) (read : Result (List ℕ) AnswerFault)
    → with_jobs xs (with_jobs ys read) ≡ with_jobs (xs ++ ys) read
with_twice xs ys (Ok jobs) = ap (λ js. Ok js) (sym (append_assoc xs ys jobs))
with_twice xs ys (Err e) = refl

-- the loop's step: the jobs of one word more
pub job_read : (line : ℕ) (front : List ℕ) (run : Run) (word : List ℕ) (all more : List (List ℕ))
    → all ≡ word ∷ more → run_in line word ≡ Ok run
    → with_jobs front (jobs_from line all) ≡ with_jobs (front ++ run_jobs run) (jobs_from line more)
job_read line front run word all more is read =
    ap (λ ws. with_jobs front (jobs_from line ws)) is
    ∙ ap (with_jobs front) (word_read line word run more read)
    ∙ with_twice front (run_jobs run) (jobs_from line more)

-- a fault of a word is one of the list
pub job_fails : (line : ℕ) (front : List ℕ) (word : List ℕ) (all more : List (List ℕ))
    (e : AnswerFault) (total : Result (List ℕ) AnswerFault)
    → with_jobs front (jobs_from line all) ≡ total → all ≡ word ∷ more → Fails e (run_in line word)
    → Fails e total
unfolding jobs_from
job_fails line front word all more e total same is fails =
    subst (Fails e) (sym (ap (λ ws. with_jobs front (jobs_from line ws)) is) ∙ same)
    (fails_then e (jobs_from line (word ∷ more)) (λ jobs. Ok (front ++ jobs))
    (fails_then e (run_in line word)
    (λ run. jobs_from line more >>= λ others. Ok (run_jobs run ++ others)) fails))

pub jobs_end : (line : ℕ) (front : List ℕ) (all : List (List ℕ)) → all ≡ []
    → with_jobs front (jobs_from line all) ≡ Ok front
unfolding jobs_from
jobs_end line front all is = ap (λ ws. with_jobs front (jobs_from line ws)) is
    ∙ ap (λ jobs. Ok jobs) (append-nil front)

-- a run's jobs so far, and its next
pub job_pushed : (old items new : List ℕ) (first number job : ℕ) → first ≤ number → job ≡ number
    → items ≡ old ++ range_with_len first (number - first) → new ≡ items ++ job ∷ []
    → new ≡ old ++ range_with_len first (number + 1 - first)
job_pushed old items new first number job order same before push =
    let next : suc (number - first) ≡ number + 1 - first = omega arith in
    let here : job ≡ first + (number - first) = omega arith in
    push ∙ ap (λ js. js ++ job ∷ []) before
    ∙ append_assoc old (range_with_len first (number - first)) (job ∷ [])
    ∙ ap (λ j. old ++ (range_with_len first (number - first) ++ j ∷ [])) here
    ∙ ap (λ js. old ++ js) (sym (range_push first (number - first)))
    ∙ ap (λ n. old ++ range_with_len first n) next

-- ---- how many jobs

-- so many jobs, and those that reading gives: whether they are more than an instance may have
abbrev pub with_count : ℕ → Result (List ℕ) AnswerFault → Result Bool AnswerFault
with_count count read = read >>= λ jobs. Ok (ltb most_jobs (count + length jobs))

-- before the first word
pub no_count : (read : Result (List ℕ) AnswerFault)
    → with_count 0 read ≡ (read >>= λ jobs. Ok (are_many jobs))
no_count (Ok jobs) = ap (λ n. Ok (ltb most_jobs n)) (zero-add (length jobs))
no_count (Err e) = refl

-- more than is allowed stays more
same_side : (count new n m : ℕ) → new ≡ min (count + n) (most_jobs + 1)
    → ltb most_jobs (count + (n + m)) ≡ ltb most_jobs (new + m)
same_side count new n m is = elim (cases_Bool (ltb most_jobs (count + (n + m)))) [
  | inl e ↦ (let many : most_jobs < count + (n + m) = ltb-true _ _ e in e
      ∙ sym (lt-ltb most_jobs (new + m) (omega arith)))
  | inr e ↦ (let not_many : count + (n + m) ≤ most_jobs = ltb-false _ _ e in e
      ∙ sym (le-ltb most_jobs (new + m) (omega arith)))
]

-- the jobs of a run, counted up to one more than is allowed
more_count : (count new : ℕ) (run : Run) (read : Result (List ℕ) AnswerFault) → run.first ≤ run.last
    → new ≡ min (count + (run.last - run.first + 1)) (most_jobs + 1)
    → with_count count (with_jobs (run_jobs run) read) ≡ with_count new read
more_count count new run (Ok jobs) order is =
    let many : length (run_jobs run) ≡ run.last + 1 - run.first =
    length-range_with_len run.first (run.last + 1 - run.first) in
    let longer : length (run_jobs run ++ jobs) ≡ (run.last - run.first + 1) + length jobs =
    omega (arith, length-append (run_jobs run) jobs, many) in
    ap (λ n. Ok (ltb most_jobs (count + n))) longer
    ∙ ap (λ b. Ok b) (same_side count new (run.last - run.first + 1) (length jobs) is)
more_count count new run (Err e) order is = refl

-- the loop's step: the jobs of one word more
pub count_step : (line count new : ℕ) (run : Run) (word : List ℕ) (all more : List (List ℕ))
    (total : Result Bool AnswerFault)
    → run.first ≤ run.last → new ≡ min (count + (run.last - run.first + 1)) (most_jobs + 1)
    → all ≡ word ∷ more → run_in line word ≡ Ok run
    → with_count count (jobs_from line all) ≡ total → with_count new (jobs_from line more) ≡ total
count_step line count new run word all more total order is words read same =
    sym (more_count count new run (jobs_from line more) order is)
    ∙ ap (with_count count) (sym (word_read line word run more read))
    ∙ ap (λ ws. with_count count (jobs_from line ws)) (sym words) ∙ same

-- a fault of a word
pub count_fails : (line count : ℕ) (word : List ℕ) (all more : List (List ℕ)) (e : AnswerFault)
    (total : Result Bool AnswerFault)
    → with_count count (jobs_from line all) ≡ total → all ≡ word ∷ more → Fails e (run_in line word)
    → Fails e total
unfolding jobs_from
count_fails line count word all more e total same is fails =
    subst (Fails e) (sym (ap (λ ws. with_count count (jobs_from line ws)) is) ∙ same)
    (fails_then e (jobs_from line (word ∷ more)) (λ jobs. Ok (ltb most_jobs (count + length jobs)))
    (fails_then e (run_in line word)
    (λ run. jobs_from line more >>= λ others. Ok (run_jobs run ++ others)) fails))

-- no word is left
pub count_end : (line count : ℕ) (all : List (List ℕ)) → all ≡ []
    → with_count count (jobs_from line all) ≡ Ok (ltb most_jobs count)
unfolding jobs_from
count_end line count all is = ap (λ ws. with_count count (jobs_from line ws)) is
    ∙ ap (λ n. Ok (ltb most_jobs n)) (add-zero count)

-- a fault of counting is one of reading
pub many_fails : (e : AnswerFault) (read : Result (List ℕ) AnswerFault)
    → Fails e (read >>= λ jobs. Ok (are_many jobs)) → Fails e read
many_fails TooLong (Ok jobs) h = cc
many_fails (BadLine line) (Ok jobs) h = cc
many_fails (NumberTooLarge line) (Ok jobs) h = cc
many_fails BadNotation (Ok jobs) h = cc
many_fails EndsEarly (Ok jobs) h = cc
many_fails OutOfMemory (Ok jobs) h = tt
many_fails TooLong (Err f) h = cc
many_fails (BadLine line) (Err f) h = cc
many_fails (NumberTooLarge line) (Err f) h = cc
many_fails BadNotation (Err f) h = cc
many_fails EndsEarly (Err f) h = cc
many_fails OutOfMemory (Err f) h = tt

-- a list of too many jobs
many_read : (line : ℕ) (read : Result (List ℕ) AnswerFault)
    → (read >>= λ jobs. Ok (are_many jobs)) ≡ Ok true → (read >>= few Two line) ≡ Err (BadLine line)
many_read line (Ok jobs) h = let many : are_many jobs ≡ true = cc in rw many refl
many_read line (Err e) h = cc

pub listed_many : (line : ℕ) (ws : List (List ℕ)) → name_many line ws ≡ Ok true
    → jobs_listed Two line ws ≡ Err (BadLine line)
unfolding jobs_listed
listed_many line ws h = many_read line (jobs_from line ws) h

-- a list of few jobs
few_read : (line : ℕ) (read : Result (List ℕ) AnswerFault)
    → (read >>= λ jobs. Ok (are_many jobs)) ≡ Ok false → (read >>= few Two line) ≡ read
few_read line (Ok jobs) h = let not_many : are_many jobs ≡ false = cc in rw not_many refl
few_read line (Err e) h = refl

pub listed_few : (line : ℕ) (ws : List (List ℕ)) → name_many line ws ≡ Ok false
    → jobs_listed Two line ws ≡ jobs_from line ws
unfolding jobs_listed
listed_few line ws h = few_read line (jobs_from line ws) h

-- a list with a fault
pub listed_fails : (line : ℕ) (ws : List (List ℕ)) (e : AnswerFault) → Fails e (name_many line ws)
    → Fails e (jobs_listed Two line ws)
unfolding jobs_listed
listed_fails line ws e h =
    fails_then e (jobs_from line ws) (few Two line) (many_fails e (jobs_from line ws) h)

-- a list of version 1
any_read : (line : ℕ) (read : Result (List ℕ) AnswerFault) → (read >>= few One line) ≡ read
any_read line (Ok jobs) = refl
any_read line (Err e) = refl

pub listed_one : (line : ℕ) (ws : List (List ℕ)) → jobs_listed One line ws ≡ jobs_from line ws
unfolding jobs_listed
listed_one line ws = any_read line (jobs_from line ws)

-- ---- pieces

pieces_regroup : (front : List Piece) (piece : Piece) (read : Read)
    → with_pieces front (read >>= λ others. Ok (piece ∷ others.0, others.1))
    ≡ with_pieces (front ++ piece ∷ []) read
pieces_regroup front piece (Ok others) =
    ap (λ pieces. Ok (pieces, others.1)) (sym (append_assoc front (piece ∷ []) others.0))
pieces_regroup front piece (Err e) = refl

abbrev then_others : List KeptLine → Piece → Read
then_others more piece = pieces_at more >>= λ others. Ok (piece ∷ others.0, others.1)

abbrev words_of : KeptLine → List (List ℕ)
words_of line = words line.bytes

-- the line begins with `piece`, and these words are behind it
abbrev pub IsPieceLine : KeptLine → List (List ℕ) → Type 0
IsPieceLine line behind = (first_is (codes "piece") (words line.bytes) ≡ true)
    × (behind ≡ drop 1 (words line.bytes))

abbrev is_piece : KeptLine → Type 0
is_piece line = first_is (codes "piece") (words line.bytes) ≡ true

at_piece : (line : KeptLine) (more : List KeptLine) → is_piece line
    → pieces_at (line ∷ more)
    ≡ (piece_in line.number (drop 1 (words line.bytes)) >>= then_others more)
unfolding pieces_at
at_piece line more key = rw key refl

pub piece_read : (front : List Piece) (piece : Piece) (line : KeptLine) (all more : List KeptLine)
    → all ≡ line ∷ more → is_piece line
    → piece_in line.number (drop 1 (words line.bytes)) ≡ Ok piece
    → with_pieces front (pieces_at all) ≡ with_pieces (front ++ piece ∷ []) (pieces_at more)
piece_read front piece line all more is key read =
    ap (λ ls. with_pieces front (pieces_at ls)) is ∙ ap (with_pieces front) (at_piece line more key)
    ∙ ap (λ r. with_pieces front (r >>= then_others more)) read
    ∙ pieces_regroup front piece (pieces_at more)

-- the loop's step: one piece more
pub piece_step : (front new : List Piece) (piece : Piece) (line : KeptLine) (words : List (List ℕ))
    (all more : List KeptLine) (total : Read)
    → new ≡ front ++ piece ∷ [] → all ≡ line ∷ more → IsPieceLine line words
    → piece_in line.number words ≡ Ok piece → with_pieces front (pieces_at all) ≡ total
    → with_pieces new (pieces_at more) ≡ total
piece_step front new piece line words all more total push is key read same =
    let here : piece_in line.number (drop 1 (words_of line)) ≡ Ok piece =
    subst (λ (ws : List (List ℕ)). piece_in line.number ws ≡ Ok piece) key.1 read in
    ap (λ (pieces : List Piece). with_pieces pieces (pieces_at more)) push
    ∙ sym (piece_read front piece line all more is key.0 here) ∙ same

pub piece_fails : (front : List Piece) (line : KeptLine) (words : List (List ℕ))
    (all more : List KeptLine) (e : AnswerFault) (total : Read)
    → with_pieces front (pieces_at all) ≡ total
    → all ≡ line ∷ more → IsPieceLine line words → Fails e (piece_in line.number words)
    → Fails e total
piece_fails front line words all more e total same is key fails =
    let here : Fails e (piece_in line.number (drop 1 (words_of line))) =
    subst (λ (ws : List (List ℕ)). Fails e (piece_in line.number ws)) key.1 fails in
    subst (Fails e)
    (sym (ap (with_pieces front) (at_piece line more key.0))
    ∙ sym (ap (λ ls. with_pieces front (pieces_at ls)) is) ∙ same)
    (fails_then e (piece_in line.number (drop 1 (words_of line)) >>= then_others more)
    (λ x. Ok (front ++ x.0, x.1))
    (fails_then e (piece_in line.number (drop 1 (words_of line))) (then_others more) here))

-- a line of another kind
pub pieces_stop : (line : KeptLine) (all more : List KeptLine)
    → all ≡ line ∷ more → first_is (codes "piece") (words line.bytes) ≡ false
    → pieces_at all ≡ Ok ([], all)
unfolding pieces_at
pieces_stop line all more is other =
    let here : pieces_at (line ∷ more) ≡ Ok ([], line ∷ more) = rw other refl in
    ap pieces_at is ∙ here ∙ ap (λ ls. Ok ([], ls)) (sym is)

-- no line
pub pieces_end : (all : List KeptLine) → all ≡ [] → pieces_at all ≡ Ok ([], all)
unfolding pieces_at
pieces_end all is = ap pieces_at is ∙ ap (λ ls. Ok ([], ls)) (sym is)

-- no piece is left
pub pieces_none : (front : List Piece) (all : List KeptLine) → pieces_at all ≡ Ok ([], all)
    → with_pieces front (pieces_at all) ≡ Ok (front, all)
pieces_none front all none = ap (with_pieces front) none
    ∙ ap (λ pieces. Ok (pieces, all)) (append-nil front)
