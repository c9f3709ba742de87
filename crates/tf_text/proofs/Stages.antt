-- What a line of an answer text leads to.
use Rattle.std.proofs.Common.{◌≡◌, ℕ, zero, suc, ℤ, ◌+◌, ◌-◌, ◌<◌, ◌≤◌, true, false, List, [], ◌∷◌, ◌++◌, length, codes, Result, Ok, Err, IsErrAnd, MatchResult, refl, sym, ap, subst, ◌∙◌, append-nil, arith}
use Rattle.std.proofs.lemmas.Bool.{lt-ltb, le-ltb}
use Rattle.tf_model.specs.Limit.{most_bytes, most_jobs, most_machines}
use Rattle.tf_model.specs.Outcome.{◌>>=◌}
use Rattle.tf_model.specs.declared.problem.Problem.{Problem}
use Rattle.tf_words.specs.Words.{words, lines, first_is, is_kept, KeptLine, kept_lines}
use Rattle.tf_schedule.specs.declared.piece.Piece.{Piece}
use Rattle.tf_check.specs.Claim.{Claim, AnswerData}
use Rattle.tf_text.specs.AnswerText.{SheetData}
use Rattle.tf_text.specs.AnswerReading.{Fails, Gives, line_at, is_exactly, piece_in, pieces_at, exactly, finished, heading_at, problem_at, count_at, value_at, certificate_at, answer_at, sheet_of, answer_in}
use Rattle.tf_text.specs.NextPiece.{Read, with_pieces, Moves}
use Rattle.tf_text.specs.AnswerStage.{HeadData, sheet_from, from_over, from_end, from_certificate, from_pieces, from_value, from_machines, from_jobs, from_problem, Leads}
use Rattle.tf_text.specs.declared.answer.fault.AnswerFault.{AnswerFault}
use Rattle.tf_text.specs.declared.answer.fault.AnswerFault.TheVariants.{TooLong, BadLine, EndsEarly}
use Rattle.tf_text.specs.declared.answer.layout.Layout.{Layout}
use Rattle.tf_text.specs.declared.answer.head.Head.{Head}
use Rattle.tf_text.specs.declared.answer.stage.Stage.{Stage}
use Rattle.tf_text.specs.declared.answer.stage.Stage.TheVariants as stages
use Rattle.tf_check.specs.declared.answer.Answer.{Answer}
use Rattle.tf_text.proofs.Reading.{IsPieceLine, fails_then, piece_step, piece_fails, pieces_stop}

abbrev Outcome : Type 0
Outcome = Result SheetData AnswerFault

-- ---- any line

abbrev and_rest : {X : Type 0} → List KeptLine → Result X AnswerFault
    → Result (X × List KeptLine) AnswerFault
and_rest more read = read >>= λ x. Ok (x, more)

-- a line says something, and what follows it is left
pub says_then : {X : Type 0} (says : KeptLine → Result X AnswerFault)
    (after : X → List KeptLine → Outcome)
    (line : KeptLine) (more : List KeptLine) (x : X) (total : Outcome)
    → says line ≡ Ok x → (line_at says (line ∷ more) >>= λ y. after y.0 y.1) ≡ total
    → after x more ≡ total
says_then {X = X} says after line more x total said leads =
    sym (ap (λ (r : Result X AnswerFault). and_rest more r >>= λ y. after y.0 y.1) said) ∙ leads

-- its fault is that of the whole
pub says_fault : {X : Type 0} (says : KeptLine → Result X AnswerFault)
    (after : X → List KeptLine → Outcome)
    (line : KeptLine) (more : List KeptLine) (e : AnswerFault) (total : Outcome)
    → Fails e (says line) → (line_at says (line ∷ more) >>= λ y. after y.0 y.1) ≡ total
    → Fails e total
says_fault says after line more e total fails leads =
    subst (Fails e) leads
    (fails_then e (line_at says (line ∷ more)) (λ y. after y.0 y.1)
    (fails_then e (says line) (λ x. Ok (x, more)) fails))

-- what `?` hands on
pub handed_on : {X : Type 0} (Good : X → Type 0) (f : AnswerFault) (r : Result X AnswerFault)
    (total : Outcome)
    → IsErrAnd r (λ e. e ≡ f) → Fails f total → MatchResult r Good (λ e. Fails e total)
handed_on Good f (Ok x) total h fails = absurd h
handed_on Good f (Err e) total h fails = subst (λ e. Fails e total) (sym h) fails

-- ---- the whole, by its parts

module _ (h : HeadData) where
  end_part : (value : ℤ) (pieces : List Piece) (claim : Claim)
      (read : Result (List KeptLine) AnswerFault)
      → ((read >>= λ rest. (finished rest >>= λ u.
      Ok (record { pieces = pieces; value = value; certificate = claim })))
      >>= λ answer. Ok (sheet_from h answer))
      ≡ (read >>= from_over h (record { pieces = pieces; value = value; certificate = claim }))
  end_part value pieces claim (Ok []) = refl
  end_part value pieces claim (Ok (line ∷ more)) = refl
  end_part value pieces claim (Err e) = refl

  certificate_part : (value : ℤ) (pieces : List Piece)
      (read : Result (Claim × List KeptLine) AnswerFault)
      → ((read >>= λ x. (exactly (codes "end" ∷ []) x.1 >>= λ rest. (finished rest >>= λ u.
      Ok (record { pieces = pieces; value = value; certificate = x.0 }))))
      >>= λ answer. Ok (sheet_from h answer))
      ≡ (read >>= λ x. from_end h (record { pieces = pieces; value = value; certificate = x.0 }) x.1)
  certificate_part value pieces (Ok x) =
      end_part value pieces x.0 (exactly (codes "end" ∷ []) x.1)
  certificate_part value pieces (Err e) = refl

  pieces_part : (value : ℤ) (read : Read)
      → ((read >>= λ p. (certificate_at h.layout p.1 >>= λ x. (exactly (codes "end" ∷ []) x.1
      >>= λ rest. (finished rest >>= λ u.
      Ok (record { pieces = p.0; value = value; certificate = x.0 })))))
      >>= λ answer. Ok (sheet_from h answer))
      ≡ (read >>= λ x. from_certificate h value ([] ++ x.0) x.1)
  pieces_part value (Ok p) = certificate_part value p.0 (certificate_at h.layout p.1)
  pieces_part value (Err e) = refl

  value_part : (read : Result (ℤ × List KeptLine) AnswerFault)
      → ((read >>= λ v. (pieces_at v.1 >>= λ p. (certificate_at h.layout p.1 >>= λ x.
      (exactly (codes "end" ∷ []) x.1 >>= λ rest. (finished rest >>= λ u.
      Ok (record { pieces = p.0; value = v.0; certificate = x.0 }))))))
      >>= λ answer. Ok (sheet_from h answer))
      ≡ (read >>= λ v. from_pieces h v.0 [] v.1)
  value_part (Ok v) = pieces_part v.0 (pieces_at v.1)
  value_part (Err e) = refl

  -- the answer, as a part of the whole
  pub answer_part : (all : List KeptLine)
      → (answer_at h.layout all >>= λ answer. Ok (sheet_from h answer)) ≡ from_value h all
  unfolding answer_at
  answer_part all = value_part (value_at all)

module _ (layout : Layout) where
  machines_part : (problem : Problem) (jobs : ℕ) (read : Result (ℕ × List KeptLine) AnswerFault)
      → (read >>= λ x. (answer_at layout x.1 >>= λ answer.
      Ok (record { problem = problem; jobs = jobs; machines = x.0; answer = answer })))
      ≡ (read >>= λ x. from_value
      (record { layout = layout; problem = problem; jobs = jobs; machines = x.0 }) x.1)
  machines_part problem jobs (Ok x) = answer_part
      (record { layout = layout; problem = problem; jobs = jobs; machines = x.0 }) x.1
  machines_part problem jobs (Err e) = refl

  jobs_part : (problem : Problem) (read : Result (ℕ × List KeptLine) AnswerFault)
      → (read >>= λ x. (count_at (codes "machines") most_machines x.1 >>= λ y.
      (answer_at layout y.1 >>= λ answer.
      Ok (record { problem = problem; jobs = x.0; machines = y.0; answer = answer }))))
      ≡ (read >>= λ x. from_machines layout problem x.0 x.1)
  jobs_part problem (Ok x) =
      machines_part problem x.0 (count_at (codes "machines") most_machines x.1)
  jobs_part problem (Err e) = refl

  problem_part : (read : Result (Problem × List KeptLine) AnswerFault)
      → (read >>= λ p. (count_at (codes "jobs") most_jobs p.1 >>= λ x.
      (count_at (codes "machines") most_machines x.1 >>= λ y.
      (answer_at layout y.1 >>= λ answer.
      Ok (record { problem = p.0; jobs = x.0; machines = y.0; answer = answer })))))
      ≡ (read >>= λ p. from_jobs layout p.0 p.1)
  problem_part (Ok p) = jobs_part p.0 (count_at (codes "jobs") most_jobs p.1)
  problem_part (Err e) = refl

heading_part : (read : Result (Layout × List KeptLine) AnswerFault)
    → (read >>= λ v. (problem_at v.1 >>= λ p. (count_at (codes "jobs") most_jobs p.1 >>= λ x.
    (count_at (codes "machines") most_machines x.1 >>= λ y. (answer_at v.0 y.1 >>= λ answer.
    Ok (record { problem = p.0; jobs = x.0; machines = y.0; answer = answer }))))))
    ≡ (read >>= λ v. from_problem v.0 v.1)
heading_part (Ok v) = problem_part v.0 (problem_at v.1)
heading_part (Err e) = refl

-- the whole begins with its heading
pub whole : (all : List KeptLine) → sheet_of all ≡ (heading_at all >>= λ v. from_problem v.0 v.1)
unfolding sheet_of
whole all = heading_part (heading_at all)

-- ---- pieces

-- those so far, as a part of what is read
by_pieces : (h : HeadData) (value : ℤ) (front : List Piece) (read : Read)
    → (with_pieces front read >>= λ x. from_certificate h value x.0 x.1)
    ≡ (read >>= λ x. from_certificate h value (front ++ x.0) x.1)
by_pieces h value front (Ok x) = refl
by_pieces h value front (Err e) = refl

-- a piece more
pub piece_then : (h : HeadData) (value : ℤ) (front new : List Piece) (piece : Piece) (line : KeptLine)
    (behind : List (List ℕ)) (more : List KeptLine) (total : Outcome)
    → new ≡ front ++ piece ∷ [] → IsPieceLine line behind → piece_in line.number behind ≡ Ok piece
    → from_pieces h value front (line ∷ more) ≡ total → from_pieces h value new more ≡ total
piece_then h value front new piece line behind more total push key read leads =
    sym (by_pieces h value new (pieces_at more))
    ∙ ap (λ r. r >>= λ x. from_certificate h value x.0 x.1)
    (piece_step front new piece line behind (line ∷ more) more _ push refl key read refl)
    ∙ by_pieces h value front (pieces_at (line ∷ more)) ∙ leads

pub piece_fault : (h : HeadData) (value : ℤ) (front : List Piece) (line : KeptLine)
    (behind : List (List ℕ)) (more : List KeptLine) (e : AnswerFault) (total : Outcome)
    → IsPieceLine line behind → Fails e (piece_in line.number behind)
    → from_pieces h value front (line ∷ more) ≡ total → Fails e total
piece_fault h value front line behind more e total key fails leads =
    subst (Fails e) (by_pieces h value front (pieces_at (line ∷ more)) ∙ leads)
    (fails_then e (with_pieces front (pieces_at (line ∷ more)))
    (λ x. from_certificate h value x.0 x.1)
    (piece_fails front line behind (line ∷ more) more e _ refl refl key fails))

-- a line that is of no piece
pub other_line : (h : HeadData) (value : ℤ) (front : List Piece) (line : KeptLine)
    (more : List KeptLine) (total : Outcome)
    → first_is (codes "piece") (words line.bytes) ≡ false
    → from_pieces h value front (line ∷ more) ≡ total
    → from_certificate h value front (line ∷ more) ≡ total
other_line h value front line more total other leads =
    ap (λ ps. from_certificate h value ps (line ∷ more)) (sym (append-nil front))
    ∙ sym (ap (λ r. r >>= λ x. from_certificate h value (front ++ x.0) x.1)
    (pieces_stop line (line ∷ more) more refl other))
    ∙ leads

-- ---- the end

pub end_then : (h : HeadData) (answer : AnswerData) (line : KeptLine) (more : List KeptLine)
    (total : Outcome)
    → is_exactly (codes "end" ∷ []) (words line.bytes) ≡ true
    → from_end h answer (line ∷ more) ≡ total → from_over h answer more ≡ total
unfolding exactly
end_then h answer line more total is leads =
    let same : from_end h answer (line ∷ more) ≡ from_over h answer more = rw is refl in
    sym same ∙ leads

pub end_fault : (h : HeadData) (answer : AnswerData) (line : KeptLine) (more : List KeptLine)
    (total : Outcome)
    → is_exactly (codes "end" ∷ []) (words line.bytes) ≡ false
    → from_end h answer (line ∷ more) ≡ total → total ≡ Err (BadLine line.number)
unfolding exactly
end_fault h answer line more total no' leads =
    let same : from_end h answer (line ∷ more) ≡ Err (BadLine line.number) = rw no' refl in
    sym leads ∙ same

-- ---- lines that are kept, and others

pub kept_line : (bytes : List ℕ) (number : ℕ) (more : List (List ℕ)) → is_kept (words bytes) ≡ true
    → kept_lines number (bytes ∷ more) ≡ record { number = number; bytes = bytes }
    ∷ kept_lines (number + 1) more
unfolding kept_lines
kept_line bytes number more kept = rw kept refl

pub other_kept : (bytes : List ℕ) (number : ℕ) (more : List (List ℕ))
    → is_kept (words bytes) ≡ false
    → kept_lines number (bytes ∷ more) ≡ kept_lines (number + 1) more
unfolding kept_lines
other_kept bytes number more kept = rw kept refl

-- a text that ends before its line `end`
pub ends_early : {A : Type 0} (s : Stage A) (total : Outcome)
    → ((h : Head) (answer : Answer A) → s ≡ stages.Over h answer → ⊥)
    → ((fault : AnswerFault) → s ≡ stages.Failed fault → ⊥)
    → Leads s [] total → total ≡ Err EndsEarly
unfolding sheet_of heading_at problem_at count_at value_at pieces_at certificate_at exactly
ends_early stages.Heading total over failed h = sym h
ends_early (stages.Problem layout) total over failed h = sym h
ends_early (stages.Jobs layout problem) total over failed h = sym h
ends_early (stages.Machines layout problem jobs) total over failed h = sym h
ends_early (stages.Value head) total over failed h = sym h
ends_early (stages.Pieces head value pieces) total over failed h = sym h
ends_early (stages.End head answer) total over failed h = sym h
ends_early (stages.Over head answer) total over failed h = absurd (over head answer refl)
ends_early (stages.Failed fault) total over failed h = absurd (failed fault refl)

-- some lines of pieces were read from the front of a text
pub pieces_moved : (h : HeadData) (value : ℤ) (front new : List Piece) (number next : ℕ)
    (line text rest more : List ℕ) (total : Outcome)
    → line ≡ [] → Moves front number text new next rest
    → from_pieces h value front (kept_lines number (lines (line ++ (text ++ more)))) ≡ total
    → from_pieces h value new (kept_lines next (lines (line ++ (rest ++ more)))) ≡ total
pieces_moved h value front new number next line text rest more total empty moves leads =
    let leads-here : from_pieces h value front (kept_lines number (lines (text ++ more))) ≡ total =
    subst (λ l. from_pieces h value front (kept_lines number (lines (l ++ (text ++ more)))) ≡ total)
    empty leads in
    subst (λ l. from_pieces h value new (kept_lines next (lines (l ++ (rest ++ more)))) ≡ total)
    (sym empty)
    (sym (by_pieces h value new (pieces_at (kept_lines next (lines (rest ++ more)))))
    ∙ ap (λ r. r >>= λ x. from_certificate h value x.0 x.1) (sym (moves more))
    ∙ by_pieces h value front (pieces_at (kept_lines number (lines (text ++ more)))) ∙ leads-here)

-- ---- the whole text, by its length

pub in_reach : (text : List ℕ) → length text ≤ most_bytes
    → answer_in text ≡ sheet_of (kept_lines 1 (lines text))
unfolding answer_in
in_reach text few = rw (le-ltb most_bytes (length text) few) refl

pub too_long : (text : List ℕ) → most_bytes < length text → answer_in text ≡ Err TooLong
unfolding answer_in
too_long text more = rw (lt-ltb most_bytes (length text) more) refl

-- what a reader gives to which a whole text was fed
pub all_fed : (text : List ℕ) (left : ℕ) (result : Outcome) → left ≡ most_bytes + 1 - length text
    → (left ≡ 0 → result ≡ Err TooLong)
    → (0 < left → Gives (λ s. s) result (sheet_of (kept_lines 1 (lines text))))
    → Gives (λ s. s) result (answer_in text)
all_fed text zero result is long says =
    subst (λ r. Gives (λ s. s) r (answer_in text)) (sym (long refl))
    (too_long text (omega (arith, is)))
all_fed text (suc n) result is long says =
    subst (Gives (λ s. s) result) (sym (in_reach text (omega (arith, is)))) (says (omega arith))
