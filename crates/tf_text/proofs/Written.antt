-- What is written piece by piece, as lines of words.
use Rattle.std.proofs.Common.{◌≡◌, ℕ, ◌<◌, ◌≤◌, ◌^◌, ℤ, Bool, List, [], ◌∷◌, ◌++◌, length, map, codes, sym, ap, ◌∙◌, append_assoc, arith}
use Rattle.std.proofs.lemmas.Fmt.{length-decimal-le}
use Rattle.std.proofs.lemmas.Grind.{flat_map-append}
use Rattle.std.proofs.lemmas.List.{append-nil}
use Rattle.std.specs.List.{flat_map, join_with_byte}
use Rattle.std.specs.Fmt.{decimal, signed_decimal}
use Rattle.tf_schedule.specs.declared.piece.Piece.{Piece}
use Rattle.tf_check.specs.Claim.{BySplit}
use Rattle.tf_text.specs.declared.answer.layout.Layout.{Layout}
use Rattle.tf_text.specs.declared.answer.layout.Layout.TheVariants.{One, Two}
use Rattle.tf_notation.specs.Canonical.{canonical}
use Rattle.tf_text.specs.JobWords.{job_words}
use Rattle.tf_text.specs.AnswerText.{SheetData, piece_words, side_word, claim_words, version, back_lines, front_lines, size_lines, line_text, pieces_text, answer_text}

-- xs is written, and then ys
pub then : (before between after xs ys : List ℕ) → between ≡ before ++ xs → after ≡ between ++ ys
    → after ≡ before ++ (xs ++ ys)
then before between after xs ys first next = next ∙ ap (λ text. text ++ ys) first
    ∙ append_assoc before xs ys

-- a word, and each of the others after a blank
pub joined : (first : List ℕ) (others : List (List ℕ))
    → join_with_byte 32 (first ∷ others) ≡ first ++ flat_map (λ word. 32 ∷ word) others
joined first [] = sym (append-nil first)
joined first (word ∷ others) = ap (λ rest. first ++ 32 ∷ rest) (joined word others)

-- a number of 64 bits has at most 20 digits
pub few_digits : (number : ℕ) → number < 2 ^ 64 → length (decimal number) ≤ 20
few_digits number small = length-decimal-le 20 number (omega arith) (omega arith) (omega arith)

-- a line of which the end was written first
pub line_from_end : (s0 s1 s2 s3 s4 s5 key a b c d rest : List ℕ) → s0 ≡ 10 ∷ rest
    → s1 ≡ (32 ∷ d) ++ s0 → s2 ≡ (32 ∷ c) ++ s1 → s3 ≡ (32 ∷ b) ++ s2 → s4 ≡ (32 ∷ a) ++ s3
    → s5 ≡ key ++ s4 → s5 ≡ line_text (key ∷ a ∷ b ∷ c ∷ d ∷ []) ++ rest
line_from_end s0 s1 s2 s3 s4 s5 key a b c d rest e0 e1 e2 e3 e4 e5 =
    rw (e5, e4, e3, e2, e1, e0) (simp append_assoc)

-- a notation up to the end of its line, and three lines
pub front_pushed : (t0 t1 t2 t3 t4 t5 notation a b d : List ℕ) → t1 ≡ t0 ++ notation
    → t2 ≡ t1 ++ 10 ∷ [] → t3 ≡ t2 ++ a → t4 ≡ t3 ++ b → t5 ≡ t4 ++ d
    → t5 ≡ t0 ++ (notation ++ 10 ∷ (a ++ (b ++ (d ++ []))))
front_pushed t0 t1 t2 t3 t4 t5 notation a b d e1 e2 e3 e4 e5 =
    rw (e5, e4, e3, e2, e1, append-nil d) (simp append_assoc)

-- the lines before the pieces, behind the first line and the first word of the second
pub front_written : (layout : Layout) (s : SheetData) (heading notation text new : List ℕ)
    → heading ≡ codes "answer " ++ version layout ++ 10 ∷ codes "problem "
    → notation ≡ canonical s.problem → text ≡ heading
    → new ≡ text ++ (notation ++ 10 ∷ flat_map line_text (size_lines s))
    → new ≡ flat_map line_text (front_lines layout s)
front_written One s heading notation text new e1 e2 e3 e4 = rw (e4, e3, e2, e1)
    (ap (λ t. (codes "answer " ++ version One ++ 10 ∷ codes "problem ") ++ t)
    (sym (append_assoc (canonical s.problem) (10 ∷ []) (flat_map line_text (size_lines s)))))
front_written Two s heading notation text new e1 e2 e3 e4 = rw (e4, e3, e2, e1)
    (ap (λ t. (codes "answer " ++ version Two ++ 10 ∷ codes "problem ") ++ t)
    (sym (append_assoc (canonical s.problem) (10 ∷ []) (flat_map line_text (size_lines s)))))

-- the kind of a certificate and its jobs
pub jobs_written : (layout : Layout) (t0 t1 t2 kind jobs same : List ℕ) → same ≡ jobs
    → t1 ≡ t0 ++ kind → t2 ≡ t1 ++ flat_map (λ word. 32 ∷ word) (job_words layout same)
    → t2 ≡ t0 ++ join_with_byte 32 (kind ∷ job_words layout jobs)
jobs_written layout t0 t1 t2 kind jobs same is e1 e2 =
    then t0 t1 t2 kind _ e1 e2
    ∙ ap (λ js. t0 ++ (kind ++ flat_map (λ word. 32 ∷ word) (job_words layout js))) is
    ∙ ap (λ text. t0 ++ text) (sym (joined kind (job_words layout jobs)))

-- a split: which machine has to wait, for how long, and the jobs of the side
pub split_written : (layout : Layout) (side : List ℕ) (delta : ℤ) (first : Bool)
    (t0 t1 t2 t3 t4 same : List ℕ)
    → same ≡ side → t1 ≡ t0 ++ codes "split " → t2 ≡ t1 ++ side_word first
    → t3 ≡ t2 ++ 32 ∷ signed_decimal delta
    → t4 ≡ t3 ++ flat_map (λ word. 32 ∷ word) (job_words layout same)
    → t4 ≡ t0 ++ join_with_byte 32 (claim_words layout (BySplit side delta first))
split_written layout side delta first t0 t1 t2 t3 t4 same is e1 e2 e3 e4 =
    let from3 : t4 ≡ t3 ++ flat_map (λ word. 32 ∷ word) (job_words layout side) = e4
    ∙ ap (λ js. t3 ++ flat_map (λ word. 32 ∷ word) (job_words layout js)) is in
    let from2 : t4 ≡ t2 ++ 32
    ∷ (signed_decimal delta ++ flat_map (λ word. 32 ∷ word) (job_words layout side)) =
    then t2 t3 t4 (32 ∷ signed_decimal delta) _ e3 from3 in
    let listed : t4 ≡ t2 ++ 32 ∷ join_with_byte 32 (signed_decimal delta ∷ job_words layout side) =
    from2 ∙ ap (λ text. t2 ++ 32 ∷ text)
    (sym (joined (signed_decimal delta) (job_words layout side))) in
    let from1 : t4 ≡ t1
    ++ (side_word first ++ 32
    ∷ join_with_byte 32 (signed_decimal delta ∷ job_words layout side)) =
    then t1 t2 t4 _ _ e2 listed in
    then t0 t1 t4 (codes "split ") _ e1 from1

-- all lines
pub parts_joined : (layout : Layout) (s : SheetData) (front back : List ℕ) (pieces : List Piece)
    → front ≡ flat_map line_text (front_lines layout s) → pieces ≡ s.answer.pieces
    → back ≡ flat_map line_text (back_lines layout s.answer.certificate)
    → front ++ (pieces_text pieces ++ back) ≡ answer_text layout s
unfolding answer_text
parts_joined layout s front back pieces is_front is_pieces is_back =
    let between = map piece_words s.answer.pieces in
    let behind = back_lines layout s.answer.certificate in
    rw (is_front, is_pieces, is_back)
    (ap (λ text. flat_map line_text (front_lines layout s) ++ text)
    (sym (flat_map-append line_text between behind))
    ∙ sym (flat_map-append line_text (front_lines layout s) (between ++ behind)))
