-- The line of a piece in its usual form.
use Rattle.std.proofs.Common.{◌≡◌, ◌+◌, ◌<◌, ◌≤◌, ◌⊎◌, inl, inr, ℕ, pos, negsuc, true, List, [], ◌∷◌, ◌++◌, length, codes, is_some, Ok, to_z, w64, refl, sym, ap, ◌∙◌, arith, append_assoc, length-append}
use Rattle.std.proofs.lemmas.Int.{ints}
use Rattle.tf_words.specs.Ranged.{placed, is_number}
use Rattle.tf_words.specs.Words.{words, lines, kept_lines}
use Rattle.tf_words.specs.FirstLine.{IsNumeralOf, IsWordBefore, IsLineEnd, first_words, line_words}
use Rattle.tf_words.proofs.FirstLine.{word_first, line_ends, return_ends, numeral_parts}
use Rattle.tf_words.proofs.NumeralOf.{Few, as_pos, numeral_is}
use Rattle.tf_schedule.specs.declared.piece.Piece.{Piece}
use Rattle.tf_model.specs.Limit.{most_jobs, most_machines}
use Rattle.tf_text.specs.AnswerReading.{counted, count_in, signed_within, time_in, piece_in, pieces_at}
use Rattle.tf_text.specs.NextPiece.{IsUsual, with_pieces, Moves}
use Rattle.tf_text.proofs.Reading.{piece_read}
use Rattle.tf_text.proofs.Stages.{kept_line}
use Rattle.tf_text.proofs.TextLines.{AreOfLine, line_over, digits_of_line, row, row_then, row_of_line}
use Rattle.tf_text.proofs.Numerals.{judged_within}

-- digits are a number
is_number_word : (word : List ℕ) (n : ℕ) → IsNumeralOf word n → is_number word ≡ true
is_number_word word n is = ap (λ o. is_some o) (numeral_is word n is)

-- digits as a count in range
count_is : (line most n : ℕ) (word : List ℕ) → IsNumeralOf word n → 1 ≤ n → n ≤ most
    → count_in line most word ≡ Ok n
count_is line most n word is low high =
    ap (λ o. counted line (placed (pos 1) (pos most) o)) (numeral_is word n is)
    ∙ ap (counted line)
    (judged_within (pos 1) (pos most) (pos n) (omega (arith, ints, low))
    (omega (arith, ints, high)))

-- digits as a time
time_is : (line n : ℕ) (word : List ℕ) → IsNumeralOf word n → Few n
    → time_in line word ≡ Ok (to_z w64 n)
time_is line n word is few =
    ap (λ o. signed_within line (placed (negsuc 3999999999999999999) (pos 4000000000000000000) o))
    (numeral_is word n is)
    ∙ ap (signed_within line)
    (judged_within (negsuc 3999999999999999999) (pos 4000000000000000000) (pos n)
    (omega (arith, ints)) (omega (arith, ints)))
    ∙ ap (λ z. Ok z) (as_pos n few)

-- the words of a piece, and their numbers
pub record AreFour (a b c d : List ℕ) (j m s t : ℕ) : Type 0 where
  pub job : IsNumeralOf a j
  pub job_low : 1 ≤ j
  pub job_high : j ≤ most_jobs
  pub machine : IsNumeralOf b m
  pub machine_low : 1 ≤ m
  pub machine_high : m ≤ most_machines
  pub start : IsNumeralOf c s
  pub start_few : Few s
  pub stop : IsNumeralOf d t
  pub stop_few : Few t

abbrev piece_of : ℕ → ℕ → ℕ → ℕ → Piece
piece_of job machine start stop =
    record { job = job; machine = machine; start = to_z w64 start; stop = to_z w64 stop }

-- four such words are read as a piece
read_piece : (n : ℕ) (a b c d : List ℕ) (job machine start stop : ℕ)
    → AreFour a b c d job machine start stop
    → piece_in n (a ∷ b ∷ c ∷ d ∷ []) ≡ Ok (piece_of job machine start stop)
unfolding piece_in
read_piece n a b c d job machine start stop are =
    rw (
      is_number_word a job are.job,
      is_number_word b machine are.machine,
      is_number_word c start are.start,
      is_number_word d stop are.stop,
    )
    (rw (count_is n most_jobs job a are.job are.job_low are.job_high)
    (rw (count_is n most_machines machine b are.machine are.machine_low are.machine_high)
    (rw (time_is n start c are.start are.start_few)
    (rw (time_is n stop d are.stop are.stop_few) refl))))

-- the words of such a line
pub five_words : (key a b c d first second third fourth fifth sixth rest : List ℕ)
    → IsWordBefore first key second → IsWordBefore second a third → IsWordBefore third b fourth
    → IsWordBefore fourth c fifth → IsWordBefore fifth d sixth → IsLineEnd sixth rest
    → line_words first ≡ key ∷ a ∷ b ∷ c ∷ d ∷ []
five_words key a b c d first second third fourth fifth sixth rest k l m n o end =
    k.words
    ∙ ap (λ ws. key ∷ ws) (l.words
    ∙ ap (λ ws. a ∷ ws) (m.words
    ∙ ap (λ ws. b ∷ ws) (n.words
    ∙ ap (λ ws. c ∷ ws) (o.words ∙ ap (λ ws. d ∷ ws) end.words))))

-- the end of such a line
ended : (text rest : List ℕ) → (text ≡ 10 ∷ rest) ⊎ (text ≡ 13 ∷ 10 ∷ rest)
    → (end : List ℕ) × (text ≡ end ++ 10 ∷ rest) × AreOfLine end × IsLineEnd text rest
ended text rest (inl is) = ([], is, refl, line_ends text rest is)
ended text rest (inr is) = (13 ∷ [], is, refl, return_ends text rest is)

abbrev key : List ℕ
key = codes "piece"

digits_own : (word : List ℕ) (n : ℕ) → IsNumeralOf word n → AreOfLine word
digits_own word n is = digits_of_line word (numeral_parts word is.numeral).1

-- a text that begins with such a line
pub usual_text : (text t1 t2 t3 t4 t5 rest a b c d : List ℕ) (job machine start stop : ℕ)
    → text ≡ codes "piece" ++ t1
    → t1 ≡ 32 ∷ (a ++ t2) → t2 ≡ 32 ∷ (b ++ t3) → t3 ≡ 32 ∷ (c ++ t4) → t4 ≡ 32 ∷ (d ++ t5)
    → (t5 ≡ 10 ∷ rest) ⊎ (t5 ≡ 13 ∷ 10 ∷ rest)
    → IsWordBefore t1 a t2 → IsWordBefore t2 b t3 → IsWordBefore t3 c t4 → IsWordBefore t4 d t5
    → AreFour a b c d job machine start stop
    → IsUsual text (piece_of job machine start stop) rest
unfolding line_words
usual_text text t1 t2 t3 t4 t5 rest a b c d job machine start stop is is1 is2 is3 is4 is5 w1 w2 w3 w4 are =
    let (end, end-is, own-end, over) = ended t5 rest is5 in
    let first : IsWordBefore text key t1 =
    word_first text key t1 is (omega arith) refl
    (record { byte = 32; more = a ++ t2; is = is1; white = refl }) in
    let own : AreOfLine (row key a b c d end) =
    row_of_line key a b c d end refl (digits_own a job are.job) (digits_own b machine are.machine)
    (digits_own c start are.start) (digits_own d stop are.stop) own-end in
    let parts : text ≡ row key a b c d end ++ 10 ∷ rest =
    is ∙ ap (λ t. key ++ t) (is1 ∙ ap (λ t. 32 ∷ (a ++ t)) (is2 ∙ ap (λ t. 32 ∷ (b ++ t))
    (is3 ∙ ap (λ t. 32 ∷ (c ++ t)) (is4 ∙ ap (λ t. 32 ∷ (d ++ t)) end-is))))
    ∙ row_then key a b c d end (10 ∷ rest) in
    let same : words (row key a b c d end) ≡ line_words text =
    sym (ap first_words (ap lines parts ∙ line_over (row key a b c d end) rest own)) in
    let whole : words (row key a b c d end) ≡ key ∷ a ∷ b ∷ c ∷ d ∷ [] =
    same ∙ five_words key a b c d text t1 t2 t3 t4 t5 rest first w1 w2 w3 w4 over in
    record {
      line = row key a b c d end;
      is = parts;
      own = own;
      kept = rw whole refl;
      key = rw whole refl;
      read = λ n. rw whole (read_piece n a b c d job machine start stop are);
    }

pub usual_shorter : (text rest : List ℕ) (piece : Piece) → IsUsual text piece rest
    → length rest < length text
usual_shorter text rest piece at =
    omega (arith, ap length at.is, length-append at.line (10 ∷ rest))

-- one piece more, whatever follows the text
pub usual_moves : (old front new : List Piece) (first number : ℕ) (all text rest : List ℕ)
    (piece : Piece)
    → Moves old first all front number text → IsUsual text piece rest → new ≡ front ++ piece ∷ []
    → Moves old first all new (number + 1) rest
usual_moves old front new first number all text rest piece moves at push = λ more.
    let parts : text ++ more ≡ at.line ++ 10 ∷ (rest ++ more) =
    ap (λ t. t ++ more) at.is ∙ append_assoc at.line (10 ∷ rest) more in
    let here : kept_lines number (lines (text ++ more))
    ≡ record { number = number; bytes = at.line } ∷ kept_lines (number + 1) (lines (rest ++ more)) =
    ap (kept_lines number) (ap lines parts ∙ line_over at.line (rest ++ more) at.own)
    ∙ kept_line at.line number (lines (rest ++ more)) at.kept in
    moves more
    ∙ piece_read front piece _ _ _ here at.key (at.read number)
    ∙ ap (λ ps. with_pieces ps (pieces_at (kept_lines (number + 1) (lines (rest ++ more))))) (sym push)
