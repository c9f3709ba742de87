-- The words of a text are those of its lines.
use Rattle.std.proofs.Common.{◌≡◌, ℕ, zero, suc, ◌+◌, ◌<◌, ◌≤◌, Bool, true, ltb, eqb, List, [], ◌∷◌, ◌++◌, length, map, get_or, take, drop, filter, Option, Some, None, refl, sym, ap, subst, ◌∙◌, arith, inl, inr, append-nil, drop-cons, length-drop}
use Rattle.std.specs.List.{slice_split, onto_first, flat_map, position, position_or_len}
use Rattle.std.proofs.lemmas.Bool.{cases_Bool, eqb-true}
use Rattle.std.proofs.lemmas.List.{drop-drop, map-append, take-append-drop}
use Rattle.std.proofs.lemmas.List.Elements.{filter-append}
use Rattle.std.proofs.lemmas.List.Sums.{passes_at_first}
use Rattle.std.proofs.lemmas.List.Splits.{length-slice_split, slice_split-cons_yes, slice_split-cons_no}
use Rattle.tf_words.specs.Words.{Word, is_white, words, lines, words_from}
use Rattle.tf_words.proofs.Lines.{line_last, line_none, line_then}
use Rattle.tf_words.proofs.Parts.{is_place}

-- ---- parts

module _ (p : ℕ → Bool) where
  onto_append : (c : ℕ) (parts more : List (List ℕ)) → 0 < length parts
      → onto_first c (parts ++ more) ≡ onto_first c parts ++ more
  onto_append c [] more some = absurd (omega arith)
  onto_append c (part ∷ parts) more some = refl

  split_append : (front : List ℕ) (b : ℕ) (rest : List ℕ) → p b ≡ true
      → slice_split p (front ++ b ∷ rest) ≡ slice_split p front ++ slice_split p rest
  split_append [] b rest white = slice_split-cons_yes p b rest white
  split_append (c ∷ front) b rest white = elim (cases_Bool (p c)) [
    | inl e ↦
        slice_split-cons_yes p c (front ++ b ∷ rest) e
        ∙ ap (λ parts. [] ∷ parts) (split_append front b rest white)
        ∙ ap (λ parts. parts ++ slice_split p rest) (sym (slice_split-cons_yes p c front e))
    | inr e ↦
        slice_split-cons_no p c (front ++ b ∷ rest) e
        ∙ ap (onto_first c) (split_append front b rest white)
        ∙ onto_append c (slice_split p front) (slice_split p rest)
        (omega (arith, length-slice_split p front))
        ∙ ap (λ parts. parts ++ slice_split p rest) (sym (slice_split-cons_no p c front e))
  ]

-- ---- words

-- white space divides the words before it from those behind it
pub words_split : (front : List ℕ) (b : ℕ) (rest : List ℕ) → is_white b ≡ true
    → words (front ++ b ∷ rest) ≡ words front ++ words rest
unfolding words
words_split front b rest white =
    ap (filter (λ part. ltb 0 (length part))) (split_append is_white front b rest white)
    ∙ filter-append (λ part. ltb 0 (length part)) (slice_split is_white front)
    (slice_split is_white rest)

-- ---- lines

bytes_at : (n : ℕ) (ws : List (List ℕ))
    → map (λ (w : Word). w.bytes) (map (λ w. record { line = n; bytes = w }) ws) ≡ ws
bytes_at n [] = refl
bytes_at n (w ∷ ws) = ap (λ zs. w ∷ zs) (bytes_at n ws)

bytes_from : (n : ℕ) (ls : List (List ℕ))
    → map (λ (w : Word). w.bytes) (words_from n ls) ≡ flat_map words ls
unfolding words_from
bytes_from n [] = refl
bytes_from n (l ∷ ls) =
    map-append (λ (w : Word). w.bytes) (map (λ w. record { line = n; bytes = w }) (words l))
    (words_from (n + 1) ls)
    ∙ ap (λ ws. ws ++ map (λ (w : Word). w.bytes) (words_from (n + 1) ls)) (bytes_at n (words l))
    ∙ ap (λ ws. words l ++ ws) (bytes_from (n + 1) ls)

-- the words of a text are those of its lines
lines_at : (most : ℕ) (text : List ℕ) (place : Option ℕ) → length text ≤ most
    → position (λ b. eqb b 10) text ≡ place → flat_map words (lines text) ≡ words text
unfolding lines words
lines_at zero text place le at =
    ap (flat_map words) (line_none text (omega (arith, le)))
    ∙ sym (no_words text (omega (arith, le)))
  where
    no_words : (t : List ℕ) → length t ≡ 0 → words t ≡ []
    no_words [] e = refl
    no_words (b ∷ bs) e = absurd (omega (arith, e))
lines_at (suc most) [] place le at = refl
lines_at (suc most) (b ∷ bs) None le at =
    ap (flat_map words) (line_last (b ∷ bs) (λ e. omega (arith, e)) at)
    ∙ append-nil (words (b ∷ bs))
lines_at (suc most) (b ∷ bs) (Some k) le at =
    let text = b ∷ bs in
    let place = is_place (position_or_len (λ c. eqb c 10) text) (length text) k at in
    let within : k < length text = omega (arith, place.0, place.1) in
    let feed : get_or text k 0 ≡ 10 =
    eqb-true _ _ (subst (λ (n : ℕ). eqb (get_or text n 0) 10 ≡ true) place.1
    (passes_at_first (λ c. eqb c 10) text 0 place.0)) in
    let rest = drop 1 (drop k text) in
    let front : drop k text ≡ 10 ∷ rest =
    let one : k + 1 ≡ suc k = omega arith in
    drop-cons text k 0 within ∙ ap (λ c. c ∷ drop (suc k) text) feed
    ∙ ap (λ ys. 10 ∷ ys) (sym (drop-drop 1 k text ∙ ap (λ n. drop n text) one)) in
    let shorter : length rest ≤ most = omega (
      arith,
      le,
      within,
      length-drop 1 (drop k text),
      length-drop k text,
    ) in
    ap (flat_map words) (line_then text (take k text) (drop k text) rest k at refl refl refl)
    ∙ ap (λ ws. words (take k text) ++ ws) (lines_at most rest (position (λ c. eqb c 10) rest) shorter refl)
    ∙ sym (words_split (take k text) 10 rest refl)
    ∙ ap (λ ys. words (take k text ++ ys)) (sym front)
    ∙ ap words (take-append-drop k text)

-- the words of lines, whatever the number of the first
pub placed_from : (n : ℕ) (text : List ℕ)
    → map (λ (w : Word). w.bytes) (words_from n (lines text)) ≡ words text
placed_from n text =
    bytes_from n (lines text)
    ∙ lines_at (length text) text (position (λ b. eqb b 10) text) (omega arith) refl
