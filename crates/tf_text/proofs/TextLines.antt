-- The first line of a text that is read from its front.
use Rattle.std.proofs.Common.{◌≡◌, ℕ, suc, Bool, true, false, not, eqb, List, [], ◌∷◌, ◌++◌, length, take, drop, if◌then◌else◌, refl, sym, ap, subst, ◌∙◌, arith, inl, inr, append_assoc, append-nil}
use Rattle.std.specs.List.{onto_first, list_all, position_or_len}
use Rattle.std.specs.Char.{is_ascii_digit}
use Rattle.std.proofs.lemmas.Bool.{cases_Bool, eqb-true, false≢true, and_parts, and_from, not-true, ne_eqb}
use Rattle.std.proofs.lemmas.List.{take-append-drop}
use Rattle.std.proofs.lemmas.List.Folds.{list_all-append}
use Rattle.tf_words.specs.Words.{words, lines, kept_lines}
use Rattle.tf_words.proofs.Lines.{before_feed}
use Rattle.tf_words.proofs.DigitsRead.{digit_is}

-- none of these bytes is a line feed
abbrev pub AreOfLine : List ℕ → Type 0
AreOfLine bytes = list_all (λ b. not (eqb b 10)) bytes ≡ true

-- a line, and what follows its line feed
pub line_over : (bytes more : List ℕ) → AreOfLine bytes
    → lines (bytes ++ 10 ∷ more) ≡ bytes ∷ lines more
unfolding lines
line_over [] more all = refl
line_over (c ∷ cs) more all =
    let p = and_parts (not (eqb c 10)) _ all in
    let other : eqb c 10 ≡ false = not-true _ p.0 in
    rw other (ap (onto_first c) (line_over cs more p.1))

-- a last line
pub line_last : (c : ℕ) (cs : List ℕ) → AreOfLine (c ∷ cs) → lines (c ∷ cs) ≡ (c ∷ cs) ∷ []
unfolding lines
line_last c [] all = let other : eqb c 10 ≡ false = not-true _ (and_parts _ _ all).0 in rw other refl
line_last c (d ∷ ds) all =
    let p = and_parts (not (eqb c 10)) _ all in
    let other : eqb c 10 ≡ false = not-true _ p.0 in
    rw other (ap (onto_first c) (line_last d ds p.1))

pub both_of_line : (front back : List ℕ) → AreOfLine front → AreOfLine back
    → AreOfLine (front ++ back)
both_of_line front back f b = list_all-append (λ c. not (eqb c 10)) front back ∙ rw (f, b) refl

-- digits are no line feeds
pub digits_of_line : (ds : List ℕ) → list_all is_ascii_digit ds ≡ true → AreOfLine ds
digits_of_line [] h = refl
digits_of_line (d ∷ ds) h =
    let both = and_parts _ _ h in
    let low = (digit_is d both.0).0 in
    let other : eqb d 10 ≡ false = ne_eqb d 10 (λ e. omega (arith, low, e)) in
    and_from _ _ (rw other refl) (digits_of_line ds both.1)

-- the line of a key and four words, one blank before each
abbrev pub row : List ℕ → List ℕ → List ℕ → List ℕ → List ℕ → List ℕ → List ℕ
row key a b c d end =
    key ++ (32 ∷ (a ++ (32 ∷ (b ++ (32 ∷ (c ++ (32 ∷ (d ++ end))))))))

pub row_then : (key a b c d end rest : List ℕ)
    → key ++ (32 ∷ (a ++ (32 ∷ (b ++ (32 ∷ (c ++ (32 ∷ (d ++ (end ++ rest)))))))))
    ≡ row key a b c d end ++ rest
row_then key a b c d end rest =
    ap (λ t. key ++ (32 ∷ (a ++ (32 ∷ (b ++ (32 ∷ (c ++ (32 ∷ t))))))))
    (sym (append_assoc d end rest))
    ∙ ap (λ t. key ++ (32 ∷ (a ++ (32 ∷ (b ++ (32 ∷ t))))))
    (sym (append_assoc c (32 ∷ (d ++ end)) rest))
    ∙ ap (λ t. key ++ (32 ∷ (a ++ (32 ∷ t))))
    (sym (append_assoc b (32 ∷ (c ++ (32 ∷ (d ++ end)))) rest))
    ∙ ap (λ t. key ++ (32 ∷ t))
    (sym (append_assoc a (32 ∷ (b ++ (32 ∷ (c ++ (32 ∷ (d ++ end)))))) rest))
    ∙ sym (append_assoc key (32 ∷ (a ++ (32 ∷ (b ++ (32 ∷ (c ++ (32 ∷ (d ++ end)))))))) rest)

pub row_of_line : (key a b c d end : List ℕ) → AreOfLine key → AreOfLine a → AreOfLine b
    → AreOfLine c → AreOfLine d → AreOfLine end → AreOfLine (row key a b c d end)
row_of_line key a b c d end k w x y z e =
    both_of_line key _ k
    (both_of_line (32 ∷ a) _ w
    (both_of_line (32 ∷ b) _ x
    (both_of_line (32 ∷ c) _ y (both_of_line (32 ∷ d) end z e))))

-- what stands at the first line feed
feed_is : (text after : List ℕ) (b : ℕ)
    → drop (position_or_len (λ b. eqb b 10) text) text ≡ b ∷ after → b ≡ 10
feed_is [] after b h = cc
feed_is (c ∷ cs) after b h = elim (cases_Bool (eqb c 10)) [
  | inl e ↦
      let here : drop (position_or_len (λ b. eqb b 10) (c ∷ cs)) (c ∷ cs) ≡ c ∷ cs = rw e refl in
      let both : c ∷ cs ≡ b ∷ after = sym here ∙ h in
      let same : c ≡ b = cc in sym same ∙ eqb-true c 10 e
  | inr e ↦
      let later : position_or_len (λ x. eqb x 10) (c ∷ cs) ≡ suc (position_or_len (λ x. eqb x 10) cs) =
      rw e (omega arith) in
      feed_is cs after b (sym (ap (λ n. drop n (c ∷ cs)) later) ∙ h)
]

-- a text that is cut at its first line feed
pub cut_at : (text front from after : List ℕ) (k b : ℕ)
    → k ≡ position_or_len (λ b. eqb b 10) text
    → front ≡ take k text → from ≡ drop k text → from ≡ b ∷ after
    → (text ≡ front ++ 10 ∷ after) × AreOfLine front
cut_at text front from after k b k-is front-is from-is first =
    let at : drop (position_or_len (λ b. eqb b 10) text) text ≡ b ∷ after =
    ap (λ n. drop n text) (sym k-is) ∙ sym from-is ∙ first in
    let feed : b ≡ 10 = feed_is text after b at in (
      sym (take-append-drop k text)
          ∙ rw (← front-is, ← from-is, first, feed) refl,
      rw (front-is, k-is) (before_feed text),
    )

-- and one that has none
pub uncut : (text front from : List ℕ) (k : ℕ) → k ≡ position_or_len (λ b. eqb b 10) text
    → front ≡ take k text → from ≡ drop k text → length from ≡ 0 → (text ≡ front) × AreOfLine front
uncut text front [] k k-is front-is from-is none = (
  sym (take-append-drop k text) ∙ rw (← front-is, ← from-is) (append-nil front),
  rw (front-is, k-is) (before_feed text),
)
uncut text front (b ∷ bs) k k-is front-is from-is none = absurd (omega (arith, none))

-- a line that grew, or did not
pub grown_of_line : (line front new : List ℕ) (grows : Bool)
    → new ≡ (if grows then line ++ front else line) → AreOfLine line → AreOfLine front
    → AreOfLine new
grown_of_line line front new true is own more =
    subst AreOfLine (sym is) (both_of_line line front own more)
grown_of_line line front new false is own more = subst AreOfLine (sym is) own

-- the present line and the rest of it
pub line_ended : (line rest whole more : List ℕ) (n : ℕ) → whole ≡ line ++ rest → AreOfLine line
    → AreOfLine rest
    → kept_lines n (lines (line ++ (rest ++ 10 ∷ more))) ≡ kept_lines n (whole ∷ lines more)
line_ended line rest whole more n is own-line own-rest =
    ap (λ t. kept_lines n (lines t)) (sym (append_assoc line rest (10 ∷ more)))
    ∙ ap (kept_lines n) (line_over (line ++ rest) more (both_of_line line rest own-line own-rest))
    ∙ ap (λ l. kept_lines n (l ∷ lines more)) (sym is)

-- the present line, where the text ends
pub line_at_end : (line : List ℕ) (n : ℕ) → AreOfLine line
    → kept_lines n (lines (line ++ [])) ≡ kept_lines n (line ∷ [])
unfolding kept_lines lines words
line_at_end [] n own = refl
line_at_end (c ∷ cs) n own =
    ap (λ t. kept_lines n (lines t)) (append-nil (c ∷ cs)) ∙ ap (kept_lines n) (line_last c cs own)

-- a line of which nothing was fed
pub none_begun : (line : List ℕ) (empty : Bool) → empty ≡ eqb (length line) 0 → empty ≡ true
    → line ≡ []
none_begun [] empty is none = refl
none_begun (c ∷ cs) empty is none =
    let other : eqb (length (c ∷ cs)) 0 ≡ false = ne_eqb _ _ (λ e. omega (arith, e)) in
    absurd (false≢true (sym (is ∙ other) ∙ none))
