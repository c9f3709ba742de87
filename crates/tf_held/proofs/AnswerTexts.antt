-- The first answer or order of a text.
use Rattle.std.proofs.Common.{◌≡◌, ℕ, suc, ◌+◌, ◌-◌, ◌<◌, true, false, eqb, List, [], ◌∷◌, length, take, drop, min, refl, sym, ap, subst, ◌∙◌, arith, inl, inr}
use Rattle.std.specs.List.{onto_first, position_or_len}
use Rattle.std.proofs.lemmas.Bool.{cases_Bool, cases_lt}
use Rattle.std.proofs.lemmas.List.{drop-drop, drop_all, length-drop}
use Rattle.std.proofs.Math.Seq.{take-length}
use Rattle.tf_words.specs.Words.{lines, words}
use Rattle.tf_words.proofs.Lines.{line_none}
use Rattle.tf_held.specs.AnswerTexts.{IsNextOrder, after_end, after_kept, are_end, first_kept}

abbrev feed : List ℕ → ℕ
feed text = position_or_len (λ b. eqb b 10) text

one_later : (b : ℕ) (bs : List ℕ) → eqb b 10 ≡ false → feed (b ∷ bs) ≡ suc (feed bs)
one_later b bs e = rw e (omega arith)

one_more : (b : ℕ) (bs : List ℕ) → eqb b 10 ≡ false → lines (b ∷ bs) ≡ onto_first b (lines bs)
unfolding lines
one_more b bs e = rw e refl

-- the first line of a text, and the others
first_line : (text : List ℕ) → 0 < length text
    → lines text ≡ take (feed text) text ∷ lines (drop (suc (feed text)) text)
unfolding lines
first_line [] some = absurd (omega (arith, some))
first_line (b ∷ []) some = elim (cases_Bool (eqb b 10)) [
  | inl e ↦ rw e refl
  | inr e ↦ rw e refl
]
first_line (b ∷ c ∷ cs) some = elim (cases_Bool (eqb b 10)) [
  | inl e ↦ rw e refl
  | inr e ↦
      let whole : lines (b ∷ c ∷ cs)
      ≡ (b ∷ take (feed (c ∷ cs)) (c ∷ cs)) ∷ lines (drop (suc (feed (c ∷ cs))) (c ∷ cs)) =
      one_more b (c ∷ cs) e ∙ ap (onto_first b) (first_line (c ∷ cs) (omega arith)) in
      subst (λ (n : ℕ). lines (b ∷ c ∷ cs) ≡ take n (b ∷ c ∷ cs) ∷ lines (drop (suc n) (b ∷ c ∷ cs)))
      (sym (one_later b (c ∷ cs) e)) whole
]

-- where the next line begins
next_is : (text : List ℕ) (len k next : ℕ) → len < length text → next ≡ min (len + k + 1) (length text)
    → drop next text ≡ drop (suc k) (drop len text)
next_is text len k next in' is = elim (cases_lt (len + k) (length text)) [
  | inl lt ↦
      let at : next ≡ len + suc k = omega (arith, lt, is) in
      ap (λ n. drop n text) at ∙ sym (drop-drop (suc k) len text)
  | inr ge ↦
      drop_all next text (omega (arith, ge, is))
      ∙ sym (drop-drop (suc k) len text ∙ drop_all (len + suc k) text (omega (arith, ge)))
]

-- a line of what is left, and what is left behind it
pub line_at : (text : List ℕ) (len n k m next : ℕ) → len < length text → n ≡ length text - len
    → k ≡ feed (take n (drop len text)) → m ≡ k → next ≡ min (len + k + 1) (length text)
    → lines (drop len text) ≡ take m (drop len text) ∷ lines (drop next text)
line_at text len n k m next in' whole at here is =
    let some : 0 < length (drop len text) = omega (arith, in', length-drop len text) in
    let all : take n (drop len text) ≡ drop len text =
    ap (λ i. take i (drop len text)) (whole ∙ sym (length-drop len text))
    ∙ take-length (drop len text) in
    let first : k ≡ feed (drop len text) = at ∙ ap feed all in
    subst (λ (i : ℕ). lines (drop len text) ≡ take i (drop len text) ∷ lines (drop (suc i) (drop len text)))
    (sym first) (first_line (drop len text) some)
    ∙ rw (here, next_is text len k next in' is) refl

-- the answer is over with a line, or it goes on
pub over : (line : List ℕ) (before after : List (List ℕ)) → before ≡ line ∷ after
    → are_end (words line) ≡ true → after_end before ≡ after
over line before after is end = ap after_end is ∙ rw end refl

pub goes_on : (line : List ℕ) (before after : List (List ℕ)) → before ≡ line ∷ after
    → are_end (words line) ≡ false → after_end before ≡ after_end after
goes_on line before after is more = ap after_end is ∙ rw more refl

-- nothing is left
pub none_left : (text : List ℕ) → length text ≡ 0 → lines text ≡ after_end (lines text)
none_left text none = line_none text none ∙ sym (ap after_end (line_none text none))

-- no line is left that may be an order
pub no_order : (text rest : List ℕ) → first_kept (lines text) ≡ first_kept (lines rest)
    → after_kept (lines text) ≡ after_kept (lines rest) → length rest ≡ 0
    → IsNextOrder text rest rest
no_order text [] first after none =
    let over : lines [] ≡ [] = line_none [] refl in
    record {
      first = sym (first ∙ ap first_kept over);
      after = over ∙ sym (after ∙ ap after_kept over);
    }
no_order text (b ∷ bs) first after none = absurd (omega (arith, none))
