-- Lines of a text, and texts that are written part by part.
use Rattle.std.proofs.Common.{◌≡◌, ℕ, ◌+◌, ◌<◌, true, false, eqb, ltb, List, [], ◌∷◌, ◌++◌, length, take, drop, Some, None, refl, sym, ap, ◌∙◌, arith, append_assoc, append-nil}
use Rattle.std.specs.List.{flat_map, join_with_byte, position}
use Rattle.std.proofs.lemmas.Bool.{lt-ltb, le-ltb}
use Rattle.std.proofs.lemmas.List.{drop-drop}
use Rattle.tf_words.specs.Words.{lines}
use Rattle.tf_words.proofs.Lines.{line_last, line_none, line_then}
use Rattle.tf_export.specs.Lines.{first_of}
use Rattle.tf_export.specs.Faults.{line_end, behind_line}

-- the last line
pub last_line : (text : List ℕ) → 0 < length text → line_end text ≡ length text
    → lines text ≡ text ∷ lines []
unfolding lines
last_line text some end =
    let far : ltb (line_end text) (length text) ≡ false =
    le-ltb (line_end text) (length text) (omega (arith, end)) in
    let none : position (λ b. eqb b 10) text ≡ None = rw far refl in
    line_last text (λ e. omega (arith, e, some)) none

-- a line before others
pub line_before : (text line from rest : List ℕ) (k : ℕ) → line_end text ≡ k → k < length text
    → line ≡ take k text → from ≡ drop k text → rest ≡ drop 1 from → lines text ≡ line ∷ lines rest
line_before text line from rest k end within line-is from-is rest-is =
    let near : ltb (line_end text) (length text) ≡ true =
    lt-ltb (line_end text) (length text) (omega (arith, end, within)) in
    let place : position (λ b. eqb b 10) text ≡ Some k = rw (near, end) refl in
    line_then text line from rest k place line-is from-is rest-is

-- a text without a line
pub no_first : (text : List ℕ) → length text ≡ 0 → text ≡ first_of (lines text)
no_first [] is = sym (ap first_of (line_none [] is))
no_first (byte ∷ bytes) is = absurd (omega (arith, is))

pub rest_behind : (text from rest : List ℕ) (k : ℕ) → line_end text ≡ k → from ≡ drop k text
    → rest ≡ drop 1 from → rest ≡ behind_line text
rest_behind text from rest k end from-is rest-is = rest-is
    ∙ ap (drop 1) from-is
    ∙ drop-drop 1 k text
    ∙ ap (λ (n : ℕ). drop (n + 1) text) (sym end)

-- of a text, a part is written, and more is left
pub more_left : (t0 t1 left part more all : List ℕ) → left ≡ part ++ more → t1 ≡ t0 ++ part
    → t0 ++ left ≡ all → t1 ++ more ≡ all
more_left t0 t1 left part more all is written whole =
    ap (λ text. text ++ more) written
    ∙ append_assoc t0 part more
    ∙ ap (λ text. t0 ++ text) (sym is)
    ∙ whole

pub none_left : (t0 left all : List ℕ) → left ≡ [] → t0 ++ left ≡ all → t0 ≡ all
none_left t0 left all is whole =
    sym (append-nil t0) ∙ ap (λ text. t0 ++ text) (sym is) ∙ whole

-- xs is written, and then ys
pub then : (before between after xs ys : List ℕ) → between ≡ before ++ xs → after ≡ between ++ ys
    → after ≡ before ++ (xs ++ ys)
then before between after xs ys first next = next ∙ ap (λ text. text ++ ys) first
    ∙ append_assoc before xs ys

-- what lines give, by the first one
pub lines_give : {X : Type 0} (f : List ℕ → List X) (text line rest : List ℕ)
    → lines text ≡ line ∷ lines rest
    → flat_map f (lines text) ≡ f line ++ flat_map f (lines rest)
lines_give f text line rest is = ap (flat_map f) is

-- a word, and each of the others behind a byte
pub joined_by : (c : ℕ) (first : List ℕ) (others : List (List ℕ))
    → join_with_byte c (first ∷ others) ≡ first ++ flat_map (λ word. c ∷ word) others
joined_by c first [] = sym (append-nil first)
joined_by c first (word ∷ others) = ap (λ rest. first ++ c ∷ rest) (joined_by c word others)
