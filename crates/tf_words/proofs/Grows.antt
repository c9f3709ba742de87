-- A word with one byte more.
use Rattle.std.proofs.Common.{◌≡◌, ℕ, Bool, true, false, cond, eqb, ◌&&◌, List, [], ◌∷◌, ◌++◌, refl, ap, ◌∙◌, arith, inl, inr}
use Rattle.std.specs.List.{list_all}
use Rattle.std.specs.Char.{is_ascii_digit}
use Rattle.std.specs.Str.Parse.{digits_value}
use Rattle.std.proofs.lemmas.Bool.{cases_Bool}
use Rattle.std.proofs.lemmas.Int.Digits.{digits_value_push}
use Rattle.tf_words.specs.Digits.{cut, more_by}
use Rattle.tf_words.specs.SoFar.{next, with_byte, behind_sign, so_far}
use Rattle.tf_words.specs.declared.so_far.SoFar.{SoFar}
use Rattle.tf_words.specs.declared.so_far.SoFar.TheVariants.{Minus, Digits, Bad}
use Rattle.tf_words.proofs.DigitsRead.{digit_is}

and_true : (x : Bool) → (x && true) ≡ x
and_true true = refl
and_true false = refl

and_no : (x : Bool) → (x && false) ≡ false
and_no true = refl
and_no false = refl

and_regroup : (x y z : Bool) → (x && (y && z)) ≡ ((x && y) && z)
and_regroup true y z = refl
and_regroup false y z = refl

all_push : (ds : List ℕ) (b : ℕ)
    → list_all is_ascii_digit (ds ++ b ∷ []) ≡ (list_all is_ascii_digit ds && is_ascii_digit b)
all_push [] b = and_true (is_ascii_digit b)
all_push (d ∷ ds) b = ap (λ x. is_ascii_digit d && x) (all_push ds b)
    ∙ and_regroup (is_ascii_digit d) (list_all is_ascii_digit ds) (is_ascii_digit b)

-- the state of digits that are some
judged : Bool → Bool → ℕ → SoFar
judged negative all value = cond all (Digits negative (cut value)) Bad

cut_again : (value b : ℕ) → cut (more_by (cut value) b) ≡ cut (more_by value b)
cut_again value b = omega arith

grown : (negative all digit : Bool) (value b : ℕ) → is_ascii_digit b ≡ digit
    → next (judged negative all value) b ≡ judged negative (all && digit) (more_by value b)
unfolding judged
grown negative false digit value b e = refl
grown negative true false value b e = rw e refl
grown negative true true value b e = rw e (ap (Digits negative) (cut_again value b))

some_digits : (negative : Bool) (d : ℕ) (ds : List ℕ) (b : ℕ)
    → next (behind_sign negative (d ∷ ds)) b ≡ behind_sign negative (d ∷ (ds ++ b ∷ []))
unfolding judged
some_digits negative d ds b = elim (cases_Bool (is_ascii_digit b)) [
  | inl e ↦ grown negative (list_all is_ascii_digit (d ∷ ds)) true (digits_value 10 (d ∷ ds)) b e
      ∙ rw (all_push (d ∷ ds) b, e, digits_value_push 10 (d ∷ ds) b, (digit_is b e).2) refl
  | inr e ↦ grown negative (list_all is_ascii_digit (d ∷ ds)) false (digits_value 10 (d ∷ ds)) b e
      ∙ rw (all_push (d ∷ ds) b, e, and_no (list_all is_ascii_digit (d ∷ ds))) refl
]

one_digit : (negative : Bool) (b : ℕ) → with_byte negative 0 b ≡ behind_sign negative (b ∷ [])
one_digit negative b = elim (cases_Bool (is_ascii_digit b)) [
  | inl e ↦ let v = (digit_is b e).2 in rw (e, v) refl
  | inr e ↦ rw e refl
]

pub step : (word : List ℕ) (b : ℕ) → next (so_far word) b ≡ so_far (word ++ b ∷ [])
unfolding so_far
step [] b = ap (λ s. cond (eqb b 45) Minus s) (one_digit false b)
step (c ∷ []) b = elim (cases_Bool (eqb c 45)) [
  | inl e ↦ rw e (one_digit true b)
  | inr e ↦ rw e (some_digits false c [] b)
]
step (c ∷ d ∷ cs) b = elim (cases_Bool (eqb c 45)) [
  | inl e ↦ rw e (some_digits true d cs b)
  | inr e ↦ rw e (some_digits false c (d ∷ cs) b)
]
