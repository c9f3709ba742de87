-- Steps of a cost in their usual form.
use Rattle.std.proofs.Common.{◌≡◌, ℕ, ◌<◌, ◌≤◌, get_or, true, false, not, eqb, List, [], ◌∷◌, ◌++◌, length, Ok, to_z, w64, refl, sym, ap, ◌∙◌, arith, append_assoc}
use Rattle.std.specs.List.{list_all, All}
use Rattle.std.proofs.lemmas.Bool.{not-true, and_from, eqb-true}
use Rattle.std.proofs.lemmas.List.{append-nil}
use Rattle.std.proofs.lemmas.List.Folds.{list_all-append}
use Rattle.std.proofs.lemmas.List.Splits.{slice_split_at, slice_split_none}
use Rattle.std.proofs.lemmas.List.Sums.{AllPass-from_list_all}
use Rattle.tf_words.specs.WordParts.{is_comma, parts, later_parts}
use Rattle.tf_words.specs.FirstLine.{IsNumeralOf}
use Rattle.tf_words.proofs.NumeralOf.{Few}
use Rattle.tf_words.proofs.FirstLine.{numeral_parts}
use Rattle.tf_read.specs.CostField.{is_pair, step_in, is_step, step_at}
use Rattle.tf_read.specs.UsualSteps.{BeginsWithStep}
use Rattle.tf_read.proofs.UsualFields.{without_byte, divided_at, not_divided, natural_is, integer_is}

-- a word of one part
abbrev pub IsPart : List ℕ → Type 0
IsPart part = list_all (λ b. not (is_comma b)) part ≡ true

no_comma : (part : List ℕ) → IsPart part → All (λ b. is_comma b ≡ false) part
no_comma part h =
    λ k d lt. not-true _ (AllPass-from_list_all (λ b. not (is_comma b)) part h k d lt)

-- a part before this text is over
abbrev pub IsOver : List ℕ → Type 0
IsOver rest = (part : List ℕ) → IsPart part → parts (part ++ rest) ≡ part ∷ later_parts rest

-- it is at the end of a text
pub over_at_end : (rest : List ℕ) → length rest < 1 → IsOver rest
over_at_end [] none part h =
    ap parts (append-nil part) ∙ slice_split_none is_comma part (no_comma part h)
over_at_end (b ∷ bs) none part h = absurd (omega arith)

-- and at a comma
pub over_at_comma : (rest : List ℕ) → 1 ≤ length rest → get_or rest 0 0 ≡ 44 → IsOver rest
over_at_comma [] some comma part h = absurd (omega arith)
over_at_comma (b ∷ bs) some comma part h =
    let is : b ≡ 44 = comma in
    slice_split_at is_comma part b bs (no_comma part h) (ap is_comma is)

-- the part of a time and a value
abbrev pub step_of : List ℕ → List ℕ → List ℕ
step_of time value = time ++ 58 ∷ value

step_is_part : (time value : List ℕ) (a b : ℕ) → IsNumeralOf time a → IsNumeralOf value b
    → IsPart (step_of time value)
step_is_part time value a b one other =
    list_all-append (λ b. not (is_comma b)) time (58 ∷ value)
    ∙ and_from _ _ (without_byte 44 time refl (numeral_parts time one.numeral).1)
    (without_byte 44 value refl (numeral_parts value other.numeral).1)

step_form : (time value : List ℕ) (a b : ℕ) → IsNumeralOf time a → IsNumeralOf value b
    → is_step (step_of time value) ≡ true
step_form time value a b one other =
    ap is_pair (divided_at 58 time value
    (without_byte 58 time refl (numeral_parts time one.numeral).1))
    ∙ rw (not_divided 58 value (without_byte 58 value refl (numeral_parts value other.numeral).1))
    refl

step_read : (line : ℕ) (time value : List ℕ) (a b : ℕ) → IsNumeralOf time a → Few a
    → IsNumeralOf value b → Few b
    → step_at line (step_of time value) ≡ Ok (to_z w64 a, to_z w64 b)
unfolding step_at
step_read line time value a b one few other small =
    ap (step_in line) (divided_at 58 time value
    (without_byte 58 time refl (numeral_parts time one.numeral).1))
    ∙ rw (natural_is line time a one few) (rw (integer_is line value b other small) refl)

-- a text of such a step and the rest
pub step_first : (text from after more rest time value : List ℕ) (a b : ℕ)
    → text ≡ 44 ∷ from → from ≡ time ++ after → after ≡ 58 ∷ more → more ≡ value ++ rest
    → IsNumeralOf time a → Few a → IsNumeralOf value b → Few b
    → IsOver rest
    → BeginsWithStep text (to_z w64 a, to_z w64 b) rest
step_first text from after more rest time value a b e0 e1 e2 e3 one few other small over =
    let whole : from ≡ step_of time value ++ rest =
    e1 ∙ ap (λ bs. time ++ bs) (e2 ∙ ap (λ bs. 58 ∷ bs) e3)
    ∙ sym (append_assoc time (58 ∷ value) rest) in
    record {
      part = step_of time value;
      is = ap later_parts e0 ∙ ap parts whole
          ∙ over (step_of time value) (step_is_part time value a b one other);
      form = step_form time value a b one other;
      read = λ line. step_read line time value a b one few other small;
    }

-- a part of the right form before others
pub form_next : (text part others : List ℕ) → later_parts text ≡ part ∷ later_parts others
    → is_step part ≡ true
    → list_all is_step (later_parts text) ≡ list_all is_step (later_parts others)
form_next text part others is form = ap (list_all is_step) is ∙ rw form refl

-- no text has no part
pub nothing_left : (text : List ℕ) → eqb (length text) 0 ≡ true → later_parts text ≡ []
nothing_left [] none = refl
nothing_left (b ∷ bs) none = absurd (omega (arith, eqb-true _ _ none))
