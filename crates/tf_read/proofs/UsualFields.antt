-- Fields in their usual form.
use Rattle.std.proofs.Common.{◌≡◌, ℕ, ◌+◌, ◌-◌, ◌≤◌, true, false, not, eqb, ltb, List, [], ◌∷◌, ◌++◌, length, take, drop, get_or, Some, None, Ok, is_some, to_z, of_z, w64, SFits, ℤ, pos, neg_ℤ, ◌-ℤ◌, refl, sym, ap, ◌∙◌, arith}
use Rattle.std.specs.List.{list_all, position_or_len}
use Rattle.std.specs.Char.{is_ascii_digit}
use Rattle.std.proofs.lemmas.Bool.{and_parts, and_from, not-true, eq-eqb, ne_eqb, lt-ltb, le-ltb, false≢true}
use Rattle.std.proofs.Math.Seq.{take-append_seam, drop-append-add}
use Rattle.std.proofs.lemmas.List.{length-append, take_all}
use Rattle.std.proofs.lemmas.List.Folds.{list_all-append}
use Rattle.std.proofs.lemmas.Int.{ints, to_z-of_z}
use Rattle.tf_words.specs.Digits.{is_numeral, numeral}
use Rattle.tf_words.specs.Words.{is_white}
use Rattle.tf_words.specs.Number.{number, limit, within_limit}
use Rattle.tf_words.specs.Ranged.{judged, placed}
use Rattle.tf_words.specs.declared.number.Number.TheVariants.{Value}
use Rattle.tf_words.specs.WordParts.{divided}
use Rattle.tf_words.specs.FirstLine.{IsNumeralOf, BeginsWhite, IsWordBefore}
use Rattle.tf_words.proofs.FirstLine.{digits_dark, numeral_parts, word_first, behind_blank}
use Rattle.tf_words.proofs.NumeralOf.{Few, as_pos, number_is}
use Rattle.tf_model.specs.declared.job.Times.{Times}
use Rattle.tf_model.specs.declared.job.Times.TheVariants.{One, Two}
use Rattle.tf_read.specs.Faults.{natural, integer}
use Rattle.tf_read.specs.JobLine.{SomeFields, times_in, times_at, field_in, field_at}

-- ---- a word in two

-- where a byte stands for the first time
at_byte : (byte : ℕ) (front back : List ℕ) → list_all (λ b. not (eqb b byte)) front ≡ true
    → position_or_len (λ b. eqb b byte) (front ++ byte ∷ back) ≡ length front
at_byte byte [] back h = let here : eqb byte byte ≡ true = eq-eqb byte byte refl in rw here refl
at_byte byte (c ∷ cs) back h =
    let both = and_parts _ _ h in
    let other : eqb c byte ≡ false = not-true _ both.0 in
    rw other (omega (arith, at_byte byte cs back both.1))

-- a byte that stands nowhere
nowhere : (byte : ℕ) (word : List ℕ) → list_all (λ b. not (eqb b byte)) word ≡ true
    → position_or_len (λ b. eqb b byte) word ≡ length word
nowhere byte [] h = refl
nowhere byte (c ∷ cs) h =
    let both = and_parts _ _ h in
    let other : eqb c byte ≡ false = not-true _ both.0 in
    rw other (omega (arith, nowhere byte cs both.1))

-- a word is divided at its first such byte
pub divided_at : (byte : ℕ) (front back : List ℕ) → list_all (λ b. not (eqb b byte)) front ≡ true
    → divided byte (front ++ byte ∷ back) ≡ Some (front, back)
divided_at byte front back h =
    let at = at_byte byte front back h in
    let within : ltb (length front) (length (front ++ byte ∷ back)) ≡ true =
    lt-ltb _ _ (omega (arith, length-append front (byte ∷ back))) in
    let first : take (length front) (front ++ byte ∷ back) ≡ front =
    take-append_seam front (byte ∷ back) in
    let second : drop (length front + 1) (front ++ byte ∷ back) ≡ back =
    drop-append-add front (byte ∷ back) 1 in
    rw at (rw (within, first, second) refl)

-- a word without such a byte is not divided
pub not_divided : (byte : ℕ) (word : List ℕ) → list_all (λ b. not (eqb b byte)) word ≡ true
    → divided byte word ≡ None
not_divided byte word h =
    let at = nowhere byte word h in
    let far : ltb (length word) (length word) ≡ false = le-ltb _ _ (omega arith) in
    rw at (rw far refl)

-- digits are no byte that is none
pub without_byte : (byte : ℕ) (digits : List ℕ) → is_ascii_digit byte ≡ false
    → list_all is_ascii_digit digits ≡ true → list_all (λ b. not (eqb b byte)) digits ≡ true
without_byte byte [] none h = refl
without_byte byte (d ∷ ds) none h =
    let both = and_parts _ _ h in
    let other : eqb d byte ≡ false =
    ne_eqb d byte (λ e. false≢true (sym none ∙ ap is_ascii_digit (sym e) ∙ both.0)) in
    rw other (without_byte byte ds none both.1)

-- ---- numbers

-- digits as a number that may not be negative
pub natural_is : (line : ℕ) (digits : List ℕ) (n : ℕ) → IsNumeralOf digits n → Few n
    → natural line (number digits) ≡ Ok (to_z w64 n)
natural_is line digits n is few =
    ap (natural line) (number_is digits n is (omega arith)) ∙ ap (λ z. Ok z) (as_pos n few)

-- digits as a number that may be negative
pub integer_is : (line : ℕ) (digits : List ℕ) (n : ℕ) → IsNumeralOf digits n → Few n
    → integer line (number digits) ≡ Ok (to_z w64 n)
integer_is line digits n is few =
    ap (integer line) (number_is digits n is (omega arith)) ∙ ap (λ z. Ok z) (as_pos n few)

-- a number below 0 within the limit
minus_in_limit : (n : ℕ) → n ≤ limit
    → within_limit (judged (neg_ℤ (pos limit)) (pos limit) (neg_ℤ (pos n))) ≡ Value (neg_ℤ (pos n))
minus_in_limit n le = grind (arith, ints)

-- digits behind a minus as a signed number
minus_numeral : (digits : List ℕ) (n : ℕ) → IsNumeralOf digits n
    → numeral (45 ∷ digits) ≡ Some (neg_ℤ (pos n))
unfolding numeral
minus_numeral digits n is = rw is.numeral (ap (λ m. Some (neg_ℤ (pos m))) is.value)

-- the size of a number below 0 keeps its value when its sign is turned
minus_kept : (n : ℕ) → Few n → neg_ℤ (pos n) ≡ to_z w64 (of_z w64 (pos 0 -ℤ to_z w64 n))
minus_kept n few =
    let below : neg_ℤ (pos n) ≡ pos 0 -ℤ pos n = omega (arith, ints) in
    let same : neg_ℤ (pos n) ≡ pos 0 -ℤ to_z w64 n =
    below ∙ ap (λ z. pos 0 -ℤ z) (as_pos n few) in
    let fits : SFits w64 (neg_ℤ (pos n)) = grind (arith, ints) in
    sym (to_z-of_z w64 (neg_ℤ (pos n)) fits) ∙ ap (λ z. to_z w64 (of_z w64 z)) same

-- digits behind a minus as a number that may be negative
pub minus_is : (line : ℕ) (digits : List ℕ) (n : ℕ) → IsNumeralOf digits n → Few n
    → integer line (number (45 ∷ digits)) ≡ Ok (to_z w64 (of_z w64 (pos 0 -ℤ to_z w64 n)))
unfolding number
minus_is line digits n is few =
    ap (λ o. integer line (within_limit (placed (neg_ℤ (pos limit)) (pos limit) o)))
    (minus_numeral digits n is)
    ∙ ap (integer line) (minus_in_limit n (omega arith))
    ∙ ap (λ z. Ok z) (minus_kept n few)

-- ---- times

-- digits as a time
pub one_time : (line : ℕ) (digits : List ℕ) (n : ℕ) → IsNumeralOf digits n → Few n
    → times_at line digits ≡ Ok (One (to_z w64 n))
unfolding times_at
one_time line digits n is few =
    let whole = not_divided 44 digits (without_byte 44 digits refl (numeral_parts digits is.numeral).1) in
    ap (times_in line digits) whole ∙ rw (natural_is line digits n is few) refl

-- digits, a comma and digits as two times
pub two_times : (line : ℕ) (first second : List ℕ) (m n : ℕ) → IsNumeralOf first m → Few m
    → IsNumeralOf second n → Few n
    → times_at line (first ++ 44 ∷ second) ≡ Ok (Two (to_z w64 m) (to_z w64 n))
unfolding times_at
two_times line first second m n is few other small =
    let cut = divided_at 44 first second (without_byte 44 first refl (numeral_parts first is.numeral).1) in
    let whole = not_divided 44 second (without_byte 44 second refl (numeral_parts second other.numeral).1) in
    ap (times_in line (first ++ 44 ∷ second)) cut
    ∙ rw whole
    (rw (natural_is line first m is few) (rw (natural_is line second n other small) refl))

-- two times have no white space
pub dark_times : (first second : List ℕ) → is_numeral first ≡ true → is_numeral second ≡ true
    → list_all (λ b. not (is_white b)) (first ++ 44 ∷ second) ≡ true
dark_times first second one other =
    list_all-append (λ b. not (is_white b)) first (44 ∷ second)
    ∙ and_from _ _ (digits_dark first (numeral_parts first one).1)
    (digits_dark second (numeral_parts second other).1)

-- ---- fields

-- a key of one byte and its value
keyed : (key : ℕ) (value : List ℕ) → eqb key 61 ≡ false
    → divided 61 (key ∷ 61 ∷ value) ≡ Some (key ∷ [], value)
keyed key value other = divided_at 61 (key ∷ []) value (rw other refl)

-- the field of the times
pub times_field : (line : ℕ) (f : SomeFields) (value : List ℕ) (times : Times)
    → is_some f.times ≡ false → times_at line value ≡ Ok times
    → field_at line f (112 ∷ 61 ∷ value) ≡ Ok (record f { times = Some times })
unfolding field_at
times_field line f value times none is =
    ap (field_in line f) (keyed 112 value refl) ∙ rw none (rw is refl)

-- the field of the weight
pub weight_field : (line : ℕ) (f : SomeFields) (value : List ℕ) (n : ℕ)
    → is_some f.weight ≡ false → IsNumeralOf value n → Few n
    → field_at line f (119 ∷ 61 ∷ value) ≡ Ok (record f { weight = Some (to_z w64 n) })
unfolding field_at
weight_field line f value n none is few =
    ap (field_in line f) (keyed 119 value refl) ∙ rw none (rw (natural_is line value n is few) refl)

-- the field of the due date
pub due_field : (line : ℕ) (f : SomeFields) (value : List ℕ) (due : ℤ)
    → is_some f.due ≡ false → integer line (number value) ≡ Ok due
    → field_at line f (100 ∷ 61 ∷ value) ≡ Ok (record f { due = Some due })
unfolding field_at
due_field line f value due none is =
    ap (field_in line f) (keyed 100 value refl) ∙ rw none (rw is refl)

-- the field of the release date
pub release_field : (line : ℕ) (f : SomeFields) (value : List ℕ) (n : ℕ)
    → is_some f.release ≡ false → IsNumeralOf value n → Few n
    → field_at line f (114 ∷ 61 ∷ value) ≡ Ok (record f { release = Some (to_z w64 n) })
unfolding field_at
release_field line f value n none is few =
    ap (field_in line f) (keyed 114 value refl) ∙ rw none (rw (natural_is line value n is few) refl)

-- ---- the front of a text

-- a blank, a key, a '=' and the rest
pub keyed_front : (text : List ℕ) → 3 ≤ length text → get_or text 0 0 ≡ 32 → get_or text 2 0 ≡ 61
    → text ≡ 32 ∷ get_or text 1 0 ∷ 61 ∷ take (length text - 3) (drop 3 text)
keyed_front [] some blank sign = absurd (omega arith)
keyed_front (a ∷ []) some blank sign = absurd (omega arith)
keyed_front (a ∷ b ∷ []) some blank sign = absurd (omega arith)
keyed_front (a ∷ b ∷ c ∷ more) some blank sign =
    let all : take (length (a ∷ b ∷ c ∷ more) - 3) more ≡ more = take_all _ more (omega arith) in
    let first : a ≡ 32 = blank in
    let third : c ≡ 61 = sign in
    rw (all, first, third) refl

-- a field behind a blank is the first word of the line
pub keyed_word : (text key_and_value rest value : List ℕ) (key : ℕ) → text ≡ 32 ∷ key_and_value
    → key_and_value ≡ key ∷ 61 ∷ (value ++ rest)
    → list_all (λ b. not (is_white b)) (key ∷ 61 ∷ value) ≡ true → BeginsWhite rest
    → IsWordBefore text (key ∷ 61 ∷ value) rest
keyed_word text from rest value key is front dark over =
    behind_blank text from (key ∷ 61 ∷ value) rest is
    (word_first from (key ∷ 61 ∷ value) rest front (omega arith) dark over)
