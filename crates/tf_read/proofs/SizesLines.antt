-- The sizes of a flow shop, byte by byte.
use Rattle.std.proofs.Common.{◌≡◌, ℕ, ◌+◌, ◌-◌, ◌*◌, ◌<◌, ◌≤◌, ◌&&◌, Bool, true, false, eqb, ltb, min, pos, neg_ℤ, List, [], ◌∷◌, ◌++◌, length, Option, Some, None, refl, sym, ap, ◌∙◌, arith, inl, inr, append_assoc, length-append}
use Rattle.std.specs.List.{list_all}
use Rattle.std.specs.Char.{is_ascii_digit}
use Rattle.std.specs.Str.Parse.{digits_value}
use Rattle.std.proofs.lemmas.Bool.{cases_Bool, and_parts, lt-ltb, ltb-true, ltb-false, ne_eqb}
use Rattle.std.proofs.lemmas.List.{append-nil}
use Rattle.std.proofs.lemmas.List.Folds.{list_all-append}
use Rattle.std.proofs.lemmas.Int.Digits.{digits_value_push}
use Rattle.tf_words.specs.Words.{is_white, words}
use Rattle.tf_words.specs.Digits.{is_numeral, numeral}
use Rattle.tf_words.specs.Ranged.{judged}
use Rattle.tf_words.specs.Number.{number, limit, within_limit}
use Rattle.tf_words.proofs.DigitsRead.{digit_is}
use Rattle.tf_words.proofs.Limited.{in_limit, above_limit}
use Rattle.tf_read.specs.declared.sizes.SizesLine.{SizesLine}
use Rattle.tf_read.specs.declared.sizes.SizesLine.TheVariants.{Blank, Jobs, Between, Machines, Both, Other}
use Rattle.tf_read.specs.FlowShop.{size, sizes_in}
use Rattle.tf_read.specs.Sizes.{size_of, HasDigits, IsSize, SizesShown}
use Rattle.tf_read.proofs.PresentLine.{with_letter, with_gap, with_end, words_at_gap, words_in_word, grows}

-- the size of a word of digits
digits_only : (word : List ℕ) → 0 < length word → list_all is_ascii_digit word ≡ true
    → is_numeral word ≡ true
digits_only word some all = let long : ltb 0 (length word) ≡ true = lt-ltb _ _ some in
    rw (long, all) refl

no_sign : (c : ℕ) → is_ascii_digit c ≡ true → eqb c 45 ≡ false
no_sign c h = ne_eqb c 45 (λ e. absurd (omega (arith, (digit_is c h).0, e)))

size_is : (word : List ℕ) → 0 < length word → list_all is_ascii_digit word ≡ true
    → size (number word) ≡ size_of word
unfolding number numeral
size_is [] some all = absurd (omega (arith, some))
size_is (c ∷ cs) some all =
    let plain : eqb c 45 ≡ false = no_sign c (and_parts _ _ all).0 in
    let one : is_numeral (c ∷ cs) ≡ true = digits_only (c ∷ cs) some all in
    rw (plain, one) (judged_size (digits_value 10 (c ∷ cs)))
  where
    judged_size : (v : ℕ)
        → size (within_limit (judged (neg_ℤ (pos limit)) (pos limit) (pos v))) ≡ min v (limit + 1)
    judged_size v = elim (cases_Bool (ltb limit v)) [
      | inl e ↦ let past : limit < v = ltb-true _ _ e in
          rw (above_limit v past) (omega (arith, past))
      | inr e ↦ let within : v ≤ limit = ltb-false _ _ e in
          rw (in_limit v within) (omega (arith, within))
    ]

-- and with a digit more
pub size_with : (size : ℕ) (word : List ℕ) (b r : ℕ) → is_ascii_digit b ≡ true
    → r ≡ min (size * 10 + (b - 48)) (limit + 1) → HasDigits size word → IsSize r (word ++ b ∷ [])
size_with size word b r digit e h = (
  omega (arith, length-append word (b ∷ [])),
  (
    list_all-append is_ascii_digit word (b ∷ []) ∙ rw (h.0, digit) refl,
    omega (arith, e, h.1, digits_value_push 10 word b, (digit_is b digit).2),
  ),
)

pub no_digits : HasDigits 0 []
no_digits = (refl, refl)

-- a word that is no size
not_digits : (word : List ℕ) (b : ℕ) (rest : List ℕ) → is_ascii_digit b ≡ false
    → is_numeral (word ++ b ∷ [] ++ rest) ≡ false
not_digits word b rest other =
    let all : list_all is_ascii_digit (word ++ b ∷ [] ++ rest) ≡ false =
    ap (list_all is_ascii_digit) (append_assoc word (b ∷ []) rest)
    ∙ list_all-append is_ascii_digit word (b ∷ rest)
    ∙ rw other (and_no (list_all is_ascii_digit word)) in
    rw all (and_no (ltb 0 (length (word ++ b ∷ [] ++ rest))))
  where
    and_no : (x : Bool) → (x && false) ≡ false
    and_no true = refl
    and_no false = refl

no_first : (w : List ℕ) (ws : List (List ℕ)) → is_numeral w ≡ false → sizes_in (w ∷ ws) ≡ None
no_first w [] h = refl
no_first w (b ∷ []) h = rw h refl
no_first w (b ∷ c ∷ more) h = refl

no_second : (a w : List ℕ) (ws : List (List ℕ)) → is_numeral w ≡ false
    → sizes_in (a ∷ w ∷ ws) ≡ None
no_second a w [] h = elim (cases_Bool (is_numeral a)) [ inl e ↦ rw (e, h) refl | inr e ↦ rw e refl ]
no_second a w (c ∷ more) h = refl

-- both words
both : (jobs machines : ℕ) (a b : List ℕ) → IsSize jobs a → IsSize machines b
    → Some (jobs, machines) ≡ sizes_in (a ∷ b ∷ [])
both jobs machines a b x y =
    let one = digits_only a x.0 x.1.0 in
    let other = digits_only b y.0 y.1.0 in
    let first : jobs ≡ size (number a) = x.1.1 ∙ sym (size_is a x.0 x.1.0) in
    let second : machines ≡ size (number b) = y.1.1 ∙ sym (size_is b y.0 y.1.0) in
    rw (one, other, ← first, ← second) refl

pub goes_on : (bytes : List ℕ) (b : ℕ) → SizesShown bytes Other → SizesShown (bytes ++ b ∷ []) Other
goes_on bytes b h =
    λ more. ap (λ (bs : List ℕ). sizes_in (words bs)) (append_assoc bytes (b ∷ []) more)
    ∙ h (b ∷ more)

-- a white byte
pub gap_in_jobs : (bytes : List ℕ) (b jobs : ℕ) → is_white b ≡ true → SizesShown bytes (Jobs jobs)
    → SizesShown (bytes ++ b ∷ []) (Between jobs)
gap_in_jobs bytes b jobs white h = (h.0, with_end bytes [] h.0 b h.2.0 white h.1, h.2)

pub gap_in_machines : (bytes : List ℕ) (b jobs machines : ℕ) → is_white b ≡ true
    → SizesShown bytes (Machines jobs machines) → SizesShown (bytes ++ b ∷ []) (Both jobs machines)
gap_in_machines bytes b jobs machines white h =
    (h.0, h.1, with_end bytes (h.0 ∷ []) h.1 b h.4.0 white h.2, h.3, h.4)

pub gap_stays : (bytes : List ℕ) (b : ℕ) (line : SizesLine) → is_white b ≡ true
    → ((x : ℕ) → line ≡ Jobs x → ⊥) → ((x y : ℕ) → line ≡ Machines x y → ⊥) → SizesShown bytes line
    → SizesShown (bytes ++ b ∷ []) line
gap_stays bytes b Blank white no_jobs no_machines h = with_gap bytes [] b white h
gap_stays bytes b (Jobs jobs) white no_jobs no_machines h = absurd (no_jobs jobs refl)
gap_stays bytes b (Between jobs) white no_jobs no_machines h =
    (h.0, with_gap bytes (h.0 ∷ []) b white h.1, h.2)
gap_stays bytes b (Machines jobs machines) white no_jobs no_machines h =
    absurd (no_machines jobs machines refl)
gap_stays bytes b (Both jobs machines) white no_jobs no_machines h =
    (h.0, h.1, with_gap bytes (h.0 ∷ h.1 ∷ []) b white h.2, h.3, h.4)
gap_stays bytes b Other white no_jobs no_machines h = goes_on bytes b h

-- a digit
pub first_digit : (bytes : List ℕ) (b jobs : ℕ) → is_white b ≡ false → SizesShown bytes Blank
    → IsSize jobs (b ∷ []) → SizesShown (bytes ++ b ∷ []) (Jobs jobs)
first_digit bytes b jobs black h size = (b ∷ [], with_letter bytes [] [] b black h, size)

pub digit_in_jobs : (bytes : List ℕ) (b jobs next : ℕ) → is_white b ≡ false
    → ((word : List ℕ) → HasDigits jobs word → IsSize next (word ++ b ∷ []))
    → SizesShown bytes (Jobs jobs) → SizesShown (bytes ++ b ∷ []) (Jobs next)
digit_in_jobs bytes b jobs next black grows h =
    (h.0 ++ b ∷ [], with_letter bytes [] h.0 b black h.1, grows h.0 h.2.1)

pub second_digits : (bytes : List ℕ) (b jobs machines : ℕ) → is_white b ≡ false
    → SizesShown bytes (Between jobs) → IsSize machines (b ∷ [])
    → SizesShown (bytes ++ b ∷ []) (Machines jobs machines)
second_digits bytes b jobs machines black h size =
    (h.0, b ∷ [], with_letter bytes (h.0 ∷ []) [] b black h.1, h.2, size)

pub digit_in_machines : (bytes : List ℕ) (b jobs machines next : ℕ) → is_white b ≡ false
    → ((word : List ℕ) → HasDigits machines word → IsSize next (word ++ b ∷ []))
    → SizesShown bytes (Machines jobs machines) → SizesShown (bytes ++ b ∷ []) (Machines jobs next)
digit_in_machines bytes b jobs machines next black grows h =
    (h.0, h.1 ++ b ∷ [], with_letter bytes (h.0 ∷ []) h.1 b black h.2, h.3, grows h.1 h.4.1)

pub third_word : (bytes : List ℕ) (b jobs machines : ℕ) → is_white b ≡ false
    → SizesShown bytes (Both jobs machines) → SizesShown (bytes ++ b ∷ []) Other
third_word bytes b jobs machines black h = λ more. let g =
    grows bytes (h.0 ∷ h.1 ∷ []) [] b black h.2 more in ap sizes_in g.2

-- a byte that is neither
pub other_byte : (bytes : List ℕ) (b : ℕ) (line : SizesLine) → is_white b ≡ false
    → is_ascii_digit b ≡ false → SizesShown bytes line → SizesShown (bytes ++ b ∷ []) Other
other_byte bytes b Blank black other h = λ more. let g = grows bytes [] [] b black h more in
    ap sizes_in g.2 ∙ no_first ((b ∷ []) ++ g.0) g.1 (not_digits [] b g.0 other)
other_byte bytes b (Jobs jobs) black other h = λ more. let g =
    grows bytes [] h.0 b black h.1 more in ap sizes_in g.2
    ∙ no_first (h.0 ++ b ∷ [] ++ g.0) g.1 (not_digits h.0 b g.0 other)
other_byte bytes b (Between jobs) black other h = λ more. let g =
    grows bytes (h.0 ∷ []) [] b black h.1 more in ap sizes_in g.2
    ∙ no_second h.0 ((b ∷ []) ++ g.0) g.1 (not_digits [] b g.0 other)
other_byte bytes b (Machines jobs machines) black other h = λ more. let g =
    grows bytes (h.0 ∷ []) h.1 b black h.2 more in ap sizes_in g.2
    ∙ no_second h.0 (h.1 ++ b ∷ [] ++ g.0) g.1 (not_digits h.1 b g.0 other)
other_byte bytes b (Both jobs machines) black other h = third_word bytes b jobs machines black h
other_byte bytes b Other black other h = goes_on bytes b h

-- the end of the line
abbrev pub shown_sizes : SizesLine → Option (ℕ × ℕ)
shown_sizes Blank = None
shown_sizes (Jobs jobs) = None
shown_sizes (Between jobs) = None
shown_sizes (Machines jobs machines) = Some (jobs, machines)
shown_sizes (Both jobs machines) = Some (jobs, machines)
shown_sizes Other = None

pub none_shown : (line : SizesLine) → ((x y : ℕ) → line ≡ Machines x y → ⊥)
    → ((x y : ℕ) → line ≡ Both x y → ⊥) → shown_sizes line ≡ None
none_shown Blank no_machines no_both = refl
none_shown (Jobs jobs) no_machines no_both = refl
none_shown (Between jobs) no_machines no_both = refl
none_shown (Machines jobs machines) no_machines no_both = absurd (no_machines jobs machines refl)
none_shown (Both jobs machines) no_machines no_both = absurd (no_both jobs machines refl)
none_shown Other no_machines no_both = refl

pub sizes_are : (bytes : List ℕ) (line : SizesLine) → SizesShown bytes line
    → shown_sizes line ≡ sizes_in (words bytes)
sizes_are bytes Blank h = sym (ap sizes_in (words_at_gap bytes [] h))
sizes_are bytes (Jobs jobs) h = sym (ap sizes_in (words_in_word bytes [] h.0 h.2.0 h.1))
sizes_are bytes (Between jobs) h = sym (ap sizes_in (words_at_gap bytes (h.0 ∷ []) h.1))
sizes_are bytes (Machines jobs machines) h = both jobs machines h.0 h.1 h.3 h.4
    ∙ sym (ap sizes_in (words_in_word bytes (h.0 ∷ []) h.1 h.4.0 h.2))
sizes_are bytes (Both jobs machines) h = both jobs machines h.0 h.1 h.3 h.4
    ∙ sym (ap sizes_in (words_at_gap bytes (h.0 ∷ h.1 ∷ []) h.2))
sizes_are bytes Other h =
    sym (ap (λ (bs : List ℕ). sizes_in (words bs)) (sym (append-nil bytes)) ∙ h [])
