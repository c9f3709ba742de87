-- The heading of a flow shop, byte by byte.
use Rattle.std.proofs.Common.{◌≡◌, ℕ, ◌<◌, ◌≤◌, ◌≢◌, ◌&&◌, Bool, true, false, eqb, ltb, List, [], ◌∷◌, ◌++◌, length, get_or, take, codes, refl, sym, ap, subst, ◌∙◌, arith, inl, inr, append_assoc, length-append}
use Rattle.std.specs.Str.{bytes_eq}
use Rattle.std.specs.Cmp.Lexicographic.{same_text}
use Rattle.std.proofs.lemmas.Bool.{cases_Bool, cases_lt, eqb-true, eqb-false}
use Rattle.std.proofs.lemmas.Slice.Eq.{bytes_eq-Decides}
use Rattle.std.proofs.lemmas.List.{append-nil, take_all, length-take-le}
use Rattle.std.proofs.Math.Seq.{get_or-append_seam}
use Rattle.tf_words.specs.Words.{is_white, words}
use Rattle.tf_read.specs.declared.heading.HeadingWord.{HeadingWord}
use Rattle.tf_read.specs.declared.heading.HeadingWord.TheVariants.{Instance, Name}
use Rattle.tf_read.specs.declared.heading.HeadingLine.TheVariants.{Spelled, Whole, Other}
use Rattle.tf_read.specs.FlowShop.{is_name_line}
use Rattle.tf_read.specs.PresentLine.{IsInLine}
use Rattle.tf_read.specs.Heading.{spelling, words_before, HeadingShown}
use Rattle.tf_read.proofs.PresentLine.{with_gap, with_end, words_at_gap, words_in_word, grows}

-- a word that is not the heading's
differs : (s : List ℕ) (k b : ℕ) (rest : List ℕ) → (k < length s → get_or s k 0 ≡ b → ⊥)
    → k ≤ length s → bytes_eq (take k s ++ b ∷ [] ++ rest) s ≡ false
differs s k b rest other le = elim (cases_Bool (bytes_eq (take k s ++ b ∷ [] ++ rest) s)) [
  | inr e ↦ e
  | inl e ↦
      let same : take k s ++ b ∷ [] ++ rest ≡ s = same_text _ _ (sym e) in
      let front : length (take k s) ≡ k = length-take-le k s le in
      let long : k < length s =
      omega (
        arith,
        front,
        ap length same,
        length-append (take k s ++ b ∷ []) rest,
        length-append (take k s) (b ∷ []),
      ) in
      let at : get_or s k 0 ≡ b =
      ap (λ (xs : List ℕ). get_or xs k 0) (sym same ∙ append_assoc (take k s) (b ∷ []) rest)
      ∙ ap (λ (n : ℕ). get_or (take k s ++ (b ∷ rest)) n 0) (sym front)
      ∙ get_or-append_seam (take k s) b rest 0 in
      absurd (other long at)
]

too_short : (s : List ℕ) (k : ℕ) → k < length s → bytes_eq (take k s) s ≡ false
too_short s k lt = elim (cases_Bool (bytes_eq (take k s) s)) [
  | inr e ↦ e
  | inl e ↦ let same : take k s ≡ s = same_text _ _ (sym e) in
      absurd (omega (arith, lt, length-take-le k s (omega arith), ap length same))
]

other_word : (name : List ℕ) (word : HeadingWord) (w : List ℕ) (ws : List (List ℕ))
    → bytes_eq w (spelling word name) ≡ false
    → is_name_line name (words_before word ++ w ∷ ws) ≡ false
other_word name Instance w ws h = rw h refl
other_word name Name w ws h = rw h refl

-- a byte that the word does not have there
pub other_letter : (name bytes wanted : List ℕ) (word : HeadingWord) (matched b : ℕ)
    → wanted ≡ spelling word name → is_white b ≡ false
    → (matched < length wanted → get_or wanted matched 0 ≡ b → ⊥)
    → HeadingShown name bytes (Spelled word matched) → HeadingShown name (bytes ++ b ∷ []) Other
other_letter name bytes wanted word matched b is black other h = λ more.
    let g = grows bytes (words_before word) (take matched (spelling word name)) b black h.1 more in
    let no' = subst (λ (s : List ℕ). matched < length s → get_or s matched 0 ≡ b → ⊥) is other in
    ap (is_name_line name) g.2
    ∙ other_word name word (take matched (spelling word name) ++ b ∷ [] ++ g.0) g.1
    (differs (spelling word name) matched b g.0 no' h.0)

-- a white byte where the word has not begun, has not ended, or is whole
pub not_begun : (name bytes : List ℕ) (word : HeadingWord) (matched b : ℕ) → matched ≡ 0
    → is_white b ≡ true → HeadingShown name bytes (Spelled word matched)
    → HeadingShown name (bytes ++ b ∷ []) (Spelled word 0)
not_begun name bytes word matched b none white h = (
  omega arith,
  with_gap bytes (words_before word) b white
      (subst (λ (k : ℕ). IsInLine bytes (words_before word) (take k (spelling word name))) none
      h.1),
)

begun : (s : List ℕ) (k : ℕ) → 0 < k → k ≤ length s → 0 < length (take k s)
begun s k some le = omega (arith, some, length-take-le k s le)

pub not_ended : (name bytes : List ℕ) (word : HeadingWord) (matched b : ℕ) → 0 < matched
    → matched < length (spelling word name) → is_white b ≡ true
    → HeadingShown name bytes (Spelled word matched) → HeadingShown name (bytes ++ b ∷ []) Other
not_ended name bytes word matched b some lt white h = λ more.
    let at = with_end bytes (words_before word) (take matched (spelling word name)) b
    (begun (spelling word name) matched some h.0) white h.1 in
    ap (is_name_line name)
    (at.goes_on more
    ∙ append_assoc (words_before word) (take matched (spelling word name) ∷ []) (words more))
    ∙ other_word name word (take matched (spelling word name)) (words more)
    (too_short (spelling word name) matched lt)

pub whole_word : (name bytes : List ℕ) (word : HeadingWord) (matched b : ℕ) → 0 < matched
    → length (spelling word name) ≤ matched → is_white b ≡ true
    → HeadingShown name bytes (Spelled word matched)
    → IsInLine (bytes ++ b ∷ []) (words_before word ++ spelling word name ∷ []) []
whole_word name bytes word matched b some all white h =
    subst (λ (w : List ℕ). IsInLine (bytes ++ b ∷ []) (words_before word ++ w ∷ []) [])
    (take_all matched (spelling word name) all)
    (with_end bytes (words_before word) (take matched (spelling word name)) b
    (begun (spelling word name) matched some h.0) white h.1)

-- a word behind the whole heading
pub third_word : (name bytes : List ℕ) (b : ℕ) → is_white b ≡ false → HeadingShown name bytes Whole
    → HeadingShown name (bytes ++ b ∷ []) Other
third_word name bytes b black at = λ more. let g =
    grows bytes (codes "instance" ∷ name ∷ []) [] b black at more in ap (is_name_line name) g.2
    ∙ longer name (bytes_eq name name) ((b ∷ []) ++ g.0) g.1
  where
    longer : (name : List ℕ) (same : Bool) (w : List ℕ) (ws : List (List ℕ))
        → (same && false) ≡ false
    longer name true w ws = refl
    longer name false w ws = refl

-- the end of the line
itself : (name : List ℕ) → is_name_line name (codes "instance" ∷ name ∷ []) ≡ true
itself name = let same : bytes_eq name name ≡ true = (bytes_eq-Decides name name).1 refl in
    rw same refl

pub whole_is : (name bytes : List ℕ) → HeadingShown name bytes Whole
    → true ≡ is_name_line name (words bytes)
whole_is name bytes at =
    sym (ap (is_name_line name) (words_at_gap bytes (codes "instance" ∷ name ∷ []) at)
    ∙ itself name)

name_at : (name w : List ℕ) (same : Bool) → bytes_eq w name ≡ same
    → is_name_line name (codes "instance" ∷ w ∷ []) ≡ same
name_at name w true e = rw e refl
name_at name w false e = rw e refl

pub name_is : (name bytes : List ℕ) (matched : ℕ) → 0 < matched
    → HeadingShown name bytes (Spelled Name matched)
    → eqb matched (length name) ≡ is_name_line name (words bytes)
name_is name bytes matched some h =
    let all : words bytes ≡ codes "instance" ∷ take matched name ∷ [] =
    words_in_word bytes (codes "instance" ∷ []) (take matched name)
    (begun name matched some h.0) h.1 in
    elim (cases_Bool (eqb matched (length name))) [
      | inl e ↦
          let len : matched ≡ length name = eqb-true matched (length name) e in
          let same : bytes_eq (take matched name) name ≡ true =
          (bytes_eq-Decides (take matched name) name).1 (take_all matched name (omega arith)) in
          rw e (sym (ap (is_name_line name) all ∙ name_at name (take matched name) true same))
      | inr e ↦
          let other : matched ≢ length name = eqb-false matched (length name) e in
          rw e (sym (ap (is_name_line name) all
          ∙ name_at name (take matched name) false
          (too_short name matched (omega (arith, other, h.0)))))
    ]

pub no_name : (name bytes : List ℕ) (matched : ℕ) → matched ≤ 0
    → HeadingShown name bytes (Spelled Name matched)
    → ltb 0 matched ≡ is_name_line name (words bytes)
no_name name bytes matched none h =
    let zero' : matched ≡ 0 = omega arith in
    let at : IsInLine bytes (codes "instance" ∷ []) [] =
    subst (λ (k : ℕ). IsInLine bytes (codes "instance" ∷ []) (take k name)) zero' h.1 in
    rw zero' (sym (ap (is_name_line name) (words_at_gap bytes (codes "instance" ∷ []) at)))

one_word : (name w : List ℕ) (same : Bool) → bytes_eq w (codes "instance") ≡ same
    → is_name_line name (w ∷ []) ≡ false
one_word name w true e = rw e refl
one_word name w false e = rw e refl

pub no_second : (name bytes : List ℕ) (matched : ℕ)
    → HeadingShown name bytes (Spelled Instance matched) → false ≡ is_name_line name (words bytes)
no_second name bytes matched h = elim (cases_lt 0 matched) [
  | inl some ↦
      sym (ap (is_name_line name)
      (words_in_word bytes [] (take matched (codes "instance"))
      (begun (codes "instance") matched some h.0) h.1)
      ∙ one_word name (take matched (codes "instance")) _ refl)
  | inr none ↦
      let zero' : matched ≡ 0 = omega arith in
      sym (ap (is_name_line name)
      (words_at_gap bytes []
      (subst (λ (k : ℕ). IsInLine bytes [] (take k (codes "instance"))) zero' h.1)))
]

pub other_is : (name bytes : List ℕ) → HeadingShown name bytes Other
    → false ≡ is_name_line name (words bytes)
other_is name bytes h =
    sym (ap (λ (bs : List ℕ). is_name_line name (words bs)) (sym (append-nil bytes)) ∙ h [])
