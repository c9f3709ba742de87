-- A text without its routes has the words of the text, each without its route.
use Rattle.std.proofs.Common.{◌≡◌, ◌⊎◌, ℕ, ◌+◌, Bool, true, false, not, cond, eqb, ltb, List, [], ◌∷◌, ◌++◌, length, map, get_or, filter, refl, sym, ap, subst, ◌∙◌, arith, inl, inr}
use Rattle.std.specs.List.{slice_split, onto_first, before_first}
use Rattle.std.proofs.lemmas.Bool.{cases_Bool, eqb-true, not-true, and_parts, lt-ltb}
use Rattle.std.proofs.lemmas.List.Splits.{slice_split-cons_yes, slice_split-cons_no}
use Rattle.tf_words.specs.Words.{Line, is_white, is_kept, words, lines, by_words, kept_from, kept_lines}
use Rattle.tf_words.proofs.Stream.{IsWordBytes}
use Rattle.tf_read.proofs.Firsts.{before_no}
use Rattle.tf_routes.specs.declared.unrouted.Place.{Place}
use Rattle.tf_routes.specs.declared.unrouted.Place.TheVariants.{Gap, Key, Other, Times, Route}
use Rattle.tf_routes.specs.Unrouted.{is_of_route, place_after, unrouted_after}
use Rattle.tf_routes.specs.RoutedTable.{unrouted_word, unrouted_line}

-- ---- a word

dark : (b : ℕ) → not (is_white b) ≡ true → is_white b ≡ false
dark b h = not-true (is_white b) h

-- of a word that does not begin with `p=` all bytes are kept
in_other : (bs : List ℕ) → IsWordBytes bs → unrouted_after Other bs ≡ bs
unfolding unrouted_after
in_other [] h = refl
in_other (b ∷ bs) h = let both = and_parts _ _ h in
    rw (dark b both.0) (ap (λ cs. b ∷ cs) (in_other bs both.1))

-- from the first '@' on none is
in_route : (bs : List ℕ) → IsWordBytes bs → unrouted_after Route bs ≡ []
unfolding unrouted_after
in_route [] h = refl
in_route (b ∷ bs) h = let both = and_parts _ _ h in rw (dark b both.0) (in_route bs both.1)

abbrev is_at : ℕ → Bool
is_at b = eqb b 64

abbrev before_at : List ℕ → List ℕ
before_at bs = before_first is_at bs

-- and before it all
in_times : (bs : List ℕ) → IsWordBytes bs → unrouted_after Times bs ≡ before_at bs
unfolding unrouted_after
in_times [] h = refl
in_times (b ∷ bs) h = let both = and_parts _ _ h in elim (cases_Bool (eqb b 64)) [
  | inl e ↦ rw (dark b both.0, e) (in_route bs both.1)
  | inr e ↦
      let step : unrouted_after Times (b ∷ bs) ≡ b ∷ unrouted_after Times bs =
      rw (dark b both.0, e) refl in
      step ∙ ap (λ cs. b ∷ cs) (in_times bs both.1) ∙ sym (before_no is_at b bs (b ∷ bs) refl e)
]

-- a word that begins with `p=`
pub word_key : (b c : ℕ) (cs : List ℕ) → eqb b 112 ≡ true → eqb c 61 ≡ true
    → unrouted_word (b ∷ c ∷ cs) ≡ b ∷ c ∷ before_at cs
word_key b c cs e d =
    let whole : unrouted_word (b ∷ c ∷ cs) ≡ before_at (b ∷ c ∷ cs) = rw (e, d) refl in
    let first : eqb b 64 ≡ false =
    subst (λ (n : ℕ). eqb n 64 ≡ false) (sym (eqb-true b 112 e)) refl in
    let second : eqb c 64 ≡ false =
    subst (λ (n : ℕ). eqb n 64 ≡ false) (sym (eqb-true c 61 d)) refl in
    whole ∙ before_no is_at b (c ∷ cs) (b ∷ c ∷ cs) refl first
    ∙ ap (λ bs. b ∷ bs) (before_no is_at c cs (c ∷ cs) refl second)

-- a word after its `p`
in_key : (c : ℕ) (cs : List ℕ) → IsWordBytes (c ∷ cs)
    → unrouted_after Key (c ∷ cs) ≡ cond (eqb c 61) (c ∷ before_at cs) (c ∷ cs)
unfolding unrouted_after
in_key c cs h = let both = and_parts _ _ h in elim (cases_Bool (eqb c 61)) [
  | inl e ↦ rw (dark c both.0, e) (ap (λ bs. c ∷ bs) (in_times cs both.1))
  | inr e ↦ rw (dark c both.0, e) (ap (λ bs. c ∷ bs) (in_other cs both.1))
]

-- a word
in_word : (word : List ℕ) → IsWordBytes word → unrouted_after Gap word ≡ unrouted_word word
unfolding unrouted_after
in_word [] h = refl
in_word (b ∷ []) h = let both = and_parts _ _ h in elim (cases_Bool (eqb b 112)) [
  | inl e ↦ rw (dark b both.0, e) refl
  | inr e ↦ rw (dark b both.0, e) refl
]
in_word (b ∷ c ∷ cs) h = let both = and_parts _ _ h in elim (cases_Bool (eqb b 112)) [
  | inr e ↦ rw (dark b both.0, e) (ap (λ bs. b ∷ bs) (in_other (c ∷ cs) both.1))
  | inl e ↦ elim (cases_Bool (eqb c 61)) [
    | inr d ↦
        let key : unrouted_after Key (c ∷ cs) ≡ c ∷ cs = in_key c cs both.1 ∙ rw d refl in
        let step : unrouted_after Gap (b ∷ c ∷ cs) ≡ b ∷ unrouted_after Key (c ∷ cs) =
        rw (dark b both.0, e) refl in
        let whole : unrouted_word (b ∷ c ∷ cs) ≡ b ∷ c ∷ cs = rw (e, d) refl in
        step ∙ ap (λ bs. b ∷ bs) key ∙ sym whole
    | inl d ↦
        let key : unrouted_after Key (c ∷ cs) ≡ c ∷ before_at cs = in_key c cs both.1 ∙ rw d refl in
        let step : unrouted_after Gap (b ∷ c ∷ cs) ≡ b ∷ unrouted_after Key (c ∷ cs) =
        rw (dark b both.0, e) refl in
        step ∙ ap (λ bs. b ∷ bs) key ∙ sym (word_key b c cs e d)
  ]
]

-- ---- parts between white space

-- the first part goes on in a word, the others begin at a gap
abbrev cut_parts : Place → List (List ℕ) → List (List ℕ)
cut_parts place [] = []
cut_parts place (part ∷ parts) = unrouted_after place part ∷ map (unrouted_after Gap) parts

cut_gap : (parts : List (List ℕ)) → cut_parts Gap parts ≡ map (unrouted_after Gap) parts
cut_gap [] = refl
cut_gap (part ∷ parts) = refl

-- one byte more of the first part
cut_onto : (place next : Place) (b : ℕ) (parts : List (List ℕ)) → next ≡ place_after place b
    → is_of_route next ≡ false
    → onto_first b (cut_parts next parts) ≡ cut_parts place (onto_first b parts)
unfolding unrouted_after
cut_onto place next b [] is kept =
    let f : is_of_route (place_after place b) ≡ false = ap is_of_route (sym is) ∙ kept in rw f refl
cut_onto place next b (part ∷ parts) is kept =
    let f : is_of_route (place_after place b) ≡ false = ap is_of_route (sym is) ∙ kept in
    rw f (ap (λ p. (b ∷ unrouted_after p part) ∷ map (unrouted_after Gap) parts) is)

cut_past : (place next : Place) (b : ℕ) (part : List ℕ) (parts : List (List ℕ))
    → next ≡ place_after place b → is_of_route next ≡ true
    → cut_parts next (part ∷ parts) ≡ cut_parts place (onto_first b (part ∷ parts))
unfolding unrouted_after
cut_past place next b part parts is routed =
    let f : is_of_route (place_after place b) ≡ true = ap is_of_route (sym is) ∙ routed in
    rw f (ap (λ p. unrouted_after p part ∷ map (unrouted_after Gap) parts) is)

-- a text is never split into no part
split_some : (p : ℕ → Bool) (bs : List ℕ)
    → (part : List ℕ) × (parts : List (List ℕ)) × (slice_split p bs ≡ part ∷ parts)
split_some p [] = ([], [], refl)
split_some p (b ∷ bs) = elim (cases_Bool (p b)) [
  | inl e ↦ ([], slice_split p bs, slice_split-cons_yes p b bs e)
  | inr e ↦
      let more = split_some p bs in
      (b ∷ more.0, more.1, slice_split-cons_no p b bs e ∙ ap (onto_first b) more.2)
]

-- white space of some kind splits a text without its routes into the parts without theirs
module _ (p : ℕ → Bool) (white : (b : ℕ) → p b ≡ true → is_white b ≡ true) where
  split_cut : (place : Place) (bs : List ℕ)
      → slice_split p (unrouted_after place bs) ≡ cut_parts place (slice_split p bs)
  unfolding unrouted_after
  split_cut place [] = refl
  split_cut place (b ∷ bs) = elim (cases_Bool (p b)) [
    | inl e ↦
        rw (white b e)
        (slice_split-cons_yes p b (unrouted_after Gap bs) e
        ∙ ap (λ ps. [] ∷ ps) (split_cut Gap bs ∙ cut_gap (slice_split p bs))
        ∙ sym (ap (cut_parts place) (slice_split-cons_yes p b bs e)))
    | inr e ↦ elim (cases_Bool (is_of_route (place_after place b))) [
      | inl f ↦
          let some = split_some p bs in
          rw f
          (split_cut (place_after place b) bs
          ∙ ap (cut_parts (place_after place b)) some.2
          ∙ cut_past place (place_after place b) b some.0 some.1 refl f
          ∙ sym (ap (λ ps. cut_parts place (onto_first b ps)) some.2)
          ∙ sym (ap (cut_parts place) (slice_split-cons_no p b bs e)))
      | inr f ↦
          rw f
          (slice_split-cons_no p b (unrouted_after (place_after place b) bs) e
          ∙ ap (onto_first b) (split_cut (place_after place b) bs)
          ∙ cut_onto place (place_after place b) b (slice_split p bs) refl f
          ∙ sym (ap (cut_parts place) (slice_split-cons_no p b bs e)))
    ]
  ]

  split_all : (bs : List ℕ)
      → slice_split p (unrouted_after Gap bs) ≡ map (unrouted_after Gap) (slice_split p bs)
  split_all bs = split_cut Gap bs ∙ cut_gap (slice_split p bs)

-- ---- the words of a line

abbrev AreDark : List (List ℕ) → Type 0
AreDark [] = Unit {0}
AreDark (part ∷ parts) = IsWordBytes part × AreDark parts

onto_dark : (b : ℕ) (parts : List (List ℕ)) → is_white b ≡ false → AreDark parts
    → AreDark (onto_first b parts)
onto_dark b [] h d = (rw h refl, tt)
onto_dark b (part ∷ parts) h d = (rw h d.0, d.1)

split_dark : (line : List ℕ) → AreDark (slice_split is_white line)
split_dark [] = (refl, tt)
split_dark (b ∷ bs) = elim (cases_Bool (is_white b)) [
  | inl e ↦ subst AreDark (sym (slice_split-cons_yes is_white b bs e)) (refl, split_dark bs)
  | inr e ↦
      subst AreDark (sym (slice_split-cons_no is_white b bs e))
      (onto_dark b (slice_split is_white bs) e (split_dark bs))
]

-- a word has no fewer bytes than one
word_some : (word : List ℕ) → ltb 0 (length (unrouted_word word)) ≡ ltb 0 (length word)
word_some [] = refl
word_some (b ∷ []) = elim (cases_Bool (eqb b 112)) [ inl e ↦ rw e refl | inr e ↦ rw e refl ]
word_some (b ∷ c ∷ cs) = elim (cases_Bool (eqb b 112)) [
  | inr e ↦ rw e refl
  | inl e ↦ elim (cases_Bool (eqb c 61)) [
    | inr d ↦ rw (e, d) refl
    | inl d ↦
        let some : (bs : List ℕ) → ltb 0 (length (b ∷ bs)) ≡ true =
        λ bs. lt-ltb _ _ (omega arith) in
        ap (λ w. ltb 0 (length w)) (word_key b c cs e d) ∙ some (c ∷ before_at cs)
        ∙ sym (some (c ∷ cs))
  ]
]

abbrev some_in : List ℕ → Bool
some_in part = ltb 0 (length part)

cut_filter : (parts : List (List ℕ)) → AreDark parts
    → filter some_in (map (unrouted_after Gap) parts) ≡ map unrouted_word (filter some_in parts)
cut_filter [] d = refl
cut_filter (part ∷ parts) d =
    let word = in_word part d.0 in
    let same : some_in (unrouted_after Gap part) ≡ some_in part =
    ap some_in word ∙ word_some part in
    elim (cases_Bool (some_in part)) [
      | inl e ↦
          let f : some_in (unrouted_after Gap part) ≡ true = same ∙ e in
          rw (f, e) (ap (λ w. w ∷ filter some_in (map (unrouted_after Gap) parts)) word
          ∙ ap (λ ws. unrouted_word part ∷ ws) (cut_filter parts d.1))
      | inr e ↦
          let f : some_in (unrouted_after Gap part) ≡ false = same ∙ e in
          rw (f, e) (cut_filter parts d.1)
    ]

-- the words of a line without its routes
words_cut : (line : List ℕ) → words (unrouted_after Gap line) ≡ map unrouted_word (words line)
unfolding words
words_cut line =
    ap (filter some_in) (split_all is_white (λ b h. h) line)
    ∙ cut_filter (slice_split is_white line) (split_dark line)

-- ---- the lines that are kept

-- the first byte of a word stays
first_stays : (word : List ℕ) → get_or (unrouted_word word) 0 0 ≡ get_or word 0 0
first_stays [] = refl
first_stays (b ∷ []) = elim (cases_Bool (eqb b 112)) [ inl e ↦ rw e refl | inr e ↦ rw e refl ]
first_stays (b ∷ c ∷ cs) = elim (cases_Bool (eqb b 112)) [
  | inr e ↦ rw e refl
  | inl e ↦ elim (cases_Bool (eqb c 61)) [
    | inr d ↦ rw (e, d) refl
    | inl d ↦ ap (λ w. get_or w 0 0) (word_key b c cs e d)
  ]
]

kept_same : (ws : List (List ℕ)) → is_kept (map unrouted_word ws) ≡ is_kept ws
kept_same [] = refl
kept_same (word ∷ ws) = ap (λ b. not (eqb b 35)) (first_stays word)

kept_cut : (n : ℕ) (ls : List (List ℕ))
    → kept_from n (map (unrouted_after Gap) ls) ≡ map unrouted_line (kept_from n ls)
unfolding kept_from kept_lines
kept_cut n [] = refl
kept_cut n (l ∷ ls) =
    let ws = words_cut l in
    let same : is_kept (words (unrouted_after Gap l)) ≡ is_kept (words l) =
    ap is_kept ws ∙ kept_same (words l) in
    elim (cases_Bool (is_kept (words l))) [
      | inl e ↦
          let f : is_kept (words (unrouted_after Gap l)) ≡ true = same ∙ e in
          rw (f, e) (ap (λ us. record { number = n; words = us }
          ∷ map by_words (kept_lines (n + 1) (map (unrouted_after Gap) ls))) ws
          ∙ ap (λ (ls : List Line). record { number = n; words = map unrouted_word (words l) } ∷ ls)
          (kept_cut (n + 1) ls))
      | inr e ↦
          let f : is_kept (words (unrouted_after Gap l)) ≡ false = same ∙ e in
          rw (f, e) (kept_cut (n + 1) ls)
    ]

-- ---- lines, split at line feeds

abbrev is_feed : ℕ → Bool
is_feed b = eqb b 10

feed_white : (b : ℕ) → is_feed b ≡ true → is_white b ≡ true
feed_white b h = subst (λ (c : ℕ). is_white c ≡ true) (sym (eqb-true b 10 h)) refl

-- splitting a text gives its lines, and maybe an empty part after them
abbrev AreEnds : List (List ℕ) → List (List ℕ) → Type 0
AreEnds parts ls = (parts ≡ ls) ⊎ (parts ≡ ls ++ [] ∷ [])

ends_onto : (b : ℕ) (parts ls : List (List ℕ)) → AreEnds parts ls
    → AreEnds (onto_first b parts) (onto_first b ls)
ends_onto b parts ls (inl e) = inl (ap (onto_first b) e)
ends_onto b parts [] (inr e) = inl (ap (onto_first b) e)
ends_onto b parts (l ∷ ls) (inr e) = inr (ap (onto_first b) e)

ends_then : (parts ls : List (List ℕ)) → AreEnds parts ls → AreEnds ([] ∷ parts) ([] ∷ ls)
ends_then parts ls (inl e) = inl (ap (λ ps. [] ∷ ps) e)
ends_then parts ls (inr e) = inr (ap (λ ps. [] ∷ ps) e)

ends : (text : List ℕ) → AreEnds (slice_split is_feed text) (lines text)
unfolding lines
ends [] = inr refl
ends (b ∷ bs) = elim (cases_Bool (eqb b 10)) [
  | inl e ↦ rw e (ends_then (slice_split is_feed bs) (lines bs) (ends bs))
  | inr e ↦ rw e (ends_onto b (slice_split is_feed bs) (lines bs) (ends bs))
]

-- an empty line is not kept
kept_end : (n : ℕ) (ls : List (List ℕ)) → kept_from n (ls ++ [] ∷ []) ≡ kept_from n ls
unfolding kept_from kept_lines words
kept_end n [] = refl
kept_end n (l ∷ ls) = elim (cases_Bool (is_kept (words l))) [
  | inl e ↦
      rw e
      (ap (λ (ks : List Line). record { number = n; words = words l } ∷ ks) (kept_end (n + 1) ls))
  | inr e ↦ rw e (kept_end (n + 1) ls)
]

kept_ends : (n : ℕ) (parts ls : List (List ℕ)) → AreEnds parts ls
    → kept_from n parts ≡ kept_from n ls
kept_ends n parts ls (inl e) = ap (kept_from n) e
kept_ends n parts ls (inr e) = ap (kept_from n) e ∙ kept_end n ls

-- the kept lines of a text without its routes are those of the text, each without its routes
pub lines_cut : (n : ℕ) (text : List ℕ)
    → kept_from n (lines (unrouted_after Gap text)) ≡ map unrouted_line (kept_from n (lines text))
lines_cut n text =
    sym (kept_ends n (slice_split is_feed (unrouted_after Gap text))
    (lines (unrouted_after Gap text))
    (ends (unrouted_after Gap text)))
    ∙ ap (kept_from n) (split_all is_feed feed_white text)
    ∙ kept_cut n (slice_split is_feed text)
    ∙ ap (map unrouted_line)
    (kept_ends n (slice_split is_feed text) (lines text) (ends text))
