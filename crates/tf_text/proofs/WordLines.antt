-- Lines that are written word by word, and their words.
use Rattle.std.proofs.Common.{◌≡◌, ℕ, ◌+◌, ◌<◌, Bool, true, false, not, eqb, ltb, List, [], ◌∷◌, ◌++◌, length, map, refl, ap, subst, inl, inr, ◌∙◌, append_assoc}
use Rattle.std.specs.List.{slice_split, onto_first, filter, flat_map, join_with_byte, list_all, AllByRecursion}
use Rattle.std.proofs.lemmas.Bool.{cases_Bool, and_parts, and_from, not-true, lt-ltb, eqb-true}
use Rattle.tf_words.specs.Words.{is_white, words, lines, is_kept, KeptLine, kept_lines}
use Rattle.tf_text.specs.AnswerText.{line_text}

-- a word: one byte or more, none of them white
pub record IsWord (word : List ℕ) : Type 0 where
  pub some : 0 < length word
  pub dark : list_all (λ b. not (is_white b)) word ≡ true

abbrev pub AreWords : List (List ℕ) → Type 0
AreWords = AllByRecursion IsWord

-- ---- words

split_at : (word rest : List ℕ) → list_all (λ b. not (is_white b)) word ≡ true
    → slice_split is_white (word ++ 32 ∷ rest) ≡ word ∷ slice_split is_white rest
split_at [] rest h = refl
split_at (b ∷ bs) rest h =
    let both = and_parts _ _ h in
    let dark : is_white b ≡ false = not-true _ both.0 in
    rw dark (ap (onto_first b) (split_at bs rest both.1))

split_none : (word : List ℕ) → list_all (λ b. not (is_white b)) word ≡ true
    → slice_split is_white word ≡ word ∷ []
split_none [] h = refl
split_none (b ∷ bs) h =
    let both = and_parts _ _ h in
    let dark : is_white b ≡ false = not-true _ both.0 in
    rw dark (ap (onto_first b) (split_none bs both.1))

kept_part : (word : List ℕ) (parts : List (List ℕ)) → 0 < length word
    → filter (λ part. ltb 0 (length part)) (word ∷ parts) ≡ word
    ∷ filter (λ part. ltb 0 (length part)) parts
kept_part word parts some = let full : ltb 0 (length word) ≡ true = lt-ltb _ _ some in rw full refl

pub words_then : (word rest : List ℕ) → IsWord word → words (word ++ 32 ∷ rest) ≡ word ∷ words rest
unfolding words
words_then word rest is = ap (filter (λ part. ltb 0 (length part))) (split_at word rest is.dark)
    ∙ kept_part word (slice_split is_white rest) is.some

pub words_last : (word : List ℕ) → IsWord word → words word ≡ word ∷ []
unfolding words
words_last word is = ap (filter (λ part. ltb 0 (length part))) (split_none word is.dark)
    ∙ kept_part word [] is.some

pub words-join : (ws : List (List ℕ)) → AreWords ws → words (join_with_byte 32 ws) ≡ ws
unfolding words
words-join [] is = refl
words-join (word ∷ []) is = words_last word is.0
words-join (word ∷ other ∷ more) is = words_then word (join_with_byte 32 (other ∷ more)) is.0
    ∙ ap (λ ws. word ∷ ws) (words-join (other ∷ more) is.1)

-- ---- lines

line_then : (line rest : List ℕ) → list_all (λ b. not (eqb b 10)) line ≡ true
    → lines (line ++ 10 ∷ rest) ≡ line ∷ lines rest
unfolding lines
line_then [] rest h = refl
line_then (b ∷ bs) rest h =
    let both = and_parts _ _ h in
    let other : eqb b 10 ≡ false = not-true _ both.0 in
    rw other (ap (onto_first b) (line_then bs rest both.1))

no_feed_byte : (b : ℕ) → not (is_white b) ≡ true → not (eqb b 10) ≡ true
no_feed_byte b h = elim (cases_Bool (eqb b 10)) [
  | inl e ↦ (let same : b ≡ 10 = eqb-true b 10 e in let dark : false ≡ true =
      subst (λ (c : ℕ). not (is_white c) ≡ true) same h in cc)
  | inr e ↦ rw e refl
]

no_feed : (word : List ℕ) → list_all (λ b. not (is_white b)) word ≡ true
    → list_all (λ b. not (eqb b 10)) word ≡ true
no_feed [] h = refl
no_feed (b ∷ bs) h =
    let both = and_parts _ _ h in
    and_from _ _ (no_feed_byte b both.0) (no_feed bs both.1)

pub append_all : (test : ℕ → Bool) (xs ys : List ℕ) → list_all test xs ≡ true
    → list_all test ys ≡ true → list_all test (xs ++ ys) ≡ true
append_all test [] ys h k = k
append_all test (x ∷ xs) ys h k = let both = and_parts _ _ h in
    and_from _ _ both.0 (append_all test xs ys both.1 k)

no_feed-join : (ws : List (List ℕ)) → AreWords ws
    → list_all (λ b. not (eqb b 10)) (join_with_byte 32 ws) ≡ true
no_feed-join [] is = refl
no_feed-join (word ∷ []) is = no_feed word is.0.dark
no_feed-join (word ∷ other ∷ more) is =
    append_all (λ b. not (eqb b 10)) word (32 ∷ join_with_byte 32 (other ∷ more))
    (no_feed word is.0.dark) (no_feed-join (other ∷ more) is.1)

pub lines-text : (ls : List (List (List ℕ))) → AllByRecursion AreWords ls
    → lines (flat_map line_text ls) ≡ map (join_with_byte 32) ls
unfolding lines
lines-text [] are = refl
lines-text (ws ∷ more) are =
    ap lines (append_assoc (join_with_byte 32 ws) (10 ∷ []) (flat_map line_text more))
    ∙ line_then (join_with_byte 32 ws) (flat_map line_text more) (no_feed-join ws are.0)
    ∙ ap (λ ls. join_with_byte 32 ws ∷ ls) (lines-text more are.1)

-- ---- kept lines

-- lines of words, numbered from this number on
abbrev pub numbered : ℕ → List (List (List ℕ)) → List KeptLine
numbered number [] = []
numbered number (ws ∷ more) =
    record { number = number; bytes = join_with_byte 32 ws } ∷ numbered (number + 1) more

-- lines of words, all of which are kept
pub record IsLine (ws : List (List ℕ)) : Type 0 where
  pub words : AreWords ws
  pub kept : is_kept ws ≡ true

pub kept-numbered : (number : ℕ) (ls : List (List (List ℕ))) → AllByRecursion IsLine ls
    → kept_lines number (map (join_with_byte 32) ls) ≡ numbered number ls
unfolding kept_lines
kept-numbered number [] are = refl
kept-numbered number (ws ∷ more) are =
    let kept : is_kept (words (join_with_byte 32 ws)) ≡ true =
    ap is_kept (words-join ws are.0.words) ∙ are.0.kept in
    rw kept (ap (λ ls. record { number = number; bytes = join_with_byte 32 ws } ∷ ls)
    (kept-numbered (number + 1) more are.1))

only_words : (ls : List (List (List ℕ))) → AllByRecursion IsLine ls → AllByRecursion AreWords ls
only_words [] are = tt
only_words (ws ∷ more) are = (are.0.words, only_words more are.1)

-- the kept lines of a text of lines of words
pub kept-text : (ls : List (List (List ℕ))) → AllByRecursion IsLine ls
    → kept_lines 1 (lines (flat_map line_text ls)) ≡ numbered 1 ls
kept-text ls are = ap (kept_lines 1) (lines-text ls (only_words ls are)) ∙ kept-numbered 1 ls are
