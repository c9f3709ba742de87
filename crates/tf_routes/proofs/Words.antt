-- The words of a text, taken one by one.
use Rattle.std.proofs.Common.{◌≡◌, ℕ, ◌+◌, List, [], ◌∷◌, ◌++◌, map, refl, ap, ◌∙◌}
use Rattle.tf_words.specs.Words.{Word, words, words_from}
use Rattle.tf_routes.specs.TextLeft.{placed}

-- the first word of what is left of a line
pub word_first : (n : ℕ) (line word rest : List ℕ) (more : List Word)
    → words line ≡ word ∷ words rest
    → placed n line ++ more ≡ record { line = n; bytes = word } ∷ (placed n rest ++ more)
word_first n line word rest more h =
    ap (λ ws. map (λ w. record { line = n; bytes = w }) ws ++ more) h

-- a line without a word is over, and the next one follows
pub line_over : (n m : ℕ) (line next : List ℕ) (all below : List (List ℕ)) → words line ≡ []
    → all ≡ next ∷ below
    → placed n line ++ words_from m all ≡ placed m next ++ words_from (m + 1) below
unfolding words_from
line_over n m line next all below h is =
    ap (λ ws. map (λ w. record { line = n; bytes = w }) ws ++ words_from m all) h
    ∙ ap (words_from m) is

-- no line follows
pub text_over : (n m : ℕ) (line : List ℕ) (all : List (List ℕ)) → words line ≡ [] → all ≡ []
    → placed n line ++ words_from m all ≡ []
unfolding words_from
text_over n m line all h is =
    ap (λ ws. map (λ w. record { line = n; bytes = w }) ws ++ words_from m all) h
    ∙ ap (words_from m) is

-- an empty line has no words
pub before_lines : (n m : ℕ) (all : List (List ℕ))
    → placed n [] ++ words_from m all ≡ words_from m all
unfolding words
before_lines n m all = refl
