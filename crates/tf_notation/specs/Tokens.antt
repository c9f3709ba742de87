-- The tokens of a text in three-field notation.
use Rattle.std.specs.Prelude.{ℕ, ◌+◌, Bool, false, ◌||◌, ◌&&◌, List, [], ◌∷◌, drop, ◌==◌, if◌then◌else◌}
use Rattle.std.specs.Char.{is_ascii_alphanumeric}

-- a token, and the offset of its first byte
pub record Token : Type 0 where
  pub start : ℕ
  pub bytes : List ℕ

-- what only divides tokens: a blank or a tab
abbrev pub is_gap : ℕ → Bool
is_gap b = b == 32 || b == 9

-- what belongs to a word: an ASCII letter, a digit or '_'
abbrev pub is_word_byte : ℕ → Bool
is_word_byte b = is_ascii_alphanumeric b || b == 95

-- whether a text begins with a byte of a word
abbrev pub begins_word : List ℕ → Bool
begins_word [] = false
begins_word (b ∷ bs) = is_word_byte b

-- the first token, with one byte more at its front
abbrev pub lengthen : ℕ → ℕ → List Token → List Token
lengthen start b [] = []
lengthen start b (t ∷ ts) = record { start = start; bytes = b ∷ t.bytes } ∷ ts

-- The tokens of a text whose first byte has this offset. A word is a longest run of its bytes; each
-- other byte that is no gap is a token by itself.
unfoldable pub tokens_from : ℕ → List ℕ → List Token
tokens_from offset [] = []
tokens_from offset (b ∷ bs) =
    if is_gap b then tokens_from (offset + 1) bs
    else if is_word_byte b && begins_word bs then lengthen offset b (tokens_from (offset + 1) bs)
    else record { start = offset; bytes = b ∷ [] } ∷ tokens_from (offset + 1) bs

-- the tokens of a text from an offset on
abbrev pub tokens_after : List ℕ → ℕ → List Token
tokens_after text offset = tokens_from offset (drop offset text)
