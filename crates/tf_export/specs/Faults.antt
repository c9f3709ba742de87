-- What is said on standard error, as JSON.
use Rattle.std.specs.Prelude.{ℕ, ◌+◌, List, [], ◌∷◌, ◌++◌, codes, take, drop, ◌==◌, if◌then◌else◌, Option}
use Rattle.std.specs.List.{position_or_len}
use Rattle.tf_words.specs.Words.{words, first_is}
use Rattle.tf_export.specs.Json.{string, member, object, heading}
use Rattle.tf_export.specs.Members.{phrase, fields}

-- the first line of a text, and the text behind its line feed
abbrev pub line_end : List ℕ → ℕ
line_end text = position_or_len (λ b. b == 10) text

abbrev pub first_line : List ℕ → List ℕ
first_line text = take (line_end text) text

abbrev pub behind_line : List ℕ → List ℕ
behind_line text = drop (line_end text + 1) text

-- a refusal: its name and its arguments
abbrev pub refusal : List (List ℕ) → List (List ℕ)
refusal row = fields (words (codes "refusal")) (codes "arguments") row

-- that of the text of this name says so
abbrev pub refused_text : List ℕ → List (List ℕ) → List (List ℕ)
refused_text name row = member (codes "text") (string name) ∷ refusal (drop 1 row)

-- that of an answer text, of the text of a bound, or another one
abbrev pub refused : List (List ℕ) → List (List ℕ)
refused row =
    if first_is (codes "answer") row then refused_text (codes "answer") row
    else (if first_is (codes "bound") row then refused_text (codes "bound") row else refusal row)

-- what the line of a fault says behind the name of the program
abbrev pub fault : List (List ℕ) → List (List ℕ)
fault row =
    if first_is (codes "refused:") row then refused (drop 1 row)
    else member (codes "fault") (phrase row) ∷ []

-- an explanation, where there is one
abbrev pub explanation : List ℕ → List (List ℕ)
explanation [] = []
explanation (byte ∷ bytes) = member (codes "explanation") (string (byte ∷ bytes)) ∷ []

-- the line of a fault, which the name of the program begins, and an explanation, or that alone
unfoldable pub fault_members : List ℕ → List (List ℕ)
fault_members text =
    if first_is (codes "threefield:") (words (first_line text))
    then fault (drop 1 (words (first_line text))) ++ explanation (behind_line text)
    else explanation text

-- one object, on a line of its own, whose first members are the version and, of one of several
-- instances, its number, unless there is nothing to say
unfoldable pub fault_json : Option ℕ → List ℕ → List ℕ
fault_json instance [] = []
fault_json instance (byte ∷ bytes) =
    object (heading instance ++ fault_members (byte ∷ bytes)) ++ 10 ∷ []
