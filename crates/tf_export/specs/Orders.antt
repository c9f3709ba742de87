-- Lines of orders, as JSON and as rows of a table: the number of a line, perhaps a label and a colon,
-- and what its order comes to.
use Rattle.std.specs.Prelude.{ℕ, ◌+◌, Bool, ◌==◌, List, [], ◌∷◌, ◌++◌, Option, None, Some, codes, take, drop, if◌then◌else◌}
use Rattle.std.specs.List.{position}
use Rattle.tf_words.specs.Words.{words, first_is}
use Rattle.tf_export.specs.Json.{member, object, string}
use Rattle.tf_export.specs.Members.{fields, phrase}

abbrev pub is_colon : ℕ → Bool
is_colon byte = byte == 58

-- what a line says behind its number and label
abbrev pub row_by : Option ℕ → List ℕ → List (List ℕ)
row_by None line = drop 1 (words line)
row_by (Some place) line = words (drop (place + 1) line)

abbrev pub row_of : List ℕ → List (List ℕ)
row_of line = row_by (position is_colon line) line

-- ---- as JSON

-- an order without a value, and why it has none
abbrev pub unrated : List ℕ → List (List ℕ) → List (List ℕ)
unrated standing reason =
    member (codes "standing") (string standing)
    ∷ member (codes "value") (codes "null")
    ∷ member (codes "gap") (codes "null")
    ∷ fields (words (codes "reason")) (codes "arguments") reason

-- how an order with a value and a gap stands
abbrev pub standing_of : List (List ℕ) → List ℕ
standing_of row = if first_is (codes "0") (drop 1 row) then codes "optimal" else codes "fits"

-- the names of what a line says of a schedule that fits; the values of the other objectives stand
-- where they are asked for
abbrev pub rated_names : List ℕ
rated_names = codes "value gap Cmax Lmax Tmax sumC sumwC sumT sumwT sumU sumwU"

abbrev pub rated : List (List ℕ) → List (List ℕ)
rated row = member (codes "standing") (string (standing_of row)) ∷ fields (words rated_names) [] row

-- what an order comes to
abbrev pub order_outcome : List (List ℕ) → List (List ℕ)
order_outcome row =
    if first_is (codes "misfit") row then unrated (codes "misfit") (drop 1 row)
    else (if first_is (codes "wrong") row then unrated (codes "wrong") (drop 1 row) else rated row)

-- the number of a line, no label, and what its order comes to
abbrev pub unlabelled : List (List ℕ) → List (List ℕ)
unlabelled line =
    fields (words (codes "line")) [] line
    ++ (member (codes "label") (codes "null") ∷ order_outcome (drop 1 line))

-- the same with the label that stands behind the number
abbrev pub labelled : List (List ℕ) → List (List ℕ) → List (List ℕ)
labelled front row =
    fields (words (codes "line")) [] front
    ++ (member (codes "label") (phrase (drop 1 front)) ∷ order_outcome row)

abbrev pub order_members_by : Option ℕ → List ℕ → List (List ℕ)
order_members_by None line = unlabelled (words line)
order_members_by (Some place) line =
    labelled (words (take place line)) (words (drop (place + 1) line))

abbrev pub order_members : List ℕ → List (List ℕ)
order_members line = order_members_by (position is_colon line) line

abbrev pub order_in : List ℕ → List ℕ
order_in line = object (order_members line)
