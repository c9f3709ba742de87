-- Lines of orders as rows of a table.
use Rattle.std.specs.Prelude.{ℕ, ◌+◌, ◌==◌, Bool, List, [], ◌∷◌, ◌++◌, Option, None, Some, codes, take, drop, if◌then◌else◌}
use Rattle.std.specs.List.{flat_map, join_with_byte, position}
use Rattle.std.specs.Str.{bytes_eq}
use Rattle.tf_words.specs.Words.{words, lines, first_is}
use Rattle.tf_export.specs.Orders.{is_colon, standing_of}

-- in quotation marks, in which each stands twice
abbrev pub quoted_byte : ℕ → List ℕ
quoted_byte b = if b == 34 then 34 ∷ 34 ∷ [] else b ∷ []

abbrev pub quoted : List (List ℕ) → List ℕ
quoted row = 34 ∷ (flat_map quoted_byte (join_with_byte 32 row) ++ 34 ∷ [])

-- the first word, and nothing where there is none
abbrev pub first_word_of : List (List ℕ) → List ℕ
first_word_of [] = []
first_word_of (word ∷ more) = word

-- the empty cells of the values by the other objectives, where those are asked for
abbrev pub blank_cells : Bool → List ℕ
blank_cells is_measured = if is_measured then codes ",,,,,,,,," else []

-- an order without a value, and why it has none
abbrev pub unrated_cells : Bool → List ℕ → List (List ℕ) → List ℕ
unrated_cells is_measured cells reason =
    cells ++ (blank_cells is_measured ++ 44 ∷ join_with_byte 32 reason)

-- a value, and nothing for `-`, which stands for one that is not known
abbrev pub value_cell : List ℕ → List ℕ
value_cell word = 44 ∷ (if bytes_eq word (codes "-") then [] else word)

abbrev pub rated_cells : List (List ℕ) → List ℕ
rated_cells row = 44 ∷ (standing_of row ++ (flat_map value_cell row ++ 44 ∷ []))

-- what an order comes to
abbrev pub order_cells : Bool → List (List ℕ) → List ℕ
order_cells is_measured row =
    if first_is (codes "misfit") row
    then unrated_cells is_measured (codes ",misfit,,") (drop 1 row)
    else (if first_is (codes "wrong") row
    then unrated_cells is_measured (codes ",wrong,,") (drop 1 row) else rated_cells row)

-- the number of a line, its label, if it has one, and what its order comes to, with its values by the
-- other objectives where those are asked for
abbrev pub plain_row : Bool → List (List ℕ) → List ℕ
plain_row is_measured line =
    first_word_of line ++ 44 ∷ (order_cells is_measured (drop 1 line) ++ 10 ∷ [])

abbrev pub labelled_row : Bool → List (List ℕ) → List (List ℕ) → List ℕ
labelled_row is_measured front row =
    first_word_of front ++ 44 ∷ (quoted (drop 1 front) ++ (order_cells is_measured row ++ 10 ∷ []))

abbrev pub row_by : Bool → Option ℕ → List ℕ → List ℕ
row_by is_measured None line = plain_row is_measured (words line)
row_by is_measured (Some place) line =
    labelled_row is_measured (words (take place line)) (words (drop (place + 1) line))

abbrev pub order_row : Bool → List ℕ → List ℕ
order_row is_measured line = row_by is_measured (position is_colon line) line

abbrev pub heading : Bool → List ℕ
heading is_measured =
    if is_measured
    then codes "line,label,standing,value,gap,Cmax,Lmax,Tmax,sumC,sumwC,sumT,sumwT,sumU,sumwU,reason\n"
    else codes "line,label,standing,value,gap,reason\n"

-- a heading, and a row for each order
unfoldable pub orders_csv : Bool → List ℕ → List ℕ
orders_csv is_measured text =
    heading is_measured ++ flat_map (order_row is_measured) (drop 1 (lines text))
