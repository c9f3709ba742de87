-- A summary of the orders of a text: how many are optimal, how many are wrong and how, and the mean
-- gap.
use Rattle.std.specs.Prelude.{ℕ, ◌+◌, ◌*◌, ◌/◌, ◌%◌, pos, negsuc, Bool, true, ◌&&◌, not, ◌==◌, List, [], ◌∷◌, ◌++◌, Option, None, Some, is_some, unwrap_or, codes, drop, if◌then◌else◌}
use Rattle.std.specs.List.{count_by, flat_map, position, sum_by}
use Rattle.std.specs.Fmt.{decimal}
use Rattle.std.specs.Str.{bytes_eq}
use Rattle.tf_words.specs.Words.{lines, first_is}
use Rattle.tf_words.specs.Ranged.{number_in}
use Rattle.tf_words.specs.declared.ranged.Ranged.{Ranged}
use Rattle.tf_words.specs.declared.ranged.Ranged.TheVariants.{NotANumber, Below, Above, Within}
use Rattle.tf_export.specs.Lines.{first_of}
use Rattle.tf_export.specs.Orders.{row_of, standing_of}
use Rattle.tf_export.specs.declared.tally.Mark.{Mark}
use Rattle.tf_export.specs.declared.tally.Mark.TheVariants as marks

-- an order fits
abbrev pub is_rated : List (List ℕ) → Bool
is_rated row = not (first_is (codes "misfit") row) && not (first_is (codes "wrong") row)

-- an order is wrong for this reason
abbrev pub is_wrong : List ℕ → List (List ℕ) → Bool
is_wrong reason row = first_is (codes "wrong") row && first_is reason (drop 1 row)

-- a number from 0 up to the limit of numbers
abbrev pub natural_in : Ranged → Option ℕ
natural_in NotANumber = None
natural_in Below = None
natural_in Above = None
natural_in (Within (pos n)) = Some n
natural_in (Within (negsuc n)) = None

abbrev pub gap_word : List (List ℕ) → Option ℕ
gap_word [] = None
gap_word (word ∷ more) = natural_in (number_in (pos 0) (pos 4000000000000000000) word)

-- the gap of an order, where it has one within the limit
abbrev pub gap_of : List (List ℕ) → Option ℕ
gap_of row = if is_rated row then gap_word (drop 1 row) else None

-- an order that comes to this is counted
abbrev pub counts : Mark → List (List ℕ) → Bool
counts marks.Order row = true
counts marks.Optimal row = is_rated row && bytes_eq (standing_of row) (codes "optimal")
counts marks.Fits row = is_rated row && bytes_eq (standing_of row) (codes "fits")
counts marks.Misfit row = first_is (codes "misfit") row
counts marks.Wrong row = first_is (codes "wrong") row
counts marks.WrongWord row = is_wrong (codes "word") row
counts marks.WrongLists row = is_wrong (codes "lists") row
counts marks.WrongTwice row = is_wrong (codes "twice") row
counts marks.WrongMissing row = is_wrong (codes "missing") row
counts marks.WrongSeldom row = is_wrong (codes "seldom") row
counts marks.WrongOften row = is_wrong (codes "often") row
counts marks.Gap row = is_some (gap_of row)

-- and so is a line of an order
abbrev pub is_counted : Mark → List ℕ → Bool
is_counted mark line = counts mark (row_of line)

abbrev pub gap_or_zero : List ℕ → ℕ
gap_or_zero line = unwrap_or (gap_of (row_of line)) 0

-- what stands before a count
abbrev pub name_of : Mark → List ℕ
name_of marks.Order = codes "# orders "
name_of marks.Optimal = codes "# optimal "
name_of marks.Fits = codes "# fits "
name_of marks.Misfit = codes "# misfit "
name_of marks.Wrong = codes "# wrong "
name_of marks.WrongWord = codes "# wrong_word "
name_of marks.WrongLists = codes "# wrong_lists "
name_of marks.WrongTwice = codes "# wrong_twice "
name_of marks.WrongMissing = codes "# wrong_missing "
name_of marks.WrongSeldom = codes "# wrong_seldom "
name_of marks.WrongOften = codes "# wrong_often "
name_of marks.Gap = codes "# gaps "

abbrev pub count_line : List (List ℕ) → Mark → List ℕ
count_line orders mark = name_of mark ++ (decimal (count_by (is_counted mark) orders) ++ 10 ∷ [])

-- two digits of a part of a whole
abbrev pub hundredths : ℕ → ℕ → List ℕ
hundredths part whole = (48 + part * 10 / whole) ∷ (48 + part * 10 % whole * 10 / whole) ∷ []

-- the mean of so many gaps, cut off behind two digits
abbrev pub mean : ℕ → ℕ → List ℕ
mean count sum =
    if count == 0 then codes "null"
    else decimal (sum / count) ++ 46 ∷ hundredths (sum % count) count

abbrev pub mean_line : List (List ℕ) → List ℕ
mean_line orders =
    codes "# mean_gap "
    ++ (mean (count_by (is_counted marks.Gap) orders) (sum_by gap_or_zero orders) ++ 10 ∷ [])

-- how the orders stand
abbrev pub standings : List (List ℕ) → List ℕ
standings orders =
    count_line orders marks.Order ++ count_line orders marks.Optimal
    ++ count_line orders marks.Fits ++ count_line orders marks.Misfit

-- how many are wrong, and why
abbrev pub reasons : List (List ℕ) → List ℕ
reasons orders =
    count_line orders marks.Wrong ++ count_line orders marks.WrongWord
    ++ count_line orders marks.WrongLists ++ count_line orders marks.WrongTwice
    ++ count_line orders marks.WrongMissing ++ count_line orders marks.WrongSeldom
    ++ count_line orders marks.WrongOften

unfoldable pub summary_text : List (List ℕ) → List ℕ
summary_text orders = standings orders ++ reasons orders ++ mean_line orders

-- of the orders behind the first line
abbrev pub summary_of : List ℕ → List ℕ
summary_of text = summary_text (drop 1 (lines text))

-- a line without its number
abbrev pub behind : Option ℕ → List ℕ → List ℕ
behind None line = line
behind (Some place) line = drop (place + 1) line

abbrev pub behind_blank : List ℕ → List ℕ
behind_blank line = behind (position (λ b. b == 32) line) line

abbrev pub unnumbered : List ℕ → List ℕ
unnumbered line = behind_blank line ++ 10 ∷ []

-- the orders without their numbers, and in comments the first line and the summary
unfoldable pub summarized : List ℕ → List ℕ
summarized text =
    flat_map unnumbered (drop 1 (lines text))
    ++ (codes "# " ++ (first_of (lines text) ++ 10 ∷ summary_of text))
