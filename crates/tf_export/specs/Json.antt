-- JSON (RFC 8259): strings of ASCII, whole numbers, arrays and objects, without white space.
use Rattle.std.specs.Prelude.{ℕ, ◌+◌, ◌/◌, ◌%◌, Bool, ◌&&◌, ◌||◌, not, List, [], ◌∷◌, ◌++◌, Option, None, Some, length, drop, codes, nat_lt, ◌==◌, slice_index, if◌then◌else◌}
use Rattle.std.specs.Fmt.{decimal}
use Rattle.std.specs.List.{flat_map, join_with_byte}
use Rattle.std.specs.Str.{bytes_eq}
use Rattle.tf_words.specs.Digits.{is_numeral}

-- a digit to the base 16
abbrev pub hex_digit : ℕ → ℕ
hex_digit n = if nat_lt n 10 then 48 + n else 87 + n

-- a blank and the printable characters of ASCII
abbrev pub is_printable : ℕ → Bool
is_printable b = nat_lt 31 b && nat_lt b 127

-- A byte in a string. The quotation mark and the backslash stand behind a backslash, a line feed is
-- `\n`, and every other byte that is not printable is `\u00` and its two digits.
abbrev pub escaped : ℕ → List ℕ
escaped b =
    if b == 34 then 92 ∷ 34 ∷ []
    else (if b == 92 then 92 ∷ 92 ∷ []
    else (if b == 10 then 92 ∷ 110 ∷ []
    else (if is_printable b then b ∷ []
    else 92 ∷ 117 ∷ 48 ∷ 48 ∷ hex_digit (b / 16) ∷ hex_digit (b % 16) ∷ [])))

unfoldable pub string : List ℕ → List ℕ
string text = 34 ∷ (flat_map escaped text ++ 34 ∷ [])

-- digits without a leading zero
abbrev pub is_natural : List ℕ → Bool
is_natural digits = is_numeral digits && (length digits == 1 || not (slice_index digits 0 == 48))

-- the same, maybe behind a minus sign
abbrev pub is_integer : List ℕ → Bool
is_integer word =
    if slice_index word 0 == 45 then is_natural (drop 1 word) else is_natural word

-- null for `-`, which stands for what is not known, a whole number as it is written, and every other
-- word as a string
unfoldable pub scalar : List ℕ → List ℕ
scalar word =
    if bytes_eq word (codes "-") then codes "null"
    else (if is_integer word then word else string word)

-- values with a comma between each two, in brackets
abbrev pub array : List (List ℕ) → List ℕ
array values = 91 ∷ (join_with_byte 44 values ++ 93 ∷ [])

-- a name and its value
abbrev pub member : List ℕ → List ℕ → List ℕ
member name value = string name ++ 58 ∷ value

-- members with a comma between each two, in braces
abbrev pub object : List (List ℕ) → List ℕ
object members = 123 ∷ (join_with_byte 44 members ++ 125 ∷ [])

-- the first member of each object that a command prints
abbrev pub version : List ℕ
version = member (codes "version") (codes "1")

-- the same, and the instance of several that the object is about
abbrev pub heading : Option ℕ → List (List ℕ)
heading None = version ∷ []
heading (Some number) = version ∷ member (codes "instance") (decimal number) ∷ []
