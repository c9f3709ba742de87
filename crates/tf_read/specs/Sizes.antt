-- The sizes of a flow shop, byte by byte.
use Rattle.std.specs.Prelude.{◌≡◌, ℕ, ◌+◌, ◌<◌, true, not, ◌||◌, List, [], ◌∷◌, ◌++◌, length, min, nat_lt, ◌==◌, Option, None, Result, Ok, Err, if◌then◌else◌}
use Rattle.std.specs.List.{list_all}
use Rattle.std.specs.Char.{is_ascii_digit}
use Rattle.std.specs.Str.Parse.{digits_value}
use Rattle.tf_words.specs.Number.{limit}
use Rattle.tf_words.specs.Words.{words}
use Rattle.tf_model.specs.Limit.{most_jobs, most_machines}
use Rattle.tf_read.specs.declared.fault.ReadFault.{ReadFault}
use Rattle.tf_read.specs.declared.fault.ReadFault.TheVariants.{BadPair, BadLine, NoJobs, TooManyJobs}
use Rattle.tf_read.specs.declared.sizes.SizesLine.{SizesLine}
use Rattle.tf_read.specs.declared.sizes.SizesLine.TheVariants.{Blank, Jobs, Between, Machines, Both, Other}
use Rattle.tf_read.specs.FlowShop.{are_machines, sizes_in}
use Rattle.tf_read.specs.PresentLine.{IsInLine}

-- the value of digits; of those above the limit each is as good as another
abbrev pub size_of : List ℕ → ℕ
size_of digits = min (digits_value 10 digits) (limit + 1)

-- the value of bytes that are all digits, of which there may be none
abbrev pub HasDigits : ℕ → List ℕ → Type 0
HasDigits size word = (list_all is_ascii_digit word ≡ true) × (size ≡ size_of word)

-- the size that a word is
abbrev pub IsSize : ℕ → List ℕ → Type 0
IsSize size word = (0 < length word) × HasDigits size word

-- what the bytes with which a line begins have shown of sizes
abbrev pub SizesShown : List ℕ → SizesLine → Type 0
SizesShown bytes Blank = IsInLine bytes [] []
SizesShown bytes (Jobs jobs) = (a : List ℕ) × IsInLine bytes [] a × IsSize jobs a
SizesShown bytes (Between jobs) = (a : List ℕ) × IsInLine bytes (a ∷ []) [] × IsSize jobs a
SizesShown bytes (Machines jobs machines) = (a : List ℕ) × (b : List ℕ) × IsInLine bytes (a ∷ []) b
    × IsSize jobs a × IsSize machines b
SizesShown bytes (Both jobs machines) = (a : List ℕ) × (b : List ℕ) × IsInLine bytes (a ∷ b ∷ []) []
    × IsSize jobs a × IsSize machines b
SizesShown bytes Other = (more : List ℕ) → sizes_in (words (bytes ++ more)) ≡ None

-- the sizes on a line, as they are judged
abbrev pub judged_sizes : Option (ℕ × ℕ) → ℕ → ℕ × ℕ → Result (ℕ × ℕ) ReadFault
judged_sizes pair line sizes =
    if sizes.0 == 0 then Err NoJobs
    else if nat_lt most_jobs sizes.0 then Err TooManyJobs
    else if sizes.1 == 0 || nat_lt most_machines sizes.1 then Err (BadLine line)
    else if not (are_machines sizes.1 pair) then Err BadPair
    else Ok sizes
