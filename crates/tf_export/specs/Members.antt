-- What a line of words says, as members of a JSON object.
use Rattle.std.specs.Prelude.{ℕ, Bool, false, ◌&&◌, ◌||◌, List, [], ◌∷◌, ◌++◌, codes, length, drop, map, ◌==◌, if◌then◌else◌}
use Rattle.std.specs.List.{flat_map, join_with_byte}
use Rattle.std.specs.Str.{bytes_eq}
use Rattle.tf_words.specs.Words.{words, lines, first_is}
use Rattle.tf_export.specs.Json.{string, scalar, array, member, object, is_integer}

-- words as one string, with a blank between each two
abbrev pub phrase : List (List ℕ) → List ℕ
phrase row = string (join_with_byte 32 row)

-- one word by itself, and otherwise a phrase
abbrev pub said : List (List ℕ) → List ℕ
said [] = phrase []
said (word ∷ []) = scalar word
said (word ∷ next ∷ more) = phrase (word ∷ next ∷ more)

-- the words that no name is left for, as an array of this name, unless the name is empty
abbrev pub rest_members : List ℕ → List (List ℕ) → List (List ℕ)
rest_members [] row = []
rest_members (letter ∷ letters) row = member (letter ∷ letters) (array (map scalar row)) ∷ []

-- each word by its name, and the others as an array
unfoldable pub fields : List (List ℕ) → List ℕ → List (List ℕ) → List (List ℕ)
fields [] rest row = rest_members rest row
fields (name ∷ names) rest [] = []
fields (name ∷ names) rest (word ∷ row) = member name (scalar word) ∷ fields names rest row

-- an object with a word for each name
abbrev pub record_of : List ℕ → List (List ℕ) → List ℕ
record_of names row = object (fields (words names) [] row)

-- What stands behind a key in a line, if that many words do.
abbrev pub row_in : List ℕ → ℕ → List (List ℕ) → List (List (List ℕ))
row_in key count line =
    if first_is key line && (length (drop 1 line) == count) then drop 1 line ∷ [] else []

-- the rows of a text, each with a word for each name
abbrev pub rows : List ℕ → List ℕ → List ℕ → List (List (List ℕ))
rows key names text = flat_map (λ line. row_in key (length (words names)) (words line)) (lines text)

-- the names of a certificate's first words, by its kind
abbrev pub certificate_names : List ℕ → List ℕ
certificate_names kind =
    if bytes_eq kind (codes "split") then codes "side delta"
    else (if bytes_eq kind (codes "machine") then codes "machine"
    else (if bytes_eq kind (codes "job") then codes "job"
    else (if bytes_eq kind (codes "crowd") then codes "jobs_per_machine"
    else (if bytes_eq kind (codes "multipliers") then codes "machine denominator"
    else (if bytes_eq kind (codes "prices") then codes "denominator"
    else (if bytes_eq kind (codes "prices_on") then codes "machine denominator"
    else (if bytes_eq kind (codes "pair") then codes "first_machine second_machine side delta"
    else (if bytes_eq kind (codes "parts") then codes "from until late"
    else (if bytes_eq kind (codes "potentials") then codes "end" else [])))))))))

-- the name of its list: that of an answer's certificate, and that of a bound's
abbrev pub answer_list : List ℕ → List ℕ
answer_list kind =
    if bytes_eq kind (codes "last") || bytes_eq kind (codes "window")
    || bytes_eq kind (codes "split") || bytes_eq kind (codes "ranks")
    then codes "jobs" else []

abbrev pub bound_list : List ℕ → List ℕ
bound_list kind =
    if bytes_eq kind (codes "multipliers") || bytes_eq kind (codes "prices")
    || bytes_eq kind (codes "prices_on") then codes "numerators"
    else (if bytes_eq kind (codes "potentials") then codes "potentials"
    else (if bytes_eq kind (codes "job") || bytes_eq kind (codes "alone") then [] else codes "jobs"))

-- the numerators of the arcs, where the line behind multipliers has them
abbrev pub arc_members : List ℕ → List (List ℕ) → List (List ℕ)
arc_members kind next =
    if bytes_eq kind (codes "multipliers") && first_is (codes "arcs") next
    then member (codes "arcs") (array (map scalar (drop 1 next))) ∷ [] else []

-- a certificate, by its kind, the name of its list, its other words and those of the next line
abbrev pub certificate : List ℕ → List ℕ → List (List ℕ) → List (List ℕ) → List ℕ
certificate kind list row next =
    member (codes "certificate") (object
    (member (codes "kind") (string kind)
    ∷ (fields (words (certificate_names kind)) list row ++ arc_members kind next)))

abbrev pub answer_certificate : List (List ℕ) → List (List ℕ)
answer_certificate [] = []
answer_certificate (kind ∷ row) = certificate kind (answer_list kind) row [] ∷ []

-- a line of a bound's certificate
abbrev pub is_bound_kind : List ℕ → List (List ℕ) → Bool
is_bound_kind key row =
    bytes_eq key (codes "machine") || bytes_eq key (codes "window") || bytes_eq key (codes "crowd")
    || bytes_eq key (codes "multipliers") || bytes_eq key (codes "prices")
    || bytes_eq key (codes "prices_on") || bytes_eq key (codes "kept")
    || bytes_eq key (codes "shortest") || bytes_eq key (codes "ranks") || bytes_eq key (codes "pair")
    || bytes_eq key (codes "parts") || bytes_eq key (codes "potentials")
    || (bytes_eq key (codes "job") && (length row == 1))
    || (bytes_eq key (codes "alone") && (length row == 0))

-- the key of a line that says one thing
abbrev pub is_plain_key : List ℕ → Bool
is_plain_key key =
    bytes_eq key (codes "problem") || bytes_eq key (codes "jobs") || bytes_eq key (codes "machines")
    || bytes_eq key (codes "value") || bytes_eq key (codes "claimed")
    || bytes_eq key (codes "best") || bytes_eq key (codes "gap")

-- words that are one number
abbrev pub is_number : List (List ℕ) → Bool
is_number [] = false
is_number (word ∷ []) = is_integer word
is_number (word ∷ next ∷ more) = false

-- a bound, or null and why there is none
abbrev pub fault_name : List ℕ → List ℕ
fault_name key =
    if bytes_eq key (codes "offered") then codes "offered_fault" else codes "bound_fault"

abbrev pub bounding_members : List ℕ → List (List ℕ) → List (List ℕ)
bounding_members key row =
    if is_number row then member key (said row) ∷ []
    else member key (codes "null") ∷ member (fault_name key) (phrase row) ∷ []

-- a verdict: whether it is a good one, and if not the fault and its arguments
abbrev pub verdict : List ℕ → List ℕ → List ℕ → List (List ℕ) → List (List ℕ)
verdict name value fault row =
    member name value ∷ fields (words fault) (codes "arguments") row

abbrev pub verdict_members : List ℕ → List (List ℕ) → List (List ℕ)
verdict_members key row =
    if bytes_eq key (codes "fits") then member (codes "fits") (codes "true") ∷ []
    else (if bytes_eq key (codes "misfit")
    then verdict (codes "fits") (codes "false") (codes "misfit") row
    else (if bytes_eq key (codes "accepted") then member (codes "accepted") (codes "true") ∷ []
    else (if bytes_eq key (codes "rejected:")
    then verdict (codes "accepted") (codes "false") (codes "reason") row else [])))

-- the value that stands behind its name
abbrev pub named_value : List (List ℕ) → List (List ℕ)
named_value [] = []
named_value (name ∷ []) = []
named_value (name ∷ value ∷ more) = member name value ∷ []

-- a line by its key, its other words and those of the next line
abbrev pub keyed_members : List ℕ → List (List ℕ) → List (List ℕ) → List (List ℕ)
keyed_members key row next =
    if is_plain_key key then member key (said row) ∷ []
    else (if bytes_eq key (codes "bound") || bytes_eq key (codes "offered")
    then bounding_members key row
    else (if bytes_eq key (codes "cert") then answer_certificate row
    else (if is_bound_kind key row then certificate key (bound_list key) row next ∷ []
    else (if bytes_eq key (codes "measure") then named_value row
    else verdict_members key row))))

-- a line, and the one that comes next
unfoldable pub line_members : List (List ℕ) → List (List ℕ) → List (List ℕ)
line_members [] next = []
line_members (key ∷ row) next = keyed_members key row next
