-- What lines and words say.
use Rattle.std.proofs.Common.{◌≡◌, ℕ, true, false, eqb, List, [], Option, ◌∷◌, ◌++◌, length, map, drop, codes, refl, sym, ap, ◌∙◌, arith}
use Rattle.std.specs.List.{flat_map}
use Rattle.std.specs.Str.{bytes_eq}
use Rattle.std.proofs.lemmas.Bool.{true≢false}
use Rattle.std.proofs.lemmas.Grind.{flat_map-append}
use Rattle.tf_words.specs.Words.{words, lines, first_is}
use Rattle.tf_words.proofs.Lines.{line_none}
use Rattle.tf_export.specs.Csv.{csv_line, column_names, row_key}
use Rattle.tf_export.specs.declared.csv.Table.{Table}
use Rattle.tf_export.specs.Json.{array, scalar, member, object, heading}
use Rattle.tf_export.specs.Members.{arc_members, phrase, fields, rest_members, row_in, rows, verdict_members}
use Rattle.tf_export.specs.Lines.{first_of}
use Rattle.tf_export.specs.Documents.{part_in, parts, step_in}
use Rattle.tf_export.specs.declared.documents.Part.{Part}
use Rattle.tf_export.specs.Faults.{explanation, fault, first_line, behind_line, fault_members, fault_json}

-- a word by its name, and the others
pub fields_next : (names more row others : List (List ℕ)) (rest name word : List ℕ)
    → names ≡ name ∷ more → row ≡ word ∷ others
    → fields names rest row ≡ (member name (scalar word) ∷ []) ++ fields more rest others
unfolding fields
fields_next names more row others rest name word names-is row-is = rw (names-is, row-is) refl

pub fields_out : (names more row : List (List ℕ)) (rest name : List ℕ)
    → names ≡ name ∷ more → row ≡ [] → fields names rest row ≡ []
unfolding fields
fields_out names more row rest name names-is row-is = rw (names-is, row-is) refl

pub fields_rest : (names row : List (List ℕ)) (rest : List ℕ) → names ≡ []
    → fields names rest row ≡ rest_members rest row
unfolding fields
fields_rest names row rest is = rw is refl

pub rest_none : (name : List ℕ) (row : List (List ℕ)) → length name ≡ 0
    → rest_members name row ≡ []
rest_none [] row is = refl
rest_none (letter ∷ letters) row is = absurd (omega (arith, is))

pub explanation_none : (text : List ℕ) → length text ≡ 0 → explanation text ≡ []
explanation_none [] is = refl
explanation_none (byte ∷ bytes) is = absurd (omega (arith, is))

-- the rows of a text, by its first line
rows_next : (key names text line rest : List ℕ) → lines text ≡ line ∷ lines rest
    → rows key names text ≡ row_in key (length (words names)) (words line) ++ rows key names rest
rows_next key names text line rest is =
    ap (flat_map (λ l. row_in key (length (words names)) (words l))) is

pub rows_none : (key names text : List ℕ) → length text ≡ 0 → rows key names text ≡ []
rows_none key names text is =
    ap (flat_map (λ l. row_in key (length (words names)) (words l))) (line_none text is)

-- a row by the names and the key of a table
pub same_row : (table : Table) (key names : List ℕ) → key ≡ row_key table → (count : ℕ)
    → names ≡ column_names table → count ≡ length (words names) → (line : List (List ℕ))
    → row_in (row_key table) (length (words (column_names table))) line ≡ row_in key count line
same_row table key names key-is count names-is count-is line =
    rw (key-is, count-is, names-is) refl

pub csv_next : (key names text line rest : List ℕ) (count : ℕ) → count ≡ length (words names)
    → lines text ≡ line ∷ lines rest
    → flat_map csv_line (rows key names text)
    ≡ flat_map csv_line (row_in key count (words line)) ++ flat_map csv_line (rows key names rest)
csv_next key names text line rest count is-count is =
    ap (flat_map csv_line) (rows_next key names text line rest is)
    ∙ flat_map-append csv_line (row_in key (length (words names)) (words line))
    (rows key names rest)
    ∙ ap (λ (n : ℕ). flat_map csv_line (row_in key n (words line))
    ++ flat_map csv_line (rows key names rest)) (sym is-count)

pub step_none : (row : List (List ℕ)) → first_is (codes "step") row ≡ false → step_in row ≡ []
step_none [] is = refl
step_none (key ∷ row) is = rw is refl

pub step_some : (line row : List (List ℕ)) → first_is (codes "step") line ≡ true
    → row ≡ drop 1 line → phrase row ∷ [] ≡ step_in line
step_some [] row is row-is = absurd (true≢false (sym is))
step_some (key ∷ others) row is row-is = rw (is, row-is) refl

-- what is taken of lines, by the first one
pub parts_next : (part : Part) (text line rest : List ℕ) → lines text ≡ line ∷ lines rest
    → parts part (lines text) ≡ part_in part line (first_of (lines rest)) ++ parts part (lines rest)
unfolding parts
parts_next part text line rest is = rw is refl

pub parts_none : (part : Part) (text : List ℕ) → length text ≡ 0 → parts part (lines text) ≡ []
unfolding parts
parts_none part text is = rw (line_none text is) refl

-- the numerators of the arcs
pub no_arcs : (kind : List ℕ) (next : List (List ℕ)) → bytes_eq kind (codes "multipliers") ≡ false
    → arc_members kind next ≡ []
no_arcs kind next is = rw is refl

pub arcs_none : (kind : List ℕ) (next : List (List ℕ)) → bytes_eq kind (codes "multipliers") ≡ true
    → first_is (codes "arcs") next ≡ false → arc_members kind next ≡ []
arcs_none kind next is none = rw (is, none) refl

pub arcs_some : (kind : List ℕ) (next row : List (List ℕ))
    → bytes_eq kind (codes "multipliers") ≡ true → first_is (codes "arcs") next ≡ true
    → row ≡ drop 1 next
    → member (codes "arcs") (array (map scalar row)) ∷ [] ≡ arc_members kind next
arcs_some kind next row is some same = rw (is, some, same) refl

pub verdict_none : (key : List ℕ) (row : List (List ℕ)) → bytes_eq key (codes "fits") ≡ false
    → bytes_eq key (codes "misfit") ≡ false → bytes_eq key (codes "accepted") ≡ false
    → bytes_eq key (codes "rejected:") ≡ false → verdict_members key row ≡ []
verdict_none key row e1 e2 e3 e4 = rw (e1, e2, e3, e4) refl

pub unfaulted : (text line : List ℕ) → line ≡ first_line text
    → first_is (codes "threefield:") (words line) ≡ false
    → explanation text ≡ fault_members text
unfolding fault_members
unfaulted text line line-is is =
    let none : first_is (codes "threefield:") (words (first_line text)) ≡ false =
    ap (λ (l : List ℕ). first_is (codes "threefield:") (words l)) (sym line-is) ∙ is in
    rw none refl

pub faulted : (text line rest : List ℕ) (row : List (List ℕ)) → line ≡ first_line text
    → rest ≡ behind_line text → first_is (codes "threefield:") (words line) ≡ true
    → row ≡ drop 1 (words line) → fault row ++ explanation rest ≡ fault_members text
unfolding fault_members
faulted text line rest row line-is rest-is is row-is =
    let some : first_is (codes "threefield:") (words (first_line text)) ≡ true =
    ap (λ (l : List ℕ). first_is (codes "threefield:") (words l)) (sym line-is) ∙ is in
    let words-is : row ≡ drop 1 (words (first_line text)) =
    row-is ∙ ap (λ (l : List ℕ). drop 1 (words l)) line-is in
    rw (some, words-is, rest-is) refl

pub unsaid : (instance : Option ℕ) (text : List ℕ) → length text ≡ 0 → fault_json instance text ≡ []
unfolding fault_json
unsaid instance [] is = refl
unsaid instance (byte ∷ bytes) is = absurd (omega (arith, is))

pub is_said : (instance : Option ℕ) (text : List ℕ) → eqb (length text) 0 ≡ false
    → fault_json instance text ≡ object (heading instance ++ fault_members text) ++ 10 ∷ []
unfolding fault_json
is_said instance [] is = absurd (true≢false is)
is_said instance (byte ∷ bytes) is = refl
