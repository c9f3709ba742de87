-- What the lines of a plan say, as members of a JSON object.
use Rattle.std.specs.Prelude.{ℕ, List, [], ◌∷◌, ◌++◌, codes, drop, if◌then◌else◌}
use Rattle.std.specs.Str.{bytes_eq}
use Rattle.tf_words.specs.Words.{first_is}
use Rattle.tf_export.specs.Json.{member}
use Rattle.tf_export.specs.Members.{said, certificate, bound_list, is_bound_kind, line_members}

-- the value and the certificate of a bound
abbrev pub bound_members : List (List ℕ) → List (List ℕ) → List (List ℕ)
bound_members [] next = []
bound_members (key ∷ row) next =
    if bytes_eq key (codes "value") then member (codes "bound") (said row) ∷ []
    else (if is_bound_kind key row then certificate key (bound_list key) row next ∷ [] else [])

-- a line of an answer, but for its certificate
abbrev pub uncertified : List (List ℕ) → List (List ℕ) → List (List ℕ)
uncertified line next = if first_is (codes "cert") line then [] else line_members line next

-- A line of a plan that has its gap and its bound in comments, each line of the bound in one. The
-- plan's own certificate shows nothing.
abbrev pub open_in : List (List ℕ) → List (List ℕ) → List (List ℕ)
open_in line next =
    if first_is (codes "##") line then line_members (drop 1 line) []
    else (if first_is (codes "#") line then bound_members (drop 1 line) (drop 1 next)
    else uncertified line next)

-- the gap and the bound of an answer that a solver has found: its value is the optimum
abbrev pub optimum : List (List ℕ) → List (List ℕ)
optimum line =
    if first_is (codes "value") line
    then member (codes "gap") (codes "0") ∷ member (codes "bound") (said (drop 1 line)) ∷ []
    else []

-- a line of such an answer
abbrev pub solved_in : List (List ℕ) → List (List ℕ) → List (List ℕ)
solved_in line next = line_members line next ++ optimum line
