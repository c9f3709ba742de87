-- What the lines of a plan say, and what is not known.
use Rattle.std.proofs.Common.{◌≡◌, ℕ, true, false, List, [], ◌∷◌, ◌++◌, codes, drop, refl}
use Rattle.std.specs.Str.{bytes_eq}
use Rattle.tf_words.specs.Words.{first_is}
use Rattle.tf_export.specs.Json.{member}
use Rattle.tf_export.specs.Lines.{has_line}
use Rattle.tf_export.specs.Members.{bounding_members, is_bound_kind, is_number, line_members, phrase, said}
use Rattle.tf_export.specs.Members.{fault_name}
use Rattle.tf_export.specs.Plan.{bound_members, open_in, optimum, uncertified}
use Rattle.tf_export.specs.Documents.{unknown, unknown_member}

pub no_optimum : (line : List (List ℕ)) → first_is (codes "value") line ≡ false → optimum line ≡ []
no_optimum line is = rw is refl

pub an_optimum : (line row : List (List ℕ)) → first_is (codes "value") line ≡ true
    → row ≡ drop 1 line
    → (member (codes "gap") (codes "0") ∷ []) ++ (member (codes "bound") (said row) ∷ [])
    ≡ optimum line
an_optimum line row is same = rw (is, same) refl

-- a bound that is none
pub unbounding : (key : List ℕ) (row : List (List ℕ)) (name : List ℕ) → is_number row ≡ false
    → name ≡ fault_name key
    → (member key (codes "null") ∷ []) ++ (member name (phrase row) ∷ [])
    ≡ bounding_members key row
unbounding key row name is same = rw (is, same) refl

-- a line of a bound that has neither its value nor its certificate
pub unbound : (line next : List (List ℕ)) (key : List ℕ) (row : List (List ℕ)) → line ≡ key ∷ row
    → bytes_eq key (codes "value") ≡ false → is_bound_kind key row ≡ false
    → bound_members line next ≡ []
unbound line next key row line-is no-value no-kind = rw (line-is, no-value, no-kind) refl

-- a line of an answer, with and without the word of a certificate
pub certified : (line next : List (List ℕ)) → first_is (codes "cert") line ≡ true
    → uncertified line next ≡ []
certified line next is = rw is refl

pub not_certified : (line next : List (List ℕ)) → first_is (codes "cert") line ≡ false
    → line_members line next ≡ uncertified line next
not_certified line next is = rw is refl

-- a line of a plan with its gap
pub open_gap : (line next row : List (List ℕ)) → first_is (codes "##") line ≡ true
    → row ≡ drop 1 line → line_members row [] ≡ open_in line next
open_gap line next row is same = rw (is, same) refl

-- what is not known, name by name
pub unknown_next : (names more : List (List ℕ)) (name : List ℕ) (lines : List (List ℕ))
    → names ≡ name ∷ more → unknown names lines ≡ unknown_member name lines ++ unknown more lines
unfolding unknown
unknown_next names more name lines is = rw is refl

pub unknown_none : (names lines : List (List ℕ)) → names ≡ [] → unknown names lines ≡ []
unfolding unknown
unknown_none names lines is = rw is refl

pub is_known : (name : List ℕ) (lines : List (List ℕ)) → has_line name lines ≡ true
    → unknown_member name lines ≡ []
is_known name lines is = rw is refl
