-- What the lines of lists say: of problems, of marks and of orders.
use Rattle.std.proofs.Common.{◌≡◌, ℕ, true, false, List, [], ◌∷◌, codes, drop, refl}
use Rattle.tf_words.specs.Words.{first_is}
use Rattle.tf_export.specs.Json.{member}
use Rattle.tf_export.specs.Members.{named_value, phrase}
use Rattle.tf_export.specs.Documents.{command_member, mark_in}

pub command_some : (row : List (List ℕ)) → first_is (codes "-") row ≡ false
    → (member (codes "command") (phrase row) ∷ []) ≡ (command_member row ∷ [])
command_some row is = rw is refl

pub command_none : (row : List (List ℕ)) → first_is (codes "-") row ≡ true
    → (member (codes "command") (codes "null") ∷ []) ≡ (command_member row ∷ [])
command_none row is = rw is refl

-- a line without a mark
pub unmarked : (line : List (List ℕ)) → first_is (codes "#") line ≡ false → mark_in line ≡ []
unmarked line is = rw is refl

pub marked : (line row : List (List ℕ)) → first_is (codes "#") line ≡ true → row ≡ drop 1 line
    → mark_in line ≡ named_value row
marked line row is row-is = rw (is, row-is) refl

pub value_missing : (row : List (List ℕ)) → row ≡ [] → named_value row ≡ []
value_missing row is = rw is refl

pub value_bare : (row more : List (List ℕ)) (name : List ℕ) → row ≡ name ∷ more → more ≡ []
    → named_value row ≡ []
value_bare row more name is none = rw (is, none) refl

pub value_whole : (row more others : List (List ℕ)) (name value : List ℕ) → row ≡ name ∷ more
    → more ≡ value ∷ others → named_value row ≡ member name value ∷ []
value_whole row more others name value is next = rw (is, next) refl
