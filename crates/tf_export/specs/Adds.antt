-- What is added to an object or an array of which a part is written.
use Rattle.std.specs.Prelude.{◌≡◌, ℕ, Bool, true, false, ◌&&◌, List, [], ◌∷◌, ◌++◌, if◌then◌else◌}
use Rattle.tf_export.specs.declared.json.Json.{Json}

-- a comma, unless what follows is the first
abbrev pub comma : Bool → List ℕ
comma first = if first then [] else 44 ∷ []

-- values or members, each behind a comma but for a first one
unfoldable pub listed : Bool → List (List ℕ) → List ℕ
listed first [] = []
listed first (item ∷ items) = comma first ++ (item ++ listed false items)

abbrev pub is_none : List (List ℕ) → Bool
is_none [] = true
is_none (item ∷ items) = false

-- these values or members were added
pub record Adds (old new : Json) (items : List (List ℕ)) : Type 0 where
  pub text : new.text.items ≡ old.text.items ++ listed old.is_first items
  pub first : new.is_first ≡ (old.is_first && is_none items)
