-- Texts in memory, by their names.
use Rattle.std.specs.Prelude.{ℕ, List, Option, None, Some, if◌then◌else◌}
use Rattle.std.specs.Str.{bytes_eq}
use Rattle.tf_command.specs.Unread.{Texts}
use Rattle.tf_held.specs.declared.held.Beside.{Beside}

-- texts beside instances: of answers or orders, and of bounds; each is empty where there are none
pub record BesideData : Type 0 where
  pub answers : List ℕ
  pub bounds : List ℕ

abbrev pub beside_of : Beside → BesideData
beside_of texts = record { answers = texts.answers.now; bounds = texts.bounds.now }

-- the bound by its name, if there is one, and the answer by every other name
abbrev pub named_beside : Option (List ℕ) → BesideData → List ℕ → List ℕ
named_beside None beside name = beside.answers
named_beside (Some bound) beside name =
    if bytes_eq name bound then beside.bounds else beside.answers

-- the instance by this name, and these texts by every other name
abbrev pub held_texts : List ℕ → List ℕ → Option (List ℕ) → BesideData → Texts
held_texts named instance bound beside name =
    Some (if bytes_eq name named then instance else named_beside bound beside name)
