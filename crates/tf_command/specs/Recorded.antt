-- What a source that keeps what it gave has kept.
use Rattle.std.specs.Prelude.{◌≡◌, ℕ, List, ◌++◌, Option, None, Some}
use Rattle.std.specs.Option.{option_map}
use Rattle.tf_command.specs.declared.recorded.Recorded.{Recorded}

-- the bytes that are kept, if they are
abbrev pub kept_of : {R : Type 0} → Recorded R → Option (List ℕ)
kept_of r = option_map (λ v. v.items) r.kept

-- what is kept grows by these bytes, or is kept no longer
abbrev pub KeepsMore : Option (List ℕ) → Option (List ℕ) → List ℕ → Type 0
KeepsMore None new bytes = new ≡ None
KeepsMore (Some old) None bytes = Unit {0}
KeepsMore (Some old) (Some new) bytes = new ≡ old ++ bytes

-- the bytes that the source has still to give, as its own reader says it
abbrev pub bytes_left : {R : Type 0} → (R → Option (List ℕ)) → Recorded R → Option (List ℕ)
bytes_left remaining r = remaining r.inner
