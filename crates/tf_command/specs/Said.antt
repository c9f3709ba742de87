-- The words of a fault as it is kept to be written.
use Rattle.std.specs.Prelude.{ℕ, List, [], ◌∷◌}
use Rattle.std.specs.Fmt.{decimal, signed_decimal}
use Rattle.tf_command.specs.declared.report.Said.{Said as Fault}
use Rattle.tf_command.specs.declared.report.Said.TheVariants.{Name, One, Two, Field}

abbrev pub said_words : Fault → List (List ℕ)
said_words (Name name) = name.now ∷ []
said_words (One name number) = name.now ∷ decimal number ∷ []
said_words (Two name number time) = name.now ∷ decimal number ∷ signed_decimal time ∷ []
said_words (Field name number field) = name.now ∷ decimal number ∷ field.now ∷ []
