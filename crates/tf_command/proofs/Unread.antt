-- Why a text is not read.
use Rattle.std.proofs.Common.{◌≡◌, ◌<◌, ℕ, List, length, Option, Some, None, IfSome, refl, subst, inl, inr}
use Rattle.tf_model.specs.Limit.{most_bytes}
use Rattle.tf_text.specs.declared.input.InputFault.{InputFault}
use Rattle.tf_text.specs.declared.input.InputFault.TheVariants as inputs
use Rattle.tf_engine.specs.Passed.{of_input}
use Rattle.tf_command.specs.Unread.{Texts}
use Rattle.tf_command.specs.Unread.{IsNotRead}

known_long : (known given : Option (List ℕ)) → IfSome known (λ text. given ≡ Some text)
    → IfSome given (λ all. most_bytes < length all) → IfSome known (λ all. most_bytes < length all)
known_long None given is long = tt
known_long (Some text) given is long = subst (λ g. IfSome g (λ all. most_bytes < length all)) is long

pub not_read : (texts : Texts) (name : List ℕ) (given : Option (List ℕ)) (fault : InputFault)
    → IfSome (texts name) (λ text. given ≡ Some text)
    → (fault ≡ inputs.TooLong → IfSome given (λ all. most_bytes < length all))
    → IsNotRead texts (of_input fault)
not_read texts name given inputs.Device is long = inl refl
not_read texts name given inputs.OutOfMemory is long = inr (inl refl)
not_read texts name given inputs.TooLong is long =
    inr (inr (refl, (name, known_long (texts name) given is (long refl))))
