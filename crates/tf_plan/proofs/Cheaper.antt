-- Where neither of two plans is there, the second is not.
use Rattle.std.proofs.Common.{Option, None, Some}
use Rattle.std.specs.Prelude.{IfSome, MatchOption}

pub none_left : {X : Type 0} (D : Type 0) (P : X → Type 0) (found : Option X) → MatchOption found D P
    → IfSome found (λ x. ⊥) → D
none_left D P None there never = there
none_left D P (Some x) there never = absurd never
