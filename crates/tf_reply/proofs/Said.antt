-- A line that was written to an empty vector is all that it holds.
use Rattle.std.proofs.Common.{◌≡◌, ℕ, List, [], ◌++◌, Some, false, ap, ◌∙◌}
use Rattle.std.specs.declared.vec.Vec.{Vec}
use Rattle.tf_text.specs.declared.counted.Counted.{Counted}
use Rattle.tf_text.specs.Counted.{inner_of, has_failed}
use Rattle.tf_command.specs.Wrote.{Wrote}

pub whole : {A : Type 0} (old new : Counted (Vec ℕ A)) (line : List ℕ)
    → Wrote (λ (v : Vec ℕ A). Some v.items) old new line → has_failed new ≡ false
    → (inner_of old).items ≡ [] → (inner_of new).items ≡ line
whole old new line wrote unfailed blank =
    wrote.written unfailed ∙ ap (λ (xs : List ℕ). xs ++ line) blank
