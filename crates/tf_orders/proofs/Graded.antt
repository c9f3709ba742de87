-- Lines of hand-ins, with a label or without.
use Rattle.std.proofs.Common.{◌≡◌, ℕ, ◌+◌, List, [], ◌∷◌, ◌++◌, None, Some, take, drop, refl}
use Rattle.std.specs.List.{position}
use Rattle.tf_orders.specs.declared.measure.Measure.{Measure}
use Rattle.tf_orders.specs.OrderText.{IsGraded, IsGradedOrder, is_colon, spaced}

module _ {A : Type 0} (m : Measure A) (text row : List ℕ) where
  pub graded_plain : position is_colon text ≡ None → IsGradedOrder m (spaced text) row
      → IsGraded m text row
  graded_plain none graded = record { order = row; graded = rw none graded; labelled = rw none refl }

  pub graded_labelled : (place : ℕ) → position is_colon text ≡ Some place
      → IsGradedOrder m (spaced (drop (place + 1) text)) row
      → IsGraded m text ((take (place + 1) text ++ 32 ∷ []) ++ row)
  graded_labelled place some graded =
      record { order = row; graded = rw some graded; labelled = rw some refl }
