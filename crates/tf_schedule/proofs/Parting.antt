-- Pieces that are parted by a test.
use Rattle.std.proofs.Common.{◌≡◌, ◌+◌, true, false, List, [], ◌++◌, filter, refl, sym, ap, subst, ◌∙◌}
use Rattle.std.proofs.lemmas.List.Sorted.{IsPermutation-filter_both}
use Rattle.std.specs.List.Sorted.{IsPermutation}
use Rattle.tf_schedule.specs.MachinePart.{is_in_part}
use Rattle.tf_schedule.specs.declared.piece.Piece.{Piece}

-- both parts are all pieces
pub parts_permute : (pieces first both : List Piece)
    → first ≡ [] ++ filter (is_in_part true) pieces
    → both ≡ first ++ filter (is_in_part false) pieces → IsPermutation pieces both
parts_permute pieces first both on_first others =
    subst (IsPermutation pieces)
    (sym (others ∙ ap (λ xs. xs ++ filter (is_in_part false) pieces) on_first))
    (IsPermutation-filter_both (is_in_part true) (is_in_part false) (λ p. refl) pieces)
