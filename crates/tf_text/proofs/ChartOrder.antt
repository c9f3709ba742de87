-- A chart does not depend on the order of the pieces.
use Rattle.std.proofs.Common.{◌≡◌, ℕ, List, [], ◌∷◌, ◌++◌, map, codes, decimal, min, refl, ap, ◌∙◌}
use Rattle.std.specs.List.{range_with_len, flat_map}
use Rattle.std.specs.List.Sorted.{IsPermutation}
use Rattle.tf_schedule.specs.declared.piece.Piece.{Piece}
use Rattle.tf_schedule.specs.Schedule.{NoneTwice}
use Rattle.tf_schedule.specs.Drawing.{job_at, greatest_stop}
use Rattle.tf_schedule.proofs.Permuted.{job_at_permutation, greatest_stop_permutation, map_same}
use Rattle.tf_text.specs.Chart.{column_time, cell_sign, cell_signs, machine_line, length_line, chart_text}

flat_map_same : (f g : ℕ → List ℕ) → ((x : ℕ) → f x ≡ g x) → (xs : List ℕ)
    → flat_map f xs ≡ flat_map g xs
flat_map_same f g h [] = refl
flat_map_same f g h (x ∷ xs) = ap (λ y. y ++ flat_map f xs) (h x)
    ∙ ap (λ ys. g x ++ ys) (flat_map_same f g h xs)

module _ (ps qs : List Piece) (once : NoneTwice ps) (same : IsPermutation ps qs) where
  cells_same : (columns machine : ℕ) → cell_signs qs columns machine ≡ cell_signs ps columns machine
  cells_same columns machine =
      ap (λ n. map (λ c. cell_sign (job_at qs machine (column_time n columns c)))
      (range_with_len 0 (min n columns))) (greatest_stop_permutation ps qs same)
      ∙ map_same (λ c. cell_sign (job_at qs machine (column_time (greatest_stop ps) columns c)))
      (λ c. cell_sign (job_at ps machine (column_time (greatest_stop ps) columns c)))
      (λ c. ap cell_sign
      (job_at_permutation ps qs machine (column_time (greatest_stop ps) columns c) once same))
      (range_with_len 0 (min (greatest_stop ps) columns))

  -- pieces in another order have the same chart
  pub chart_permutation : (machines columns : ℕ)
      → chart_text qs machines columns ≡ chart_text ps machines columns
  unfolding chart_text
  chart_permutation machines columns =
      ap (λ n. (codes "length " ++ decimal n ++ codes "\n")
      ++ flat_map (machine_line qs columns) (range_with_len 1 machines))
      (greatest_stop_permutation ps qs same)
      ∙ ap (λ xs. length_line ps ++ xs)
      (flat_map_same (machine_line qs columns) (machine_line ps columns)
      (λ i. ap (λ xs. codes "machine " ++ decimal i ++ codes " |" ++ xs ++ codes "|\n")
      (cells_same columns i)) (range_with_len 1 machines))
