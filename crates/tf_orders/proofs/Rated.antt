-- What is written of the schedules of orders.
use Rattle.std.proofs.Common.{◌≡◌, ℕ, [], ◌∷◌, ◌++◌, List, append_assoc}
use Rattle.std.specs.List.{flat_map}
use Rattle.tf_text.specs.AnswerText.{line_text}
use Rattle.tf_text.proofs.Written.{joined}

-- a line of a value, its gap and other words
pub row_written : (t0 t1 t2 t3 value gap : List ℕ) (words : List (List ℕ))
    → t1 ≡ t0 ++ (value ++ 32 ∷ gap) → t2 ≡ t1 ++ flat_map (λ word. 32 ∷ word) words
    → t3 ≡ t2 ++ 10 ∷ [] → t3 ≡ t0 ++ line_text (value ∷ gap ∷ words)
row_written t0 t1 t2 t3 value gap words e1 e2 e3 =
    rw (e3, e2, e1, joined value (gap ∷ words)) (simp append_assoc)
