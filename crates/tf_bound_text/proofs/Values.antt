-- A loop's step over the words of a line that are values.
use Rattle.std.proofs.Common.{◌≡◌, ℕ, ℤ, List, [], ◌∷◌, ◌++◌, Result, Ok, Err, refl, sym, ap, subst, ◌∙◌, append_assoc}
use Rattle.std.proofs.lemmas.List.{append-nil}
use Rattle.tf_model.specs.Outcome.{◌>>=◌}
use Rattle.tf_bound_text.specs.declared.fault.BoundTextFault.{BoundTextFault}
use Rattle.tf_bound_text.specs.BoundReading.{Fails, value_in, values}
use Rattle.tf_bound_text.proofs.Naturals.{fails_then}

-- values that are read, and then those that reading gives
abbrev pub with_values : List ℤ → Result (List ℤ) BoundTextFault → Result (List ℤ) BoundTextFault
with_values front read = read >>= λ values. Ok (front ++ values)

-- a value before values
one_more : (front : List ℤ) (value : ℤ) (read : Result (List ℤ) BoundTextFault)
    → with_values front (read >>= λ values. Ok (value ∷ values))
    ≡ with_values (front ++ value ∷ []) read
one_more front value (Ok values) =
    ap (λ ns. Ok ns) (sym (append_assoc front (value ∷ []) values))
one_more front value (Err e) = refl

module _ (line : ℕ) (front : List ℤ) where
  -- the loop's step: the value of one word more
  pub value_read : (value : ℤ) (word : List ℕ) (all more : List (List ℕ)) → all ≡ word ∷ more
      → value_in line word ≡ Ok value
      → with_values front (values line all) ≡ with_values (front ++ value ∷ []) (values line more)
  unfolding values
  value_read value word all more is read =
      ap (λ ws. with_values front (values line ws)) is
      ∙ ap (λ r. with_values front
      (r >>= λ n. values line more >>= λ values. Ok (n ∷ values))) read
      ∙ one_more front value (values line more)

  -- a fault of a word is one of the list
  pub value_fails : (word : List ℕ) (all more : List (List ℕ)) (e : BoundTextFault)
      (total : Result (List ℤ) BoundTextFault)
      → with_values front (values line all) ≡ total → all ≡ word ∷ more
      → Fails e (value_in line word) → Fails e total
  unfolding values
  value_fails word all more e total same is fails =
      subst (Fails e)
      (sym (ap (λ ws. with_values front (values line ws)) is) ∙ same)
      (fails_then e (values line (word ∷ more)) (λ values. Ok (front ++ values))
      (fails_then e (value_in line word)
      (λ n. values line more >>= λ values. Ok (n ∷ values)) fails))

  pub values_end : (all : List (List ℕ)) → all ≡ [] → with_values front (values line all) ≡ Ok front
  unfolding values
  values_end all is = ap (λ ws. with_values front (values line ws)) is
      ∙ ap (λ values. Ok values) (append-nil front)
