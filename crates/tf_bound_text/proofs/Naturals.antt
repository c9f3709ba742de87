-- A loop's step over the words of a line.
use Rattle.std.proofs.Common.{◌≡◌, ℕ, List, [], ◌∷◌, ◌++◌, Result, Ok, Err, refl, sym, ap, subst, ◌∙◌, append_assoc}
use Rattle.std.proofs.lemmas.List.{append-nil}
use Rattle.tf_model.specs.Outcome.{◌>>=◌}
use Rattle.tf_model.proofs.Outcomes
use Rattle.tf_bound_text.specs.declared.fault.BoundTextFault.{BoundTextFault}
use Rattle.tf_bound_text.specs.BoundReading.{fault_in, Fails, natural, naturals}

-- a fault of a step is one of what begins with it
pub fails_then : {A B : Type 0} (e : BoundTextFault) (r : Result A BoundTextFault)
    (f : A → Result B BoundTextFault)
    → Fails e r → Fails e (r >>= f)
fails_then e r f h = Outcomes.fails_then (fault_in e) r f h

-- numbers that are read, and then those that reading gives
abbrev pub with_numbers : List ℕ → Result (List ℕ) BoundTextFault → Result (List ℕ) BoundTextFault
with_numbers front read = read >>= λ numbers. Ok (front ++ numbers)

pub no_numbers : (read : Result (List ℕ) BoundTextFault) → with_numbers [] read ≡ read
no_numbers (Ok numbers) = refl
no_numbers (Err e) = refl

-- a number before numbers
one_more : (front : List ℕ) (number : ℕ) (read : Result (List ℕ) BoundTextFault)
    → with_numbers front (read >>= λ numbers. Ok (number ∷ numbers))
    ≡ with_numbers (front ++ number ∷ []) read
one_more front number (Ok numbers) =
    ap (λ ns. Ok ns) (sym (append_assoc front (number ∷ []) numbers))
one_more front number (Err e) = refl

module _ (line least most : ℕ) (front : List ℕ) where
  -- the loop's step: the number of one word more
  pub number_read : (number : ℕ) (word : List ℕ) (all more : List (List ℕ)) → all ≡ word ∷ more
      → natural line least most word ≡ Ok number
      → with_numbers front (naturals line least most all)
      ≡ with_numbers (front ++ number ∷ []) (naturals line least most more)
  unfolding naturals
  number_read number word all more is read =
      ap (λ ws. with_numbers front (naturals line least most ws)) is
      ∙ ap (λ r. with_numbers front
      (r >>= λ n. naturals line least most more >>= λ numbers. Ok (n ∷ numbers))) read
      ∙ one_more front number (naturals line least most more)

  -- a fault of a word is one of the list
  pub number_fails : (word : List ℕ) (all more : List (List ℕ)) (e : BoundTextFault)
      (total : Result (List ℕ) BoundTextFault)
      → with_numbers front (naturals line least most all) ≡ total → all ≡ word ∷ more
      → Fails e (natural line least most word) → Fails e total
  unfolding naturals
  number_fails word all more e total same is fails =
      subst (Fails e)
      (sym (ap (λ ws. with_numbers front (naturals line least most ws)) is) ∙ same)
      (fails_then e (naturals line least most (word ∷ more)) (λ numbers. Ok (front ++ numbers))
      (fails_then e (natural line least most word)
      (λ n. naturals line least most more >>= λ numbers. Ok (n ∷ numbers)) fails))

  pub numbers_end : (all : List (List ℕ)) → all ≡ []
      → with_numbers front (naturals line least most all) ≡ Ok front
  unfolding naturals
  numbers_end all is = ap (λ ws. with_numbers front (naturals line least most ws)) is
      ∙ ap (λ numbers. Ok numbers) (append-nil front)
