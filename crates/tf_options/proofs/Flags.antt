-- Flags of the command line.
use Rattle.std.proofs.Common.{◌≡◌, ℕ, Bool, true, false, List, Some, None, codes, sym, ◌∙◌, inl, inr}
use Rattle.std.proofs.lemmas.Bool.{true≢false}
use Rattle.tf_options.specs.FormatAsked.{IsGiven, IsMissing, Values}

module _ (given : Values) (id : List ℕ) (flag : Bool) where
  -- a flag that is missing is not set
  pub unset : (given id ≡ None → flag ≡ false) → (given id ≡ Some (codes "false") → flag ≡ false)
      → flag ≡ true → IsMissing given id → ⊥
  unset none other is (inl off) = true≢false (sym is ∙ other off)
  unset none other is (inr off) = true≢false (sym is ∙ none off)

  -- and one that is given is set
  pub set : (given id ≡ Some (codes "true") → flag ≡ true) → flag ≡ false → IsGiven given id → ⊥
  set value is on = true≢false (sym (value on) ∙ is)
