-- Conditions of which one or none holds.
use Rattle.std.proofs.Common.{◌≡◌, ◌||◌, Bool, true, false, not, Some, None, refl, sym, ap, ◌∙◌, inl, inr, subst}
use Rattle.tf_bound.specs.Faulted.{too_large, IsFaultOrNoMemory}
use Rattle.tf_bound.specs.declared.fault.BoundFault.{BoundFault}
use Rattle.tf_bound.specs.declared.fault.BoundFault.TheVariants.{TooLarge}

pub or_none : (a b : Bool) → a ≡ false → b ≡ false → (a || b) ≡ false
or_none a b h none = ap (λ t. t || b) h ∙ none

pub or_first : (a b : Bool) → a ≡ true → (a || b) ≡ true
or_first a b h = ap (λ t. t || b) h

pub or_second : (a b : Bool) → b ≡ true → (a || b) ≡ true
or_second true b h = refl
or_second false b h = h

pub is_large : (b : Bool) → b ≡ true → too_large b ≡ Some TooLarge
is_large b h = ap too_large h

pub not_large : (b : Bool) → b ≡ false → too_large b ≡ None
not_large b h = ap too_large h

-- neither of two conditions holds
pub both_small : (a b : Bool) → true ≡ not a → too_large b ≡ None → too_large (a || b) ≡ None
both_small true b h small = cc
both_small false b h small = small

-- no condition holds
pub is_small : (b : Bool) → too_large b ≡ None → b ≡ false
is_small true h = absurd (some_fault h)
  where
    some_fault : too_large true ≡ None → ⊥
    some_fault e = cc
is_small false h = refl

-- what is answered where another condition holds, which has this as well
pub wide_by : (a b : Bool) (e : BoundFault) → (a ≡ true → b ≡ true)
    → IsFaultOrNoMemory (too_large a) e → IsFaultOrNoMemory (too_large b) e
wide_by true b e as_well h = subst (λ t. IsFaultOrNoMemory (too_large t) e) (sym (as_well refl)) h
wide_by false b e as_well (inl memory) = inl memory
wide_by false b e as_well (inr is) = absurd (no_fault e is)
  where
    no_fault : (e : BoundFault) → None ≡ Some e → ⊥
    no_fault e h = cc
