-- Steps that end at the first fault.
use Rattle.std.proofs.Common.{◌≡◌, Option, None, Some, Result, Ok, Err, refl, ap, ◌∙◌}
use Rattle.tf_model.specs.Outcome.{◌>>=◌, IsFault}

-- what a step that did not fail gave
pub bind_ok : {A B E : Type 0} (r : Result A E) (f : A → Result B E) (y : B) → (r >>= f) ≡ Ok y
    → (x : A) × (r ≡ Ok x) × (f x ≡ Ok y)
bind_ok (Ok x) f y h = (x, refl, h)
bind_ok (Err e) f y h = cc

-- a fault stays one behind a function that hands faults on
pub fails_through : {A B F : Type 0} (o : Option F) (r : Result A F) (f : Result A F → Result B F)
    → ((d : F) → f (Err d) ≡ Err d) → IsFault o r → IsFault o (f r)
fails_through None r f on h = tt
fails_through (Some e) r f on h = ap f h ∙ on e

-- a fault of a step is one of what begins with it
pub fails_then : {A B F : Type 0} (o : Option F) (r : Result A F) (f : A → Result B F) → IsFault o r
    → IsFault o (r >>= f)
fails_then o r f h = fails_through o r (λ x. x >>= f) (λ d. refl) h
