-- Up to the first element that passes, and from it on.
use Rattle.std.proofs.Common.{◌≡◌, ℕ, suc, Bool, false, List, ◌∷◌, take, drop, ap, ◌∙◌, arith}
use Rattle.std.specs.List.{before_first, position_or_len}
use Rattle.tf_read.specs.JobTable.{since_first}

later : {X : Type 0} (p : X → Bool) (x : X) (xs : List X) → p x ≡ false
    → position_or_len p (x ∷ xs) ≡ suc (position_or_len p xs)
later p x xs e = rw e (omega arith)

pub before_no : {X : Type 0} (p : X → Bool) (x : X) (xs all : List X) → all ≡ x ∷ xs → p x ≡ false
    → before_first p all ≡ x ∷ before_first p xs
before_no p x xs all same e = ap (before_first p) same
    ∙ ap (λ (n : ℕ). take n (x ∷ xs)) (later p x xs e)

pub from_no : {X : Type 0} (p : X → Bool) (x : X) (xs all : List X) → all ≡ x ∷ xs → p x ≡ false
    → since_first p all ≡ since_first p xs
from_no p x xs all same e = ap (since_first p) same
    ∙ ap (λ (n : ℕ). drop n (x ∷ xs)) (later p x xs e)
