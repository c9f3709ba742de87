-- The first of which a condition does not hold, told by another condition.
use Rattle.std.proofs.Common.{◌≡◌, ℕ, zero, suc, ◌≤◌, List, [], ◌∷◌, get_or, take, slice_get, Some, subst, arith}
use Rattle.std.specs.List.{All}
use Rattle.std.proofs.lemmas.List.Elements.{All-take, All-tail}
use Rattle.tf_schedule.specs.Misfit.{IsSmallestNot, IsFirstNot}

module _ (n : ℕ) (P Q : ℕ → Type 0) (to : (j : ℕ) → 1 ≤ j → j ≤ n → P j → Q j) where
  pub smallest_by : ((j : ℕ) → 1 ≤ j → j ≤ n → Q j → P j) → (j : ℕ) → IsSmallestNot n P j
      → IsSmallestNot n Q j
  smallest_by from j first = record {
    job = first.job;
    fails = λ holds. first.fails (from j first.job.0 first.job.1 holds);
    smaller = λ h low less. to h low (omega (arith, first.job.1)) (first.smaller h low less);
  }

-- what holds of each element holds of the one at a place
pub element : {X : Type 0} (R : X → Type 0) (xs : List X) (i : ℕ) (x : X) → All R xs
    → slice_get xs i ≡ Some x → R x
element R [] i x all e = absurd (cc)
element R (y ∷ ys) zero x all e = let same : y ≡ x = cc in subst R same (all 0 y (omega arith))
element R (y ∷ ys) (suc i) x all e = element R ys i x (All-tail R y ys all) e

module _ {X : Type 0} (R P Q : X → Type 0) (xs : List X) (all : All R xs)
    (to : (x : X) → R x → P x → Q x) where
  pub all_by : All P xs → All Q xs
  all_by holds i d h = to (get_or xs i d) (all i d h) (holds i d h)

  pub first_by : ((x : X) → R x → Q x → P x) → (x : X) → IsFirstNot P xs x → IsFirstNot Q xs x
  first_by from x first = record {
    place = first.place;
    before = λ i d h. to (get_or (take first.place xs) i d) (All-take R first.place xs all i d h)
        (first.before i d h);
    here = first.here;
    fails = λ holds. first.fails (from x (element R xs first.place x all first.here) holds);
  }
