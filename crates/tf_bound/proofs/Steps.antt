-- One step along a list.
use Rattle.std.proofs.Common.{◌≡◌, false, ℕ, ◌+◌, ◌-◌, ◌≤◌, ◌<◌, ◌==◌, List, [], ◌∷◌, ◌++◌, length, get_or, take, All, sum_by, sym, ap, ◌∙◌, subst, ⊎_elim, arith}
use Rattle.std.proofs.lemmas.Bool.{cases_lt}
use Rattle.std.proofs.lemmas.Bool.Decides.{nat_tests}
use Rattle.std.proofs.lemmas.List.{take_all, get_or_push, get_or_append_left}
use Rattle.std.proofs.lemmas.List.Elements.{All-more}
use Rattle.std.proofs.lemmas.List.Sums.{sum_by_more}
use Rattle.tf_problem.specs.ProblemBounds.{numerator}

pub all_next : {X : Type 0} (P : X → Type 0) (xs : List X) (i : ℕ) (x : X) → i < length xs
    → x ≡ get_or xs i x → All P (take i xs) → P x → All P (take (i + 1) xs)
all_next P xs i x lt is before here = All-more P xs i x lt before (subst P is here)

pub all_whole : {X : Type 0} (P : X → Type 0) (xs : List X) (i : ℕ) → length xs ≤ i
    → All P (take i xs) → All P xs
all_whole P xs i le h = subst (All P) (take_all i xs le) h

pub sum_next : {X : Type 0} (f : X → ℕ) (xs : List X) (i : ℕ) (x : X) → i < length xs
    → x ≡ get_or xs i x → sum_by f (take (i + 1) xs) ≡ sum_by f (take i xs) + f x
sum_next f xs i x lt is =
    sum_by_more f xs i x lt ∙ ap (λ y. sum_by f (take i xs) + f y) (sym is)

-- one numerator more
pub numerators_more : (P : ℕ → ℕ → Type 0) (xs : List ℕ) (x i j : ℕ) → length xs ≡ i → j ≡ i + 1
    → ((n : ℕ) → 1 ≤ n → n ≤ i → P n (numerator xs n)) → P j x
    → (n : ℕ) → 1 ≤ n → n ≤ i + 1 → P n (numerator (xs ++ x ∷ []) n)
numerators_more P xs x i j len is before here n low high =
    ⊎_elim
    (λ last.
    let same : j ≡ n = omega arith in
    let at : x ≡ numerator (xs ++ x ∷ []) n = sym (get_or_push xs x 0 (n - 1) (omega arith)) in
    subst (λ v. P n v) at (subst (λ m. P m x) same here))
    (λ early.
    subst (λ v. P n v) (sym (get_or_append_left xs (x ∷ []) 0 (n - 1) (omega arith)))
    (before n low early))
    (cases_lt i n)

pub not_zero : (n : ℕ) → (n == 0) ≡ false → 0 < n
not_zero n e = grind (arith, nat_tests)
