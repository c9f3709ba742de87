-- The first number that passes a test.
use Rattle.std.proofs.Common.{◌≡◌, ℕ, zero, suc, ◌+◌, ◌≤◌, ◌<◌, Bool, true, false, cond, List, [], ◌∷◌, Some, None, refl, sym, ap, subst, ◌∙◌, All, arith}
use Rattle.std.specs.List.{find, range_with_len}
use Rattle.std.proofs.lemmas.List.Elements.{All-tail}

pub find_range : (p : ℕ → Bool) (a n i : ℕ) → i < n → ((j : ℕ) → a ≤ j → j < a + i → p j ≡ false)
    → p (a + i) ≡ true → find p (range_with_len a n) ≡ Some (a + i)
find_range p a zero i lt before here = absurd (omega arith)
find_range p a (suc n) zero lt before here =
    let at : a + 0 ≡ a = omega arith in
    ap (λ t. cond t (Some a) (find p (range_with_len (a + 1) n))) (subst (λ m. p m ≡ true) at here)
    ∙ ap (λ (m : ℕ). Some m) (sym at)
find_range p a (suc n) (suc i) lt before here =
    let next : a + suc i ≡ a + 1 + i = omega arith in
    ap (λ t. cond t (Some a) (find p (range_with_len (a + 1) n)))
    (before a (omega arith) (omega arith))
    ∙ find_range p (a + 1) n i (omega arith) (λ j low high. before j (omega arith) (omega arith))
    (subst (λ m. p m ≡ true) next here)
    ∙ ap (λ (m : ℕ). Some m) (sym next)

pub find_none : (p : ℕ → Bool) (xs : List ℕ) → All (λ j. p j ≡ false) xs → find p xs ≡ None
find_none p [] none = refl
find_none p (x ∷ xs) none =
    ap (λ t. cond t (Some x) (find p xs)) (none 0 x (omega arith))
    ∙ find_none p xs (All-tail (λ j. p j ≡ false) x xs none)
