-- The bytes of a table without its routes, one after another.
use Rattle.std.proofs.Common.{◌≡◌, ℕ, suc, ◌+◌, ◌<◌, ◌≤◌, true, false, List, [], ◌∷◌, ◌++◌, length, get_or, drop, sym, ap, ◌∙◌, arith, append_assoc, append-nil, drop-cons}
use Rattle.std.proofs.lemmas.List.{drop_all}
use Rattle.tf_routes.specs.declared.unrouted.Place.{Place}
use Rattle.tf_routes.specs.Unrouted.{is_of_route, place_after, unrouted_after}

-- a byte that is kept
pub kept : (front new text total : List ℕ) (k : ℕ) (place next : Place) → k < length text
    → next ≡ place_after place (get_or text k 0) → is_of_route next ≡ false
    → new ≡ front ++ get_or text k 0 ∷ [] → front ++ unrouted_after place (drop k text) ≡ total
    → new ++ unrouted_after next (drop (k + 1) text) ≡ total
unfolding unrouted_after
kept front new text total k place next within is free push same =
    let b = get_or text k 0 in
    let here : unrouted_after place (drop k text) ≡ b ∷ unrouted_after next (drop (k + 1) text) =
    ap (unrouted_after place) (drop-cons text k 0 within)
    ∙ one_kept place next b (drop (suc k) text) is free
    ∙ (let n : suc k ≡ k + 1 = omega arith in
    ap (λ (m : ℕ). b ∷ unrouted_after next (drop m text)) n) in
    ap (λ bs. bs ++ unrouted_after next (drop (k + 1) text)) push
    ∙ append_assoc front (b ∷ []) (unrouted_after next (drop (k + 1) text))
    ∙ ap (λ bs. front ++ bs) (sym here)
    ∙ same
  where
    one_kept : (place next : Place) (b : ℕ) (bs : List ℕ) → next ≡ place_after place b
        → is_of_route next ≡ false → unrouted_after place (b ∷ bs) ≡ b ∷ unrouted_after next bs
    one_kept place next b bs is free =
        let f : is_of_route (place_after place b) ≡ false = ap is_of_route (sym is) ∙ free in
        rw f (ap (λ p. b ∷ unrouted_after p bs) (sym is))

-- a byte of a route
pub passed : (front text total : List ℕ) (k : ℕ) (place next : Place) → k < length text
    → next ≡ place_after place (get_or text k 0) → is_of_route next ≡ true
    → front ++ unrouted_after place (drop k text) ≡ total
    → front ++ unrouted_after next (drop (k + 1) text) ≡ total
unfolding unrouted_after
passed front text total k place next within is routed same =
    let b = get_or text k 0 in
    let here : unrouted_after place (drop k text) ≡ unrouted_after next (drop (k + 1) text) =
    ap (unrouted_after place) (drop-cons text k 0 within)
    ∙ one_passed place next b (drop (suc k) text) is routed
    ∙ (let n : suc k ≡ k + 1 = omega arith in
    ap (λ (m : ℕ). unrouted_after next (drop m text)) n) in
    ap (λ bs. front ++ bs) (sym here) ∙ same
  where
    one_passed : (place next : Place) (b : ℕ) (bs : List ℕ) → next ≡ place_after place b
        → is_of_route next ≡ true → unrouted_after place (b ∷ bs) ≡ unrouted_after next bs
    one_passed place next b bs is routed =
        let f : is_of_route (place_after place b) ≡ true = ap is_of_route (sym is) ∙ routed in
        rw f (ap (λ p. unrouted_after p bs) (sym is))

-- no byte is left
pub all_passed : (front text total : List ℕ) (k : ℕ) (place : Place) → length text ≤ k
    → front ++ unrouted_after place (drop k text) ≡ total → front ≡ total
unfolding unrouted_after
all_passed front text total k place over same =
    sym (append-nil front)
    ∙ sym (ap (λ bs. front ++ unrouted_after place bs) (drop_all k text over)) ∙ same
