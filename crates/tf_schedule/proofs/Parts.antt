-- What holds along a list, and along its two parts.
use Rattle.std.proofs.Common.{zero, suc, List, [], ◌∷◌, ◌++◌, arith}
use Rattle.std.specs.List.{All, AllPairs}
use Rattle.std.proofs.lemmas.List.Elements.{All-append, All-cons, All-nil, All-tail, All-head}
use Rattle.std.proofs.lemmas.List.Kept.{AllPairs-cons}

pub All-left : {X : Type 0} (P : X → Type 0) (xs ys : List X) → All P (xs ++ ys) → All P xs
All-left P [] ys all = All-nil P
All-left P (x ∷ xs) ys all = All-cons P x xs (All-head P x (xs ++ ys) all)
    (All-left P xs ys (All-tail P x (xs ++ ys) all))

pub All-right : {X : Type 0} (P : X → Type 0) (xs ys : List X) → All P (xs ++ ys) → All P ys
All-right P [] ys all = all
All-right P (x ∷ xs) ys all = All-right P xs ys (All-tail P x (xs ++ ys) all)

pub AllPairs-head : {X : Type 0} (R : X → X → Type 0) (x : X) (xs : List X) → AllPairs R (x ∷ xs)
    → All (R x) xs
AllPairs-head R x xs pairs n d h = pairs zero (suc n) d (omega arith) (omega arith)

pub AllPairs-tail : {X : Type 0} (R : X → X → Type 0) (x : X) (xs : List X) → AllPairs R (x ∷ xs)
    → AllPairs R xs
AllPairs-tail R x xs pairs i j d lt within = pairs (suc i) (suc j) d (omega arith) (omega arith)

AllPairs-nil : {X : Type 0} (R : X → X → Type 0) → AllPairs R []
AllPairs-nil R i j d lt within = absurd (omega arith)

pub AllPairs-left : {X : Type 0} (R : X → X → Type 0) (xs ys : List X) → AllPairs R (xs ++ ys)
    → AllPairs R xs
AllPairs-left R [] ys pairs = AllPairs-nil R
AllPairs-left R (x ∷ xs) ys pairs =
    AllPairs-cons R x xs (All-left (R x) xs ys (AllPairs-head R x (xs ++ ys) pairs))
    (AllPairs-left R xs ys (AllPairs-tail R x (xs ++ ys) pairs))

pub AllPairs-right : {X : Type 0} (R : X → X → Type 0) (xs ys : List X) → AllPairs R (xs ++ ys)
    → AllPairs R ys
AllPairs-right R [] ys pairs = pairs
AllPairs-right R (x ∷ xs) ys pairs = AllPairs-right R xs ys (AllPairs-tail R x (xs ++ ys) pairs)

-- and each of the first part with each of the second
pub AllPairs-across : {X : Type 0} (R : X → X → Type 0) (xs ys : List X) → AllPairs R (xs ++ ys)
    → All (λ x. All (R x) ys) xs
AllPairs-across R [] ys pairs = All-nil (λ x. All (R x) ys)
AllPairs-across R (x ∷ xs) ys pairs =
    All-cons (λ z. All (R z) ys) x xs (All-right (R x) xs ys (AllPairs-head R x (xs ++ ys) pairs))
    (AllPairs-across R xs ys (AllPairs-tail R x (xs ++ ys) pairs))

-- two lists, where each of the first comes before each of the second
pub AllPairs-append : {X : Type 0} (R : X → X → Type 0) (xs ys : List X) → AllPairs R xs
    → AllPairs R ys → All (λ x. All (R x) ys) xs → AllPairs R (xs ++ ys)
AllPairs-append R [] ys one two across = two
AllPairs-append R (x ∷ xs) ys one two across =
    AllPairs-cons R x (xs ++ ys)
    (All-append (R x) xs ys (AllPairs-head R x xs one) (All-head (λ z. All (R z) ys) x xs across))
    (AllPairs-append R xs ys (AllPairs-tail R x xs one) two
    (All-tail (λ z. All (R z) ys) x xs across))
