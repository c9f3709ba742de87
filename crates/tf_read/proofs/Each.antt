-- A loop's step over what is read one by one.
use Rattle.std.proofs.Common.{◌≡◌, ℕ, ◌+◌, List, [], ◌∷◌, ◌++◌, Result, Ok, Err, refl, sym, ap, subst, ◌∙◌, append_assoc}
use Rattle.std.proofs.lemmas.List.{append-nil}
use Rattle.tf_read.specs.declared.fault.ReadFault.{ReadFault}
use Rattle.tf_read.specs.declared.fault.ReadFault.TheVariants as faults
use Rattle.tf_model.specs.Outcome.{◌>>=◌}
use Rattle.tf_model.proofs.Outcomes
use Rattle.tf_read.specs.Faults.{fault_in, Fails, Gives, each_from}

-- the fault of a reading
pub fault_of : {Y : Type 0} (e : ReadFault) (r : Result Y ReadFault) → r ≡ Err e → Fails e r
fault_of faults.OutOfMemory r h = tt
fault_of _ r h = h

-- a fault stays one behind a function that hands faults on
pub fails_through : {A B : Type 0} (e : ReadFault) (r : Result A ReadFault)
    (f : Result A ReadFault → Result B ReadFault)
    → ((d : ReadFault) → f (Err d) ≡ Err d) → Fails e r → Fails e (f r)
fails_through e r f on h = Outcomes.fails_through (fault_in e) r f on h

-- a fault of a step is one of what begins with it
pub fails_then : {A B : Type 0} (e : ReadFault) (r : Result A ReadFault)
    (f : A → Result B ReadFault)
    → Fails e r → Fails e (r >>= f)
fails_then e r f h = fails_through e r (λ x. x >>= f) (λ d. refl) h

-- what was read, and then what reading gives
abbrev pub with_front : {Y : Type 0} → List Y → Result (List Y) ReadFault
    → Result (List Y) ReadFault
with_front front (Ok ys) = Ok (front ++ ys)
with_front front (Err e) = Err e

-- where nothing was read yet
pub with_nothing : {Y : Type 0} (r : Result (List Y) ReadFault) → with_front [] r ≡ r
with_nothing (Ok ys) = refl
with_nothing (Err e) = refl

regroup : {Y : Type 0} (front : List Y) (y : Y) (r : Result (List Y) ReadFault)
    → with_front front (r >>= λ others. Ok (y ∷ others)) ≡ with_front (front ++ y ∷ []) r
regroup front y (Ok ys) = ap (λ zs. Ok zs) (sym (append_assoc front (y ∷ []) ys))
regroup front y (Err e) = refl

-- one more that was read
pub each_step : {X Y : Type 0} (read : ℕ → X → Result Y ReadFault) (front : List Y) (y : Y) (k : ℕ)
    (x : X) (more : List X)
    → read k x ≡ Ok y
    → with_front front (each_from read k (x ∷ more))
    ≡ with_front (front ++ y ∷ []) (each_from read (k + 1) more)
unfolding each_from
each_step read front y k x more h =
    ap (λ r. with_front front
    (r >>= λ first. each_from read (k + 1) more >>= λ others. Ok (first ∷ others))) h
    ∙ regroup front y (each_from read (k + 1) more)

-- the first fault
pub each_fails : {X Y : Type 0} (read : ℕ → X → Result Y ReadFault) (front : List Y) (k : ℕ) (x : X)
    (more : List X) (e : ReadFault)
    → Fails e (read k x) → Fails e (with_front front (each_from read k (x ∷ more)))
unfolding each_from
each_fails read front k x more e h =
    fails_through e (read k x)
    (λ r. with_front front
    (r >>= λ first. each_from read (k + 1) more >>= λ others. Ok (first ∷ others))) (λ d. refl) h

pub each_end : {X Y : Type 0} (read : ℕ → X → Result Y ReadFault) (front : List Y) (k : ℕ)
    → with_front front (each_from read k []) ≡ Ok front
unfolding each_from
each_end read front k = ap (λ ys. Ok ys) (append-nil front)

-- the same, as a loop has them
pub each_next : {X Y : Type 0} (read : ℕ → X → Result Y ReadFault) (front new : List Y) (y : Y)
    (len next k : ℕ) (x : X) (more all : List X) (total : Result (List Y) ReadFault)
    → new ≡ front ++ y ∷ [] → next ≡ len + 1 → k ≡ len + 1 → all ≡ x ∷ more → read k x ≡ Ok y
    → with_front front (each_from read (len + 1) all) ≡ total
    → with_front new (each_from read (next + 1) more) ≡ total
each_next read front new y len next k x more all total push next-is k-is is h same =
    let here : read (len + 1) x ≡ Ok y = subst (λ (n : ℕ). read n x ≡ Ok y) k-is h in
    ap (λ ys. with_front ys (each_from read (next + 1) more)) push
    ∙ ap (λ (n : ℕ). with_front (front ++ y ∷ []) (each_from read (n + 1) more)) next-is
    ∙ sym (each_step read front y (len + 1) x more here)
    ∙ sym (ap (λ xs. with_front front (each_from read (len + 1) xs)) is) ∙ same

pub each_faults : {X Y : Type 0} (read : ℕ → X → Result Y ReadFault) (front : List Y) (k n : ℕ)
    (x : X) (more all : List X) (e : ReadFault) (total : Result (List Y) ReadFault)
    → with_front front (each_from read k all) ≡ total → all ≡ x ∷ more → n ≡ k → Fails e (read n x)
    → Fails e total
each_faults read front k n x more all e total same is at h =
    subst (λ r. Fails e r) (sym (ap (λ xs. with_front front (each_from read k xs)) is) ∙ same)
    (each_fails read front k x more e (subst (λ (m : ℕ). Fails e (read m x)) at h))

pub each_done : {X Y : Type 0} (read : ℕ → X → Result Y ReadFault) (front : List Y) (k : ℕ)
    (all : List X) (total : Result (List Y) ReadFault)
    → with_front front (each_from read k all) ≡ total → all ≡ [] → total ≡ Ok front
each_done read front k all total same e = sym same
    ∙ ap (λ xs. with_front front (each_from read k xs)) e ∙ each_end read front k

-- the same reading
pub gives_same : {X Y : Type 0} (view : X → Y) (result : Result X ReadFault)
    (r s : Result Y ReadFault)
    → r ≡ s → Gives view result r → Gives view result s
gives_same view result r s e h = subst (λ x. Gives view result x) e h

-- an outcome that is exactly the wanted one
pub gives_exactly : {Y : Type 0} (result wanted : Result Y ReadFault) → result ≡ wanted
    → Gives (λ y. y) result wanted
gives_exactly (Ok y) wanted h = sym h
gives_exactly (Err e) wanted h = fault_of e wanted (sym h)
