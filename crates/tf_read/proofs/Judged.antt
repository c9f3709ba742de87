-- What was judged number by number is an instance.
use Rattle.std.proofs.Common.{◌≡◌, ℕ, ◌+◌, ◌≤◌, ℤ, pos, negsuc, neg_ℤ, ◌≤ℤ◌, Bool, true, false, cond, ◌||◌, List, [], ◌∷◌, length, None, Result, Ok, Err, refl, sym, ap, subst, ◌∙◌, arith, position}
use Rattle.std.specs.List.{position_or_len}
use Rattle.std.proofs.lemmas.Bool.{le-ltb}
use Rattle.std.proofs.lemmas.Int.{ints}
use Rattle.tf_words.specs.Number.{number, limit}
use Rattle.tf_words.specs.declared.number.Number.{Number}
use Rattle.tf_words.specs.Scan.{IsInRange}
use Rattle.tf_words.specs.declared.number.Number.TheVariants.{NotANumber, TooLarge, Value}
use Rattle.tf_model.specs.InstanceData.{is_negative, is_beyond}
use Rattle.tf_read.specs.declared.fault.ReadFault.{ReadFault}
use Rattle.tf_words.proofs.Limited.{number_within}
use Rattle.tf_model.proofs.Judged.{none_found, past_end}
use Rattle.tf_model.proofs.Outcomes.{bind_ok}
use Rattle.tf_model.specs.Outcome.{◌>>=◌}
use Rattle.tf_read.specs.Faults.{each_from, natural, integer}

pub same_ok : {A : Type 0} {x y : A} (r : Result A ReadFault) → r ≡ Ok x → r ≡ Ok y → x ≡ y
same_ok r g h = let both = sym g ∙ h in cc

-- the first that was read, and the others
pub each_cons : {X Y : Type 0} (read : ℕ → X → Result Y ReadFault) (k : ℕ) (x : X) (xs : List X)
    (ys : List Y)
    → each_from read k (x ∷ xs) ≡ Ok ys
    → (first : Y) × (others : List Y) × (read k x ≡ Ok first)
    × (each_from read (k + 1) xs ≡ Ok others) × (first ∷ others ≡ ys)
unfolding each_from
each_cons read k x xs ys h =
    let a = bind_ok (read k x)
    (λ first. each_from read (k + 1) xs >>= λ others. Ok (first ∷ others)) ys h in
    let b = bind_ok (each_from read (k + 1) xs) (λ others. Ok (a.0 ∷ others)) ys a.2 in
    (a.0, b.0, a.1, b.1, same_ok (Ok (a.0 ∷ b.0)) refl b.2)

pub each_none : {X Y : Type 0} (read : ℕ → X → Result Y ReadFault) (k : ℕ) (ys : List Y)
    → each_from read k [] ≡ Ok ys → [] ≡ ys
unfolding each_from
each_none read k ys h = same_ok (Ok []) refl h

-- a test behind which there is a value
pub then_ok : {A : Type 0} (b : Bool) (x : Result A ReadFault) (e : ReadFault) (z : A)
    → cond b x (Err e) ≡ Ok z → (b ≡ true) × (x ≡ Ok z)
then_ok true x e z h = (refl, h)
then_ok false x e z h = cc

pub else_ok : {A : Type 0} (b : Bool) (e : ReadFault) (y : Result A ReadFault) (z : A)
    → cond b (Err e) y ≡ Ok z → (b ≡ false) × (y ≡ Ok z)
else_ok true e y z h = cc
else_ok false e y z h = (refl, h)

-- each value that may come passes
pub record GivesOnly {A : Type 0} (P : A → Type 0) (r : Result A ReadFault) : Type 0 where
  pub each : (x : A) → r ≡ Ok x → P x

pub on_fault : {A : Type 0} (P : A → Type 0) (e : ReadFault) → GivesOnly P (Err e)
on_fault P e = record { each = λ x h. cc }

pub on_test : {A : Type 0} (P : A → Type 0) (b : Bool) (x y : Result A ReadFault) → GivesOnly P x
    → GivesOnly P y → GivesOnly P (cond b x y)
on_test P true x y p q = p
on_test P false x y p q = q

pub on_value : {A B : Type 0} (P : B → Type 0) (r : Result A ReadFault) (f : A → B)
    → ((x : A) → r ≡ Ok x → P (f x)) → GivesOnly P (r >>= λ x. Ok (f x))
on_value P r f h =
    record {
      each = λ y e. let a = bind_ok r (λ x. Ok (f x)) y e in
          subst P (same_ok (Ok (f a.0)) refl a.2) (h a.0 a.1);
    }

pub or_false : (a b : Bool) → a ≡ false → b ≡ false → (a || b) ≡ false
or_false a b e d = rw (e, d) refl

-- a value that is read is within the limit
beyond : (z : ℤ) → neg_ℤ (pos limit) ≤ℤ z → z ≤ℤ pos limit → is_beyond z ≡ false
beyond z low high = le-ltb _ _ (omega (arith, ints, low, high))

pub in_range : (z : ℤ) → IsInRange (Value z) → is_beyond z ≡ false
in_range z w = beyond z w.0 w.1

pub value_within : (word : List ℕ) (z : ℤ) → number word ≡ Value z → is_beyond z ≡ false
value_within word z h = let w = number_within word z h in beyond z w.0 w.1

pub integer_within : (line : ℕ) (n : Number) (z : ℤ) → integer line n ≡ Ok z → n ≡ Value z
integer_within line NotANumber z h = cc
integer_within line TooLarge z h = cc
integer_within line (Value y) z h = cc

pub natural_within : (line : ℕ) (n : Number) (z : ℤ) → natural line n ≡ Ok z
    → (n ≡ Value z) × (is_negative z ≡ false)
natural_within line NotANumber z h = cc
natural_within line TooLarge z h = cc
natural_within line (Value (negsuc m)) z h = cc
natural_within line (Value (pos m)) z h =
    let e : pos m ≡ z = cc in
    (ap Value e, subst (λ (y : ℤ). is_negative y ≡ false) e (le-ltb m 0 (omega arith)))

-- no element passes
none_passes : {X Y : Type 0} (read : ℕ → X → Result Y ReadFault) (test : Y → Bool)
    → ((k : ℕ) (x : X) (y : Y) → read k x ≡ Ok y → test y ≡ false)
    → (k : ℕ) (xs : List X) (ys : List Y) → each_from read k xs ≡ Ok ys
    → position_or_len test ys ≡ length ys
none_passes read test ok k [] ys h =
    subst (λ zs. position_or_len test zs ≡ length zs) (each_none read k ys h) refl
none_passes read test ok k (x ∷ xs) ys h =
    let r = each_cons read k x xs ys h in
    subst (λ zs. position_or_len test zs ≡ length zs) r.4
    (past_end test r.0 r.1 (ok k x r.0 r.2) (none_passes read test ok (k + 1) xs r.1 r.3))

pub none_there : {X Y : Type 0} (read : ℕ → X → Result Y ReadFault) (test : Y → Bool)
    → ((k : ℕ) (x : X) (y : Y) → read k x ≡ Ok y → test y ≡ false)
    → (k : ℕ) (xs : List X) (ys : List Y) → each_from read k xs ≡ Ok ys → position test ys ≡ None
none_there read test ok k xs ys h = none_found test ys (none_passes read test ok k xs ys h)

-- no more than the number up to which they are read
pub few : {X Y : Type 0} (read : ℕ → X → Result Y ReadFault) (most : ℕ)
    → ((k : ℕ) (x : X) (y : Y) → read k x ≡ Ok y → k ≤ most) → (k : ℕ) (xs : List X) (ys : List Y)
    → k ≤ most + 1 → each_from read k xs ≡ Ok ys → length ys + k ≤ most + 1
few read most ok k [] ys from h =
    subst (λ (zs : List _). length zs + k ≤ most + 1) (each_none read k ys h) (omega arith)
few read most ok k (x ∷ xs) ys from h =
    let r = each_cons read k x xs ys h in
    let le : k ≤ most = ok k x r.0 r.2 in
    let more : length r.1 + (k + 1) ≤ most + 1 =
    few read most ok (k + 1) xs r.1 (omega arith) r.3 in
    omega (arith, ap length r.4, more)
