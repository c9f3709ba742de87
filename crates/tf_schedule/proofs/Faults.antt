-- The first fault of pieces.
use Rattle.std.proofs.Common.{◌≡◌, zero, suc, [], ◌∷◌, ℤ, pos, ◌≤ℤ◌, ℕ, ◌+◌, ◌-◌, ◌<◌, List, length, get_or, take, Some, IsSomeAnd, slice_get, refl, sym, ap, subst, ◌∙◌, arith}
use Rattle.std.specs.List.{All}
use Rattle.std.proofs.lemmas.Option.{slice_get_read}
use Rattle.tf_schedule.specs.declared.piece.Piece.{Piece}
use mir.Val.{SFits, to_z, of_z}
use mir.Syntax.{w64}
use Rattle.std.specs.List.Sorted.{IsPermutation}
use Rattle.std.proofs.lemmas.Int.{to_z-of_z}
use Rattle.std.proofs.lemmas.List.Elements.{All-tail}
use Rattle.tf_schedule.specs.Piece.{machine_of, as_time, IsInRange, IsNotEmpty}
use Rattle.tf_schedule.specs.declared.schedule.PieceFault.{PieceFault}
use Rattle.tf_schedule.specs.declared.schedule.PieceFault.TheVariants.{OutOfRange, EmptyPiece, MachineTwice}
use Rattle.tf_schedule.specs.Schedule.{IsPiece, NoneTwice, IsFirstUnsound, IsFirstClash, HasFirstFault}
use Rattle.tf_schedule.proofs.Scan.{first_clash_permutation}

pub first_unsound : (P : Piece → Type 0) (ps : List Piece) (k : ℕ) (r : Piece) → k < length ps
    → r ≡ get_or ps k r → All IsPiece (take k ps) → P r → IsFirstUnsound P ps (k + 1)
first_unsound P ps k r in_range read before holds =
    let same : k ≡ k + 1 - 1 = omega arith in
    let at : slice_get ps (k + 1 - 1) ≡ Some r = ap (slice_get ps) (sym same)
    ∙ slice_get_read ps (length ps) k r refl in_range read in
    record {
      before = subst (λ n. All IsPiece (take n ps)) same before;
      counted = omega arith;
      here = subst (λ o. IsSomeAnd o P) (sym at) holds;
    }

-- the fault, at a time that was stored in 64 bits
pub clash_fault : (ps qs : List Piece) (i : ℕ) (z : ℤ) → IsPermutation ps qs → All IsPiece ps
    → (pos 0 ≤ℤ z) × IsFirstClash qs i (as_time z) → SFits w64 z
    → All IsPiece ps × (pos 0 ≤ℤ to_z w64 (of_z w64 z))
    × IsFirstClash ps i (as_time (to_z w64 (of_z w64 z)))
clash_fault ps qs i z same sound clash fits =
    subst (λ (y : ℤ). All IsPiece ps × (pos 0 ≤ℤ y) × IsFirstClash ps i (as_time y))
    (sym (to_z-of_z w64 z fits))
    (sound, clash.0, first_clash_permutation machine_of ps qs i (as_time z) same clash.1)

some_and_all : {X : Type 0} (P Q : X → Type 0) (xs : List X) (k : ℕ) → All P xs
    → ((x : X) → P x → Q x → ⊥) → IsSomeAnd (slice_get xs k) Q → ⊥
some_and_all P Q [] k all never here = here
some_and_all P Q (x ∷ xs) zero all never here = never x (all 0 x (omega arith)) here
some_and_all P Q (x ∷ xs) (suc k) all never here =
    some_and_all P Q xs k (All-tail P x xs all) never here

-- sound pieces that claim no cell twice have no fault
pub no_fault : (ps : List Piece) → All IsPiece ps → NoneTwice ps → (f : PieceFault)
    → HasFirstFault ps f → ⊥
no_fault ps sound once (OutOfRange k) h =
    some_and_all IsPiece (λ p. ¬ (IsInRange p)) ps (k - 1) sound (λ p s n. n s.0) h.here
no_fault ps sound once (EmptyPiece k) h =
    some_and_all IsPiece (λ p. IsInRange p × (¬ (IsNotEmpty p))) ps (k - 1) sound (λ p s n. n.1 s.1)
    h.here
no_fault ps sound once (MachineTwice i t) h = omega (arith, h.2.here, once i (as_time t))

-- nor a clash in another order
pub no_clash : (ps qs : List Piece) (i t : ℕ) → IsPermutation ps qs → NoneTwice ps
    → IsFirstClash qs i t → ⊥
no_clash ps qs i t same once clash =
    omega (arith, (first_clash_permutation machine_of ps qs i t same clash).here, once i t)
