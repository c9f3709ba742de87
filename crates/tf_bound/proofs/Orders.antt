-- Lists along which a number rises or falls, as the judges go through them.
use Rattle.std.proofs.Common.{◌≡◌, Bool, true, false, ℕ, ◌+◌, ◌≤◌, ◌<◌, nat_lt, sum, List, [], ◌∷◌, ◌++◌, length, get_or, take, cond, All, AllPairs, Some, None, refl, sym, ap, ◌∙◌, arith}
use Rattle.std.proofs.lemmas.Bool.{ltb-false}
use Rattle.std.proofs.lemmas.List.{take_more}
use Rattle.std.proofs.lemmas.List.Elements.{All-cons, All-nil, All-weaker}
use Rattle.std.proofs.lemmas.List.Kept.{AllPairs-cons}
use Rattle.tf_problem.specs.Kept.{put, without_last, within_room, kept_by, IsRisingBy}
use Rattle.tf_problem.proofs.Piles.{put-length, last-length}
use Rattle.tf_bound.specs.Faulted.{falls_fault, rises_fault}
use Rattle.tf_bound.specs.declared.fault.BoundFault.TheVariants.{Condition}

-- a list without a job that falls rises
pub falls-none : (f : ℕ → ℕ) (t : ℕ) (jobs : List ℕ) → falls_fault f t jobs ≡ None
    → IsRisingBy f t jobs
falls-none f t [] none = tt
falls-none f t (j ∷ jobs) none = by (nat_lt (f j) t) refl none (falls-none f (f j) jobs)
  where
    by : (b : Bool) → nat_lt (f j) t ≡ b → cond b (Some (Condition j)) (falls_fault f (f j) jobs) ≡ None
        → (falls_fault f (f j) jobs ≡ None → IsRisingBy f (f j) jobs) → IsRisingBy f t (j ∷ jobs)
    by true e h rest = cc
    by false e h rest = (ltb-false (f j) t e, rest h)

-- a list without a job that rises falls
pub rises-none : (f : ℕ → ℕ) (t : ℕ) (jobs : List ℕ) → rises_fault f t jobs ≡ None
    → All (λ j. f j ≤ t) jobs × AllPairs (λ i j. f j ≤ f i) jobs
rises-none f t [] none = (All-nil (λ j. f j ≤ t), λ i j d lt h. absurd (omega arith))
rises-none f t (j ∷ jobs) none = by (nat_lt t (f j)) refl none (rises-none f (f j) jobs)
  where
    by : (b : Bool) → nat_lt t (f j) ≡ b → cond b (Some (Condition j)) (rises_fault f (f j) jobs) ≡ None
        → (rises_fault f (f j) jobs ≡ None
        → All (λ i. f i ≤ f j) jobs × AllPairs (λ i j. f j ≤ f i) jobs)
        → All (λ i. f i ≤ t) (j ∷ jobs) × AllPairs (λ i j. f j ≤ f i) (j ∷ jobs)
    by true e h rest = cc
    by false e h rest =
        let more = rest h in
        let first : f j ≤ t = ltb-false t (f j) e in (
          All-cons (λ i. f i ≤ t) j jobs first
              (All-weaker (λ i. f i ≤ f j) (λ i. f i ≤ t) (λ i le. omega (arith, le, first)) jobs more.0),
          AllPairs-cons (λ i j. f j ≤ f i) j jobs more.0 more.1,
        )

-- ---- one job more

kept_by-append : (p room : ℕ → ℕ) (times jobs : List ℕ) (j : ℕ)
    → kept_by p room times (jobs ++ j ∷ [])
    ≡ within_room (room j) (put (p j) (kept_by p room times jobs))
kept_by-append p room times [] j = refl
kept_by-append p room times (i ∷ jobs) j =
    kept_by-append p room (within_room (room i) (put (p i) times)) jobs j

pub kept_by-more : (p room : ℕ → ℕ) (jobs : List ℕ) (i x : ℕ) → i < length jobs
    → x ≡ get_or jobs i x → kept_by p room [] (take (i + 1) jobs)
    ≡ within_room (room x) (put (p x) (kept_by p room [] (take i jobs)))
kept_by-more p room jobs i x lt at =
    ap (kept_by p room []) (take_more jobs i x lt ∙ ap (λ y. take i jobs ++ y ∷ []) (sym at))
    ∙ kept_by-append p room [] (take i jobs) x

-- no more are kept than there are
pub kept_by-length : (p room : ℕ → ℕ) (times jobs : List ℕ)
    → length (kept_by p room times jobs) ≤ length times + length jobs
kept_by-length p room times [] = omega arith
kept_by-length p room times (j ∷ jobs) =
    omega (
      arith,
      kept_by-length p room (within_room (room j) (put (p j) times)) jobs,
      shorter (nat_lt (room j) (sum (put (p j) times))) (put (p j) times),
      put-length (p j) times,
    )
  where
    shorter : (t : Bool) (xs : List ℕ) → length (cond t (without_last xs) xs) ≤ length xs
    shorter true xs = omega (arith, last-length xs)
    shorter false xs = omega arith
