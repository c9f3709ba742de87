-- Which lists of pieces make a schedule, and the first fault of those that do not.
use Rattle.std.specs.Prelude.{◌≡◌, ℕ, pos, ◌≤ℤ◌, ◌-◌, ◌<◌, ◌≤◌, List, take, slice_get, IsSomeAnd}
use Rattle.std.specs.List.{All, AllPairs}
use Rattle.tf_schedule.specs.declared.piece.Piece.{Piece}
use Rattle.tf_schedule.specs.declared.schedule.PieceFault.{PieceFault}
use Rattle.tf_schedule.specs.declared.schedule.PieceFault.TheVariants.{OutOfRange, EmptyPiece, MachineTwice}
use Rattle.tf_schedule.specs.Piece.{IsInRange, IsNotEmpty, machine_of, claims_by, as_time}

-- the piece is in range and not empty
abbrev pub IsPiece : Piece → Type 0
IsPiece p = IsInRange p × IsNotEmpty p

-- by line, then by start
abbrev pub ComesBeforeBy : (Piece → ℕ) → Piece → Piece → Type 0
ComesBeforeBy line p q = (line p ≤ line q) × (line p ≡ line q → p.start ≤ℤ q.start)

-- no two pieces lie on one line at one time
abbrev pub NoneTwiceBy : (Piece → ℕ) → List Piece → Type 0
NoneTwiceBy line ps = (n t : ℕ) → claims_by line ps n t ≤ 1

-- two pieces lie on line n at time t, and nowhere on a smaller line, nor earlier on this one
pub record IsFirstClashBy (line : Piece → ℕ) (ps : List Piece) (n t : ℕ) : Type 0 where
  pub here : 2 ≤ claims_by line ps n t
  pub smaller : (h u : ℕ) → h < n → claims_by line ps h u ≤ 1
  pub earlier : (u : ℕ) → u < t → claims_by line ps n u ≤ 1

-- by machine, then by start
abbrev pub ComesBefore : Piece → Piece → Type 0
ComesBefore = ComesBeforeBy machine_of

-- no cell is claimed twice
abbrev pub NoneTwice : List Piece → Type 0
NoneTwice = NoneTwiceBy machine_of

-- machine i is claimed twice at time t, no smaller machine is, and this one not earlier
abbrev pub IsFirstClash : List Piece → ℕ → ℕ → Type 0
IsFirstClash = IsFirstClashBy machine_of

-- what a schedule keeps
pub record IsSchedule (ps : List Piece) : Type 0 where
  pub sound : All IsPiece ps
  pub none_twice : NoneTwice ps
  pub in_order : AllPairs ComesBefore ps

-- piece k, counted from 1, is the first that is out of range or empty, and P is what it is
pub record IsFirstUnsound (P : Piece → Type 0) (ps : List Piece) (k : ℕ) : Type 0 where
  pub before : All IsPiece (take (k - 1) ps)
  pub counted : 0 < k
  pub here : IsSomeAnd (slice_get ps (k - 1)) P

-- the pieces have this fault, and no fault that is judged before it
abbrev pub HasFirstFault : List Piece → PieceFault → Type 0
HasFirstFault ps (OutOfRange k) = IsFirstUnsound (λ p. ¬ (IsInRange p)) ps k
HasFirstFault ps (EmptyPiece k) = IsFirstUnsound (λ p. IsInRange p × ¬ (IsNotEmpty p)) ps k
HasFirstFault ps (MachineTwice i t) = All IsPiece ps × (pos 0 ≤ℤ t) × IsFirstClash ps i (as_time t)
