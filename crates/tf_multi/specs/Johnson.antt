-- Johnson's rule for a flow shop with two machines. f gives the times of a job on them.
use Rattle.std.specs.Prelude.{◌≡◌, ℕ, ◌+◌, ◌<◌, ◌≤◌, ◌⊎◌, pos, true, false, nat_le, max, List, [], ◌∷◌, length, take, slice_index, if◌then◌else◌}
use Rattle.std.specs.List.{AllPairs, sum_by}
use Rattle.std.specs.List.Sorted.{IsPermutation, IsNonDecreasing}
use Rattle.tf_model.specs.SchedulingTask.{SchedulingTask, all_jobs}
use Rattle.tf_schedule.specs.declared.piece.Piece.{Piece}
use Rattle.tf_schedule.specs.SemiActive.{laid}
use Rattle.tf_check.specs.Claim.{Claim, BySplit}
use Rattle.tf_multi.specs.TwoMachines.{time_at, in_line}

-- job i may come before job j: first the jobs that take no longer on machine 1, by rising time
-- there, then the others, by falling time on machine 2
pub record MayPrecede (f : ℕ → ℕ → ℕ) (i j : ℕ) : Type 0 where
  pub rising : f j 1 ≤ f j 2 → (f i 1 ≤ f i 2) × (f i 1 ≤ f j 1)
  pub falling : f i 2 < f i 1 → (f j 2 < f j 1) × (f j 2 ≤ f i 2)

-- job i comes before job j: it may, and of two jobs each of which may come before the other the
-- smaller number comes first
pub record Precedes (f : ℕ → ℕ → ℕ) (i j : ℕ) : Type 0 where
  pub may : MayPrecede f i j
  pub tie : MayPrecede f j i → i < j

-- all jobs, each before those after it
pub record IsJohnsonOrder (task : SchedulingTask) (order : List ℕ) : Type 0 where
  pub all : IsPermutation (all_jobs task) order
  pub in_order : AllPairs (Precedes (time_at task)) order

-- when machine 2 has run the jobs one after another, where machine 1 is free from e and machine 2
-- from g
abbrev pub line_end : (ℕ → ℕ → ℕ) → ℕ → ℕ → List ℕ → ℕ
line_end f e g [] = g
line_end f e g (j ∷ js) = line_end f (e + f j 1) (max (e + f j 1) g + f j 2) js

-- machine 2 waits for the job at place n, which counts from 0: machine 1 completes the job after
-- machine 2 has completed all jobs before it
abbrev pub IsAwaited : (ℕ → ℕ → ℕ) → List ℕ → ℕ → Type 0
IsAwaited f order n = line_end f 0 0 (take n order) < sum_by (λ j. f j 1) (take (n + 1) order)

-- the place of the last job that machine 2 waits for, the first place if it waits for none
pub record IsTurn (f : ℕ → ℕ → ℕ) (order : List ℕ) (n : ℕ) : Type 0 where
  pub place : n < length order
  pub awaited : IsAwaited f order n ⊎ (n ≡ 0)
  pub last : (m : ℕ) → n < m → m < length order → ¬ (IsAwaited f order m)

-- the jobs before place n, and also the job x at that place if it takes longer on machine 1
abbrev pub front_at : (ℕ → ℕ → ℕ) → List ℕ → ℕ → ℕ → List ℕ
front_at f order n x = if nat_le (f x 1) (f x 2) then take n order else take (n + 1) order

-- a split with this side, which job x reaches in its lesser time, on the machine of that time
abbrev pub split_by : (ℕ → ℕ → ℕ) → ℕ → List ℕ → Claim
split_by f x side =
    if nat_le (f x 1) (f x 2) then BySplit side (pos (f x 1)) true
    else BySplit side (pos (f x 2)) false

-- the split at the turn of the order, with its side in rising order
pub record IsTurnSplit (f : ℕ → ℕ → ℕ) (order : List ℕ) (claim : Claim) : Type 0 where
  pub turn : ℕ
  pub is_turn : IsTurn f order turn
  pub side : List ℕ
  pub front : IsPermutation (front_at f order turn (slice_index order turn)) side
  pub rising : IsNonDecreasing side
  pub certificate : claim ≡ split_by f (slice_index order turn) side

-- both machines run the jobs in Johnson's order, each operation as early as possible; the pieces
-- come by machine and start, and the certificate is the split at the turn
pub record RunsByJohnson (task : SchedulingTask) (pieces : List Piece) (claim : Claim) : Type 0 where
  pub order : List ℕ
  pub is_order : IsJohnsonOrder task order
  pub are : pieces ≡ laid (in_line (time_at task) order)
  pub certificate : IsTurnSplit (time_at task) order claim
