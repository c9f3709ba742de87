-- How the jobs pass the machines.
use Rattle.std.specs.Prelude.{◌≡◌, ◌≢◌, ℕ, ◌+◌, ◌-◌, ◌<◌, ◌≤◌, List, set, length, slice_index, slice_index_or}
use Rattle.std.specs.List.{All, sum_by}
use Rattle.tf_schedule.specs.declared.piece.Piece.{Piece}
use Rattle.tf_schedule.specs.declared.job_order.Walk.{Walk}
use Rattle.tf_schedule.specs.declared.job_order.Walk.TheVariants.{Settled, Raised, Endless}

-- of two pieces that follow one another, the second is of a job that passes the machine of the
-- first one behind its job
pub record IsPassed (p q : Piece) : Type 0 where
  pub machine : p.machine ≡ q.machine
  pub other : p.job ≢ q.job

-- each job is placed before the one that follows it on a machine
abbrev pub ArePlaced : (ℕ → ℕ) → List Piece → Type 0
ArePlaced place ps = (i : ℕ) (d : Piece) → i + 1 < length ps
    → IsPassed (slice_index_or ps i d) (slice_index_or ps (i + 1) d)
    → place (slice_index_or ps i d).job < place (slice_index_or ps (i + 1) d).job

-- ---- ranks, in a list for the jobs from 1 on

abbrev pub rank_in : List ℕ → ℕ → ℕ
rank_in ranks j = slice_index ranks (j - 1)

abbrev pub IsRankOf : List ℕ → ℕ → Type 0
IsRankOf ranks j = (1 ≤ j) × (j ≤ length ranks)

abbrev pub AreRanks : List ℕ → Type 0
AreRanks ranks = All (λ r. r < length ranks) ranks

-- no rank is above the job's place
abbrev pub AreBelow : List ℕ → (ℕ → ℕ) → Type 0
AreBelow ranks place = (j : ℕ) → IsRankOf ranks j → rank_in ranks j ≤ place j

-- in places that are not below the ranks some job has to come after as many jobs as there are
abbrev pub IsEndless : List ℕ → List Piece → Type 0
IsEndless ranks ps = (place : ℕ → ℕ) → ArePlaced place ps → AreBelow ranks place
    → (j : ℕ) × IsRankOf ranks j × (length ranks ≤ place j)

-- what a step from one job to the next did to the ranks
abbrev pub IsRaised : List ℕ → ℕ → ℕ → List ℕ → Walk → Type 0
IsRaised old i j new Settled = (new ≡ old) × (rank_in old i < rank_in old j)
IsRaised old i j new Raised = (new ≡ set old (j - 1) (rank_in old i + 1))
    × (rank_in old j < rank_in old i + 1) × (rank_in old i + 1 < length old)
IsRaised old i j new Endless = (new ≡ old) × (length old ≤ rank_in old i + 1)

abbrev pub IsOutcome : List Piece → List ℕ → List ℕ → Walk → Type 0
IsOutcome ps old new Settled = ArePlaced (rank_in new) ps
IsOutcome ps old new Raised = sum_by (λ r. r) old < sum_by (λ r. r) new
IsOutcome ps old new Endless = IsEndless old ps

-- what a walk over the pieces did to them
pub record IsWalked (ps : List Piece) (old new : List ℕ) (walk : Walk) : Type 0 where
  pub len : length new ≡ length old
  pub small : AreRanks new
  pub below : (place : ℕ → ℕ) → ArePlaced place ps → AreBelow old place → AreBelow new place
  pub outcome : IsOutcome ps old new walk
