-- Dates of jobs that follow along arcs from dates of their own.
use Rattle.std.specs.Prelude.{◌≡◌, ℕ, zero, suc, ◌⊎◌, ◌+◌, ◌-◌, ◌*◌, ◌≤◌, ◌<◌, min, Bool, true, false, List, length, slice_index, slice_set}
use Rattle.std.specs.List.{All, Contains}
use Rattle.tf_model.specs.Limit.{limit, most_jobs}
use Rattle.tf_problem.specs.Pushed.{release_in}
use Rattle.tf_bound.specs.declared.along.Raise.{Raise}
use Rattle.tf_bound.specs.declared.along.Raise.TheVariants.{Unmoved, Raised, Beyond}

-- the date of a job is no later than that of a job before it and that job's time
abbrev pub FollowsByArc : List ℕ → List ℕ → List (ℕ × ℕ) → ℕ → Type 0
FollowsByArc work dates arcs j = (i : ℕ) × Contains arcs (i, j)
    × (release_in dates j ≤ release_in dates i + release_in work i)

-- Each date is at least the job's own, and along an arc at least the date of the job before and its
-- time; and none is later than that asks. The lists are in the order of the jobs.
pub record AreAlong (own work : List ℕ) (arcs : List (ℕ × ℕ)) (dates : List ℕ) : Type 0 where
  pub len : length dates ≡ length own
  pub from_own : (i : ℕ) → i < length own → slice_index own i ≤ slice_index dates i
  pub along : All (λ arc. release_in dates arc.0 + release_in work arc.0 ≤ release_in dates arc.1) arcs
  pub least : (i : ℕ) → i < length own
      → (slice_index dates i ≤ slice_index own i) ⊎ FollowsByArc work dates arcs (i + 1)

-- no date is later than twice the limit
abbrev pub AreWithin : List ℕ → Type 0
AreWithin dates = (i : ℕ) → slice_index dates i ≤ 2 * limit

-- ---- what the walk is given

-- the times of n jobs
pub record AreTimes (n : ℕ) (work : List ℕ) : Type 0 where
  pub len : length work ≡ n
  pub some : (i : ℕ) → i < n → 1 ≤ slice_index work i
  pub small : (i : ℕ) → slice_index work i ≤ limit

abbrev pub IsAmong : ℕ → ℕ → Type 0
IsAmong n j = (1 ≤ j) × (j ≤ n)

-- the arcs are between some of n jobs
abbrev pub AreAmong : ℕ → List (ℕ × ℕ) → Type 0
AreAmong n arcs = All (λ arc. IsAmong n arc.0 × IsAmong n arc.1) arcs

pub record AreDated (own work : List ℕ) (arcs : List (ℕ × ℕ)) : Type 0 where
  pub few : length own ≤ most_jobs
  pub within : AreWithin own
  pub times : AreTimes (length own) work
  pub among : AreAmong (length own) arcs

-- ---- dates that are raised

-- The dates are at least the jobs' own, and none is later than the arcs ask, but an arc may ask for
-- a later one.
pub record IsRaised (own work : List ℕ) (arcs : List (ℕ × ℕ)) (dates : List ℕ) : Type 0 where
  pub len : length dates ≡ length own
  pub from_own : (i : ℕ) → i < length own → slice_index own i ≤ slice_index dates i
  pub least : (i : ℕ) → i < length own
      → (slice_index dates i ≤ slice_index own i) ⊎ FollowsByArc work dates arcs (i + 1)
  pub below : (r : List ℕ) → AreAlong own work arcs r
      → (i : ℕ) → slice_index dates i ≤ slice_index r i

-- when the job before an arc is completed, if it starts at its date
abbrev pub end_before : List ℕ → List ℕ → ℕ × ℕ → ℕ
end_before work dates arc = release_in dates arc.0 + release_in work arc.0

-- the date of the job behind an arc is raised to that, where it is before, and the later one within
-- twice the limit
abbrev pub IsRaising : List ℕ → List ℕ → ℕ × ℕ → List ℕ → Raise → Type 0
IsRaising work dates arc new Unmoved =
    (new ≡ dates) × (end_before work dates arc ≤ release_in dates arc.1)
IsRaising work dates arc new Raised =
    (new ≡ slice_set dates (arc.1 - 1) (end_before work dates arc))
    × (release_in dates arc.1 < end_before work dates arc)
    × (end_before work dates arc ≤ 2 * limit)
IsRaising work dates arc new Beyond = (new ≡ dates) × (2 * limit < end_before work dates arc)

-- how many of the first n dates are before those of r
abbrev pub before_in : List ℕ → List ℕ → ℕ → ℕ
before_in r dates zero = 0
before_in r dates (suc n) =
    before_in r dates n + min 1 (slice_index r n - slice_index dates n)

-- What a pass comes to. Where none is raised, the dates are those that the arcs ask for. Where one
-- is, fewer are before those, whichever they are. Where one would be beyond twice the limit, one of
-- those is.
abbrev pub IsPassed : List ℕ → List (ℕ × ℕ) → List ℕ → List ℕ → Raise → Type 0
IsPassed work arcs dates new Unmoved =
    (own : List ℕ) → IsRaised own work arcs dates → AreAlong own work arcs new
IsPassed work arcs dates new Raised =
    (own : List ℕ) → IsRaised own work arcs dates → IsRaised own work arcs new
    × ((r : List ℕ) → AreAlong own work arcs r
    → before_in r new (length new) < before_in r dates (length dates))
IsPassed work arcs dates new Beyond =
    (own r : List ℕ) → IsRaised own work arcs dates → AreAlong own work arcs r → ¬ (AreWithin r)

-- the dates are those that the arcs ask for, or those are beyond twice the limit
abbrev pub IsSettled : List ℕ → List ℕ → List (ℕ × ℕ) → List ℕ → Bool → Type 0
IsSettled own work arcs dates true = AreAlong own work arcs dates
IsSettled own work arcs dates false = (r : List ℕ) → AreAlong own work arcs r → ¬ (AreWithin r)

-- dates that are raised along some of the arcs stay so
pub record KeepsRaised (work : List ℕ) (some : List (ℕ × ℕ)) (dates new : List ℕ) : Type 0 where
  pub len : length new ≡ length dates
  pub within : AreWithin new
  pub keeps : (own : List ℕ) (arcs : List (ℕ × ℕ)) → All (Contains arcs) some
      → IsRaised own work arcs dates → IsRaised own work arcs new

-- ---- cycles

-- A job waits, and each that waits comes by an arc behind one that does.
pub record IsEndless (waits : List ℕ) (arcs : List (ℕ × ℕ)) : Type 0 where
  pub some : (i : ℕ) × (0 < slice_index waits i)
  pub each : (i : ℕ) → 0 < slice_index waits i
      → (j : ℕ) × Contains arcs (j, i + 1) × (0 < release_in waits j)
