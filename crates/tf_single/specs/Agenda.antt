-- What is still to come, and the released unfinished jobs.
use Rattle.std.specs.Prelude.{◌≡◌, ℕ, pos, ◌+◌, ◌/◌, ◌≤◌, ◌==◌, nat_lt, if◌then◌else◌, List, [], ◌∷◌, ◌++◌, length}
use Rattle.std.specs.List.{All, sum, sum_by, count_by}
use Rattle.std.specs.List.Sorted.{IsNonDecreasingBy}
use Rattle.std.specs.BinaryHeap.{IsHeap}
use Rattle.std.specs.Ordering.{nat_cmp, int_cmp, ordering_then}
use Rattle.std.specs.declared.cmp.Ordering.{Ordering}
use Rattle.tf_schedule.specs.declared.piece.Piece.{Piece}
use Rattle.tf_model.specs.Limit.{limit}
use Rattle.tf_model.specs.SchedulingTask.{SchedulingTask, IsJob, all_jobs, job_data, time_of}
use Rattle.tf_check.specs.RatioRank.{IsOfJob, job_in}
use Rattle.tf_single.specs.declared.timeline.Urgency.{Urgency}
use Rattle.tf_single.specs.Horn.{IsContinued}
use Rattle.tf_single.specs.Progress.{run_of, of_job, IsProgress}

-- the jobs are in order of their release dates
abbrev pub AreByRelease : SchedulingTask → List ℕ → Type 0
AreByRelease k jobs = IsNonDecreasingBy (λ j. (job_data k j).release) jobs

-- the release date of a job and its number, as one number
pub record IsReleaseRank (k : SchedulingTask) (r : ℕ) : Type 0 where
  pub job : IsOfJob r
  pub release : r / 4294967296 ≡ (job_data k (job_in r)).release

-- the job is one of the task, with its due date
pub record IsUrgency (k : SchedulingTask) (u : Urgency) : Type 0 where
  pub job : IsJob k u.job.0
  pub due : u.due.0 ≡ (job_data k u.job.0).due

-- how often the job is in the list, and in the entries
abbrev pub places_of : List ℕ → ℕ → ℕ
places_of jobs j = count_by (λ i. j == i) jobs

abbrev pub entries_of : List Urgency → ℕ → ℕ
entries_of ready j = count_by (λ u. j == u.job.0) ready

-- the greater is due earlier, or as early and of smaller number
abbrev pub urgency_cmp : Urgency → Urgency → Ordering
urgency_cmp u v = ordering_then (int_cmp v.due.0 u.due.0) (nat_cmp v.job.0 u.job.0)

-- at `now`, those to come and those that are ready are the jobs of which some time is left, each
-- once
pub record IsAgenda (k : SchedulingTask) (coming : List ℕ) (ready : List Urgency) (rest : ℕ → ℕ)
    (now : ℕ) : Type 0 where
  pub arriving : All (IsJob k) coming
  pub in_order : AreByRelease k coming
  pub later : All (λ j. now ≤ (job_data k j).release) coming
  pub known : All (IsUrgency k) ready
  pub released : All (λ u. (job_data k u.job.0).release ≤ now) ready
  pub heap : IsHeap urgency_cmp ready
  pub each : (j : ℕ) → IsJob k j
      → places_of coming j + entries_of ready j ≡ (if nat_lt 0 (rest j) then 1 else 0)

-- of how many jobs some time is left
abbrev pub unfinished : List ℕ → ℕ
unfinished rest = count_by (λ n. nat_lt 0 n) rest

-- the machine at `now`: its pieces, the time that each job still needs, and the jobs that are ready
pub record IsUnderway (k : SchedulingTask) (coming : List ℕ) (ready : List Urgency) (rest : List ℕ)
    (ps : List Piece) (now : ℕ) : Type 0 where
  pub len : length rest ≡ length k.jobs
  pub progress : IsProgress k ps (of_job rest) now
  pub agenda : IsAgenda k coming ready (of_job rest) now
  -- all that is left can be done by the limit
  pub left : sum rest ≤ sum_by (time_of k) (all_jobs k)
  pub within : now + sum rest ≤ limit

-- the pieces qs are ps and job x in [a, b): a piece of its own, unless the last piece goes on
pub data IsLonger (ps qs : List Piece) (x a b : ℕ) : Type 0 where
  Pushed : ((hs : List Piece) (p : Piece) → ps ≡ hs ++ p ∷ [] → ¬ (IsContinued p (run_of x a b)))
      → qs ≡ ps ++ run_of x a b ∷ [] → IsLonger ps qs x a b
  Joined : (hs : List Piece) (p : Piece) → ps ≡ hs ++ p ∷ [] → p.job ≡ x → p.stop ≡ pos a
      → qs ≡ hs ++ record { job = p.job; machine = p.machine; start = p.start; stop = pos b } ∷ []
      → IsLonger ps qs x a b
