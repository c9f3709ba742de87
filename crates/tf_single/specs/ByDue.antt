-- Free jobs by their due dates.
use Rattle.std.specs.Prelude.{◌≡◌, ℕ, ℤ, List, map, IsTrue}
use Rattle.std.specs.List.{All}
use Rattle.std.specs.Ordering.{nat_cmp}
use Rattle.tf_model.specs.ClassTable.{is_due}
use Rattle.tf_model.specs.SchedulingTask.{SchedulingTask, IsJob, job_data}
use Rattle.tf_check.specs.Ranked.{IsNear, IsRank, ranked}
use Rattle.tf_check.specs.declared.keyed_job.KeyedJob.{KeyedJob}
use Rattle.tf_single.specs.GreatestFirst.{AreOrdered, entries}
use Rattle.tf_single.specs.declared.greatest_first.GreatestFirst.{GreatestFirst}

-- the jobs of the entries
abbrev pub jobs_due : List KeyedJob → List ℕ
jobs_due es = map (λ e. e.job) es

-- the key is the job's due date
abbrev pub HasDue : SchedulingTask → KeyedJob → Type 0
HasDue k e = e.key ≡ (job_data k e.job).due

-- jobs and their due dates, where the class has them
pub record AreDue (k : SchedulingTask) (es : List KeyedJob) : Type 0 where
  pub class : IsTrue (is_due k.class)
  pub dues : All (HasDue k) es

-- the due date of each job of the task is at least the least, and near to it
abbrev pub AreNear : SchedulingTask → ℤ → Type 0
AreNear k least = (j : ℕ) → IsJob k j
    → IsNear least (record { key = (job_data k j).due; job = j })

-- the jobs of ranks, with their keys
abbrev pub jobs_ranked : {A : Type 0} → ℤ → GreatestFirst ℕ A → List KeyedJob
jobs_ranked least ranks = map (ranked least) (entries ranks)

-- ranks of jobs by their due dates
pub record AreRanked {A : Type 0} (k : SchedulingTask) (least : ℤ) (ranks : GreatestFirst ℕ A)
    : Type 0 where
  pub near : AreNear k least
  pub due : AreDue k (jobs_ranked least ranks)
  pub all : All (IsRank least) (entries ranks)
  pub ordered : AreOrdered nat_cmp ranks
