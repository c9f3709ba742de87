-- Jobs by the ratio of weight to time, each as one number.
use Rattle.std.specs.Prelude.{◌≡◌, ℕ, zero, suc, ◌+◌, ◌*◌, ◌<◌, ◌≤◌, ◌/◌, ◌%◌}
use Rattle.tf_model.specs.SchedulingTask.{SchedulingTask, IsJob, job_data, time_of}

-- times that are scaled by s are small, and two of them over their weights differ in their whole
-- parts or not at all, as the weights are at most the root of s
pub record IsScale (k : SchedulingTask) (s : ℕ) : Type 0 where
  pub root : ℕ
  pub square : root * root ≡ s
  pub weights : (j : ℕ) → IsJob k j → (job_data k j).weight ≤ root
  pub times : (j : ℕ) → IsJob k j → time_of k j * s < 4294967295

-- the scaled time over the weight; without weight, more than any other
abbrev pub scaled : ℕ → ℕ → ℕ → ℕ
scaled zero time s = 4294967295
scaled (suc w) time s = (time * s) / suc w

-- the number of the job is the rest of a rank, behind 2^32
abbrev pub job_in : ℕ → ℕ
job_in r = r % 4294967296

-- a rank of some job
abbrev pub IsOfJob : ℕ → Type 0
IsOfJob r = 0 < job_in r

-- the rank of a job of the task
pub record IsRankIn (k : SchedulingTask) (s r : ℕ) : Type 0 where
  pub job : IsJob k (job_in r)
  pub is : r
      ≡ scaled (job_data k (job_in r)).weight (time_of k (job_in r)) s * 4294967296 + job_in r
