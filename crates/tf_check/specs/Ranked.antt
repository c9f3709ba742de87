-- Jobs with keys that are near to one another, each as one number.
use Rattle.std.specs.Prelude.{ℕ, ◌<◌, ◌/◌, ◌%◌, ℤ, pos, ◌+ℤ◌, ◌≤ℤ◌}
use Rattle.tf_check.specs.declared.keyed_job.KeyedJob.{KeyedJob}
use Rattle.tf_check.specs.declared.keyed_job.KeySpan.{KeySpan}

-- the key lies within the span
abbrev pub IsBetween : KeySpan → ℤ → Type 0
IsBetween span key = (span.least ≤ℤ key) × (key ≤ℤ span.greatest)

-- the key is at least the least, and less than 2^32 from it
pub record IsNear (least : ℤ) (j : KeyedJob) : Type 0 where
  pub low : least ≤ℤ j.key
  pub high : j.key ≤ℤ (least +ℤ pos 4294967295)

-- the job of a rank, which is the distance of its key from the least, times 2^32, and its number
abbrev pub ranked : ℤ → ℕ → KeyedJob
ranked least r = record { key = least +ℤ pos (r / 4294967296); job = r % 4294967296 }

-- there is such a job, with a key of 64 bits
pub record IsRank (least : ℤ) (r : ℕ) : Type 0 where
  pub job : 0 < r % 4294967296
  pub key : (least +ℤ pos (r / 4294967296)) ≤ℤ pos 9223372036854775807
