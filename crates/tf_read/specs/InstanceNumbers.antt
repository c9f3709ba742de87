-- The numbers of an instance as a file has them.
use Rattle.std.specs.Prelude.{◌≡◌, ℕ, ◌*◌, [], length, map, Option}
use Rattle.std.specs.List.{range_with_len}
use Rattle.tf_model.specs.JobFields.{JobFields}
use Rattle.tf_model.specs.InstanceData.{InstanceData}
use Rattle.tf_read.specs.declared.instance_numbers.Columns.{Columns}
use Rattle.tf_read.specs.declared.instance_numbers.Columns.TheVariants.{Tardiness, Shop}
use Rattle.tf_read.specs.WeightedTardiness.{tardiness_job}
use Rattle.tf_read.specs.Pairs.{kept_job}

-- each job, from 0, of so many
abbrev pub job_of : {A : Type 0} → ℕ → Columns A → ℕ → JobFields
job_of jobs (Tardiness numbers) = tardiness_job jobs numbers.items
job_of jobs (Shop machines firsts seconds) = kept_job machines firsts.items seconds.items

-- so many jobs are there
abbrev pub HasJobs : {A : Type 0} → ℕ → Columns A → Type 0
HasJobs jobs (Tardiness numbers) = length numbers.items ≡ 3 * jobs
HasJobs jobs (Shop machines firsts seconds) =
    (length firsts.items ≡ jobs) × (length seconds.items ≡ jobs)

-- the instance of so many jobs and this number of machines
abbrev pub numbered : {A : Type 0} → Columns A → ℕ → Option ℕ → InstanceData
numbered columns jobs machines = record {
  jobs = map (job_of jobs columns) (range_with_len 0 jobs);
  arcs = [];
  machines = machines;
}
