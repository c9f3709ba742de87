-- What a task asks, as the definitions speak of it.
use Rattle.std.specs.Prelude.{ℕ, zero, suc, ◌+◌, ◌-◌, ◌≤◌, ℤ, pos, List, length, slice_index_or}
use Rattle.std.specs.List.{range_with_len}
use Rattle.tf_model.specs.Steps.{Steps, no_steps}
use Rattle.tf_model.specs.declared.class.Class.{Class}

-- What a class does not use has its neutral value: second time 0, weight 1, release date 0, due
-- date 0.
pub record JobData : Type 0 where
  pub first : ℕ  -- the job's time; in a shop its time on machine 1
  pub second : ℕ  -- in a shop its time on machine 2
  pub weight : ℕ
  pub release : ℕ
  pub due : ℤ

abbrev pub no_job : JobData
no_job = record { first = 0; second = 0; weight = 1; release = 0; due = pos 0 }

-- A task (Pinedo, section 2.1): the jobs, numbered from 1; their cost functions, where the class
-- has them; and the arcs,
-- of which the first job is over before the second begins.
pub record SchedulingTask : Type 0 where
  pub class : Class
  pub machines : ℕ
  pub jobs : List JobData
  pub costs : List Steps
  pub arcs : List (ℕ × ℕ)

-- the numbers of the jobs, 1 to n
abbrev pub all_jobs : SchedulingTask → List ℕ
all_jobs k = range_with_len 1 (length k.jobs)

abbrev pub IsJob : SchedulingTask → ℕ → Type 0
IsJob k j = (1 ≤ j) × (j ≤ length k.jobs)

abbrev pub job_data : SchedulingTask → ℕ → JobData
job_data k j = slice_index_or k.jobs (j - 1) no_job

-- the time of a job, on all machines together
abbrev pub time_of : SchedulingTask → ℕ → ℕ
time_of k j = (job_data k j).first + (job_data k j).second

-- the time of a job on a machine of a shop, which are 0 and 1
abbrev pub time_on : SchedulingTask → ℕ → ℕ → ℕ
time_on k j zero = (job_data k j).first
time_on k j (suc i) = (job_data k j).second

-- the cost function of a job
abbrev pub costs_of : SchedulingTask → ℕ → Steps
costs_of k j = slice_index_or k.costs (j - 1) no_steps
