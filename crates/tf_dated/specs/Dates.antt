-- The dates of an instance's jobs.
use Rattle.std.specs.Prelude.{List, map, None, if◌then◌else◌}
use Rattle.tf_model.specs.JobFields.{JobFields}
use Rattle.tf_model.specs.declared.problem.Problem.{Problem}
use Rattle.tf_picture.specs.declared.dates.JobDates.{JobDates}
use Rattle.tf_prepare.specs.Preparing.{uses_due}

-- the dates of a job that a problem uses
abbrev pub dates_of : Problem → JobFields → JobDates
dates_of p job = record {
  release = if p.release then job.release else None;
  due = if uses_due p.goal then job.due else None;
}

-- those of all jobs of an instance
abbrev pub dates_in : Problem → List JobFields → List JobDates
dates_in p jobs = map (dates_of p) jobs
