-- The columns of jobs: which a class uses, and what they say of a job.
use Rattle.std.specs.Prelude.{◌≡◌, ℕ, pos, Bool, List, [], map, length, slice_index_or, if◌then◌else◌}
use Rattle.std.specs.List.{range_with_len}
use Rattle.tf_model.specs.SchedulingTask.{JobData}
use Rattle.tf_model.specs.ClassTable.{is_shop, is_weighted, is_released, is_due}
use Rattle.tf_model.specs.declared.class.Class.{Class}
use Rattle.tf_model.specs.declared.job_rows.JobRows.{JobRows}

-- what they say of the job at a place, counted from 0; what is in no column is neutral
abbrev pub row_at : {A : Type 0} → JobRows A → ℕ → JobData
row_at rows k = record {
  first = slice_index_or rows.firsts.items k 0;
  second = slice_index_or rows.seconds.items k 0;
  weight = slice_index_or rows.weights.items k 1;
  release = slice_index_or rows.releases.items k 0;
  due = slice_index_or rows.dues.items k (pos 0);
}

-- what they say of the jobs, in the order of their numbers
abbrev pub rows_of : {A : Type 0} → JobRows A → List JobData
rows_of rows = map (row_at rows) (range_with_len 0 (length rows.firsts.items))

-- a column, which is empty where it is not used
abbrev pub column : {X : Type 0} → Bool → (JobData → X) → List JobData → List X
column used number jobs = if used then map number jobs else []

-- each column has these jobs' numbers, where the class uses it
pub record HasRows {A : Type 0} (class : Class) (rows : JobRows A) (jobs : List JobData)
    : Type 0 where
  pub firsts : rows.firsts.items ≡ map (λ d. d.first) jobs
  pub seconds : rows.seconds.items ≡ column (is_shop class) (λ d. d.second) jobs
  pub weights : rows.weights.items ≡ column (is_weighted class) (λ d. d.weight) jobs
  pub releases : rows.releases.items ≡ column (is_released class) (λ d. d.release) jobs
  pub dues : rows.dues.items ≡ column (is_due class) (λ d. d.due) jobs
