-- The columns of a class say all that it uses of its jobs.
use Rattle.std.proofs.Common.{◌≡◌, ◌<◌, ◌&&◌, ℕ, ℤ, zero, suc, pos, arith, Bool, true, false, List, [], ◌∷◌, get_or, map, length, refl, sym, ap, ◌∙◌, subst}
use Rattle.std.specs.List.{list_all}
use Rattle.std.specs.Prelude.{slice_get, unwrap_or}
use Rattle.std.proofs.lemmas.Bool.{cond-false}
use Rattle.std.proofs.lemmas.Option.{unwrap_or-slice_get}
use Rattle.std.proofs.lemmas.List.{ext_get_or, get_or-map, length-map}
use Rattle.std.proofs.lemmas.List.FromFn.{get_or-map-range_with_len, length-map-range_with_len}
use Rattle.tf_model.specs.ClassTable.{is_shop, is_weighted, is_released, is_due}
use Rattle.tf_model.specs.Complete.{is_complete}
use Rattle.tf_model.specs.JobFields.{JobFields}
use Rattle.tf_model.specs.JobRows.{HasRows, column, row_at, rows_of}
use Rattle.tf_model.specs.Prepare.{data_of, has_two, second_time}
use Rattle.tf_model.specs.SchedulingTask.{JobData, no_job}
use Rattle.tf_model.specs.declared.class.Class.{Class}
use Rattle.tf_model.specs.declared.job.Times.{Times}
use Rattle.tf_model.specs.declared.job.Times.TheVariants.{One, Two}
use Rattle.tf_model.specs.declared.job_rows.JobRows.{JobRows}
use Rattle.tf_model.specs.Whole.{as_time}
use Rattle.tf_model.proofs.Complete.{wrong_none}

pub rows_length : {A : Type 0} (rows : JobRows A)
    → length (rows_of rows) ≡ length rows.firsts.items
rows_length rows = length-map-range_with_len (row_at rows) 0 (length rows.firsts.items)

pub row_said : {A : Type 0} (rows : JobRows A) (k : ℕ) (d : JobData) → k < length (rows_of rows)
    → get_or (rows_of rows) k d ≡ row_at rows k
row_said rows k d within =
    get_or-map-range_with_len (row_at rows) 0 (length rows.firsts.items) k k d
    (subst (λ n. k < n) (rows_length rows) within) (omega arith)

-- what is in no column is neutral
pub row_read : {A : Type 0} (rows : JobRows A) (k first second weight release : ℕ) (due : ℤ)
    → get_or rows.firsts.items k 0 ≡ first
    → unwrap_or (slice_get rows.seconds.items k) 0 ≡ second
    → unwrap_or (slice_get rows.weights.items k) 1 ≡ weight
    → unwrap_or (slice_get rows.releases.items k) 0 ≡ release
    → unwrap_or (slice_get rows.dues.items k) (pos 0) ≡ due
    → row_at rows k
    ≡ record { first = first; second = second; weight = weight; release = release; due = due }
row_read rows k first second weight release due a b c d e = rw (
  a,
  sym (unwrap_or-slice_get rows.seconds.items k 0) ∙ b,
  sym (unwrap_or-slice_get rows.weights.items k 1) ∙ c,
  sym (unwrap_or-slice_get rows.releases.items k 0) ∙ d,
  sym (unwrap_or-slice_get rows.dues.items k (pos 0)) ∙ e,
) refl

-- ---- what the class does not use of a complete job is neutral

record IsNeutral (class : Class) (d : JobData) : Type 0 where
  second : is_shop class ≡ false → d.second ≡ 0
  weight : is_weighted class ≡ false → d.weight ≡ 1
  release : is_released class ≡ false → d.release ≡ 0
  due : is_due class ≡ false → d.due ≡ pos 0

no_second : (times : Times) → has_two times ≡ false → as_time (second_time times) ≡ 0
no_second (One a) one = refl
no_second (Two a b) one = cc

one_neutral : (class : Class) (job : JobFields) → is_complete class job ≡ true
    → IsNeutral class (data_of class job)
one_neutral class job whole = record {
  second = λ plain. no_second job.times
      (sym (cond-false (is_shop class) _ _ plain) ∙ wrong_none class job whole);
  weight = cond-false (is_weighted class) _ 1;
  release = cond-false (is_released class) _ 0;
  due = cond-false (is_due class) _ (pos 0);
}

both_left : (a b : Bool) → (a && b) ≡ true → a ≡ true
both_left true b e = refl
both_left false b e = cc

both_right : (a b : Bool) → (a && b) ≡ true → b ≡ true
both_right true b e = e
both_right false b e = cc

all_neutral : (class : Class) (jobs : List JobFields) → list_all (is_complete class) jobs ≡ true
    → (k : ℕ) → IsNeutral class (get_or (map (data_of class) jobs) k no_job)
all_neutral class [] whole k =
    record { second = λ e. refl; weight = λ e. refl; release = λ e. refl; due = λ e. refl }
all_neutral class (job ∷ jobs) whole zero =
    one_neutral class job (both_left (is_complete class job) _ whole)
all_neutral class (job ∷ jobs) whole (suc k) =
    all_neutral class jobs (both_right (is_complete class job) _ whole) k

-- ---- so the columns say all

column_at : {X : Type 0} (used : Bool) (number : JobData → X) (jobs : List JobData) (k : ℕ) (x : X)
    → k < length jobs → (used ≡ false → number (get_or jobs k no_job) ≡ x)
    → get_or (column used number jobs) k x ≡ number (get_or jobs k no_job)
column_at true number jobs k x within neutral = get_or-map number jobs k no_job x within
column_at false number jobs k x within neutral = sym (neutral refl)

pub rows_are : {A : Type 0} (class : Class) (rows : JobRows A) (jobs : List JobFields)
    → list_all (is_complete class) jobs ≡ true → HasRows class rows (map (data_of class) jobs)
    → rows_of rows ≡ map (data_of class) jobs
rows_are class rows jobs whole had = ext_get_or no_job (rows_of rows) said many each
  where
    said : List JobData
    said = map (data_of class) jobs

    many : length (rows_of rows) ≡ length said
    many = rows_length rows ∙ ap length had.firsts ∙ length-map said (λ d. d.first)

    each : (k : ℕ) → k < length (rows_of rows) → get_or (rows_of rows) k no_job ≡ get_or said k no_job
    each k lt =
        let within : k < length said = subst (λ n. k < n) many lt in
        let neutral = all_neutral class jobs whole k in
        row_said rows k no_job lt
        ∙ rw (
          had.firsts,
          had.seconds,
          had.weights,
          had.releases,
          had.dues,
          get_or-map (λ d. d.first) said k no_job 0 within,
          column_at (is_shop class) (λ d. d.second) said k 0 within neutral.second,
          column_at (is_weighted class) (λ d. d.weight) said k 1 within neutral.weight,
          column_at (is_released class) (λ d. d.release) said k 0 within neutral.release,
          column_at (is_due class) (λ d. d.due) said k (pos 0) within neutral.due,
        ) refl
