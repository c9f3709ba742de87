use Rattle.std.proofs.Common.{◌≡◌, ℕ, ◌+◌, Option, None, Some, Result, Ok, Err, List, [], ◌∷◌, refl, ap, sym, ◌∙◌, Bool, true, false, cond, map, length}
use Rattle.std.specs.Bool.{then_some}
use Rattle.std.specs.Prelude.{IsOk}
use Rattle.std.specs.Option.{option_map, option_or}
use Rattle.tf_model.specs.ClassTable.{class_of}
use Rattle.tf_model.specs.declared.class.Class.{Class}
use Rattle.tf_model.specs.declared.problem.Problem.{Problem}
use Rattle.tf_model.specs.declared.prepare.Refusal.{Refusal}
use Rattle.tf_model.specs.declared.prepare.Refusal.TheVariants.{WrongTimes, MissingField, ZeroTime, TotalTooLarge, OutOfMemory}
use Rattle.tf_model.specs.JobFields.{JobFields}
use Rattle.tf_model.specs.InstanceData.{InstanceData, first_with}
use Rattle.tf_model.specs.SchedulingTask.{SchedulingTask}
use Rattle.tf_model.specs.ClassTable.{is_shop}
use Rattle.tf_model.specs.Prepare.{is_too_many, machines_for, has_wrong_times, lacking, missing_from, has_zero_time, data_of, is_too_large, jobs_refusal, prepared, Prepares}
use Rattle.tf_model.proofs.prepare.prepare.Goals as goal

-- no refusal for the jobs' sake is want of memory
neither_is : (o later : Option Refusal) → ¬ (o ≡ Some OutOfMemory) → ¬ (later ≡ Some OutOfMemory)
    → ¬ (option_or o later ≡ Some OutOfMemory)
neither_is (Some refusal) later p q = p
neither_is None later p q = q

none_is : {A : Type 0} (f : A → Refusal) → ((x : A) → ¬ (f x ≡ OutOfMemory)) → (o : Option A)
    → ¬ (option_map f o ≡ Some OutOfMemory)
none_is f apart (Some x) e = apart x cc
none_is f apart None e = cc

missing_apart : (class : Class) (j : ℕ) (jobs : List JobFields)
    → ¬ (missing_from class j jobs ≡ Some OutOfMemory)
missing_apart class j [] = λ e. cc
missing_apart class j (job ∷ jobs) =
    neither_is (option_map (MissingField j) (lacking class job)) (missing_from class (j + 1) jobs)
    (none_is (MissingField j) (λ field e. cc) (lacking class job))
    (missing_apart class (j + 1) jobs)

zero_apart : (shop : Bool) (o : Option ℕ)
    → ¬ (cond shop None (option_map ZeroTime o) ≡ Some OutOfMemory)
zero_apart true o = λ e. cc
zero_apart false o = none_is ZeroTime (λ j e. cc) o

total_apart : (b : Bool) → ¬ (then_some b TotalTooLarge ≡ Some OutOfMemory)
total_apart true = λ e. cc
total_apart false = λ e. cc

memory_apart : (class : Class) (jobs : List JobFields)
    → ¬ (jobs_refusal class jobs ≡ Some OutOfMemory)
memory_apart class jobs =
    neither_is _ _ (none_is WrongTimes (λ j e. cc) (first_with (has_wrong_times class) jobs))
    (neither_is _ _ (missing_apart class 1 jobs)
    (neither_is _ _ (zero_apart (is_shop class) (first_with has_zero_time jobs))
    (total_apart (is_too_large class (map (data_of class) jobs)))))

refused : (refusal : Refusal) (wanted : Result SchedulingTask Refusal) → ¬ (refusal ≡ OutOfMemory)
    → wanted ≡ Err refusal → Prepares (Err refusal) wanted
refused OutOfMemory wanted apart e = absurd (apart refl)
refused _ wanted apart e = e

prepared-Err : (i : InstanceData) (problem : Problem) (argument count : Option ℕ) (class : Class)
    (m : ℕ) (jobs : List JobFields) (refusal : Refusal)
    → Some class ≡ class_of problem → is_too_many class (length i.jobs) ≡ false → count ≡ i.machines
    → Ok m ≡ machines_for class problem.count argument count
    → jobs ≡ i.jobs → Some refusal ≡ jobs_refusal class jobs
    → prepared i problem argument ≡ Err refusal
prepared-Err i problem argument count class m jobs refusal of few read_count counted read_jobs e =
    let count_is : machines_for class problem.count argument i.machines ≡ Ok m =
    sym (counted ∙ ap (machines_for class problem.count argument) read_count) in
    let refusal_is : jobs_refusal class i.jobs ≡ Some refusal =
    sym (e ∙ ap (jobs_refusal class) read_jobs) in
    rw (← of, few, count_is, refusal_is) refl

prepared-Ok : (i : InstanceData) (problem : Problem) (argument count : Option ℕ) (class : Class)
    (m : ℕ) (jobs : List JobFields)
    → Some class ≡ class_of problem → is_too_many class (length i.jobs) ≡ false → count ≡ i.machines
    → Ok m ≡ machines_for class problem.count argument count
    → jobs ≡ i.jobs → None ≡ jobs_refusal class jobs → IsOk (prepared i problem argument)
prepared-Ok i problem argument count class m jobs of few read_count counted read_jobs e =
    let count_is : machines_for class problem.count argument i.machines ≡ Ok m =
    sym (counted ∙ ap (machines_for class problem.count argument) read_count) in
    let none : jobs_refusal class i.jobs ≡ None = sym (e ∙ ap (jobs_refusal class) read_jobs) in
    rw (← of, few, count_is, none) refl

pub returns-in-Some-jobs_refusal : goal.returns-in-Some-jobs_refusal
returns-in-Some-jobs_refusal g c =
    refused c.in-Some-jobs_refusal.refusal _
    (λ e. memory_apart c.in-Some-class_of.class c.jobs.result.now
    (sym c.in-Some-jobs_refusal.ensures ∙ ap Some e))
    (prepared-Err c.args.instance.now c.args.problem.now c.args.machines c.machines.result
    c.in-Some-class_of.class c.in_ok-machines_for.field-0 c.jobs.result.now
    c.in-Some-jobs_refusal.refusal c.in-Some-class_of.ensures.value
    (ap (is_too_many c.in-Some-class_of.class) (sym c.len.ensures.value) ∙ sym c.is_too_many.ensures
    ∙ c.if-is_too_many.false)
    c.machines.ensures.value c.in_ok-machines_for.ensures c.jobs.ensures.value
    c.in-Some-jobs_refusal.ensures)

pub returns-in-None : goal.returns-in-None
returns-in-None g c =
    prepared-Ok c.args.instance.now c.args.problem.now c.args.machines c.machines.result
    c.in-Some-class_of.class c.in_ok-machines_for.field-0 c.jobs.result.now
    c.in-Some-class_of.ensures.value
    (ap (is_too_many c.in-Some-class_of.class) (sym c.len.ensures.value) ∙ sym c.is_too_many.ensures
    ∙ c.if-is_too_many.false)
    c.machines.ensures.value c.in_ok-machines_for.ensures c.jobs.ensures.value
    c.in-None.ensures
