-- A task that grows job by job, and at its end.
use Rattle.std.specs.Prelude.{IfOk, IfSome, is_ok, if◌then◌else◌}
use Rattle.std.proofs.Common.{◌≡◌, ◌≢◌, ◌≤◌, ℕ, zero, suc, Bool, true, false, Option, None, Some, Result, Ok, Err, List, [], ◌∷◌, ◌++◌, append_assoc, map, length, sym, ap, ◌∙◌, refl, subst, arith, All}
use Rattle.std.specs.Bool.{then_some}
use Rattle.std.specs.List.{list_all}
use Rattle.std.specs.Result.{result_ok}
use Rattle.std.proofs.lemmas.Bool.{cond-false, cond-true}
use Rattle.std.proofs.lemmas.List.Elements.{All-append}
use Rattle.std.proofs.lemmas.List.Folds.{list_all-append}
use Rattle.std.proofs.lemmas.List.{append-nil, length-map, map-append}
use Rattle.tf_model.specs.StepFaults.{IsStepCost}
use Rattle.tf_model.specs.InstanceData.{InstanceData, IsInstance, has_negative, has_beyond}
use Rattle.tf_model.specs.Limit.{most_jobs}
use Rattle.tf_model.specs.JobFields.{JobFields}
use Rattle.tf_model.specs.JobRows.{rows_of}
use Rattle.tf_model.specs.SchedulingTask.{JobData, SchedulingTask}
use Rattle.tf_model.specs.Sound.{IsSound}
use Rattle.tf_model.specs.Summed.{HasSummed}
use Rattle.tf_model.specs.ClassTable.{is_costed}
use Rattle.tf_model.specs.Complete.{is_complete}
use Rattle.tf_model.specs.Prepare.{data_of, is_too_large, is_too_many, jobs_refusal, kept_arcs, kept_costs, prepared, steps_of, task_of}
use Rattle.tf_model.specs.Steps.{Steps}
use Rattle.tf_model.specs.declared.class.Class.{Class}
use Rattle.tf_model.specs.TaskBuilder.{HasTaken, HasJudged, CanFinish, Takes}
use Rattle.tf_model.specs.declared.prepare.Refusal.TheVariants.{TotalTooLarge}
use Rattle.tf_model.specs.declared.problem.Problem.{Problem}
use Rattle.tf_model.specs.declared.task_builder.TaskBuilder.{TaskBuilder}
use Rattle.tf_model.proofs.Complete.{complete_refusal}
use Rattle.tf_model.proofs.JobRows.{rows_are}
use Rattle.tf_model.proofs.Judged.{within_instance, within_more}
use Rattle.tf_model.proofs.Prepared.{IsCountFor-machines_for, task_of-IsSound}

-- no job more changes nothing
pub takes_none : {A : Type 0} (builder : TaskBuilder A) → Takes builder [] builder
takes_none builder = λ problem argument count before had.
    subst (HasTaken problem argument count builder) (sym (append-nil before)) had

-- some jobs more, and then one
pub takes_next : {A : Type 0} (old new next : TaskBuilder A) (jobs : List JobFields)
    (job : JobFields) → Takes old jobs new → Takes new (job ∷ []) next
    → Takes old (jobs ++ job ∷ []) next
takes_next old new next jobs job first second = λ problem argument count before had.
    subst (HasTaken problem argument count next) (append_assoc before jobs (job ∷ []))
    (second problem argument count _ (first problem argument count before had))

-- ---- what one job more makes of what was taken

-- what a call that gave something says
pub ok_holds : {X E P : Type 0} (r : Result X E) (x : X) → Some x ≡ result_ok r
    → IfOk r (λ _. P) → P
ok_holds (Ok y) x e h = h
ok_holds (Err f) x e h = cc

-- and what it made
pub ok_made : {X E A : Type 0} (r : Result X E) (x : X) (made new old : A) → Some x ≡ result_ok r
    → made ≡ (if is_ok r then new else old) → made ≡ new
ok_made (Ok y) x made new old e h = h
ok_made (Err f) x made new old e h = cc

pub complete_more : (class : Class) (before : List JobFields) (job : JobFields) (r : Bool)
    → list_all (is_complete class) before ≡ true → r ≡ true → r ≡ is_complete class job
    → list_all (is_complete class) (before ++ job ∷ []) ≡ true
complete_more class before job r all passed is =
    list_all-append (is_complete class) before (job ∷ []) ∙ rw (all, sym is ∙ passed) refl

pub data_more : (class : Class) (before : List JobFields) (job : JobFields) (row : JobData)
    → row ≡ data_of class job
    → map (data_of class) before ++ row ∷ [] ≡ map (data_of class) (before ++ job ∷ [])
data_more class before job row is =
    ap (λ d. map (data_of class) before ++ d ∷ []) is
    ∙ sym (map-append (data_of class) before (job ∷ []))

pub costs_more : (class : Class) (before : List JobFields) (job : JobFields) (old new : List Steps)
    (cost : Steps) → is_costed class ≡ true → old ≡ kept_costs class before → new ≡ old ++ cost ∷ []
    → cost ≡ steps_of job → new ≡ kept_costs class (before ++ job ∷ [])
costs_more class before job old new cost costed had pushed is =
    pushed
    ∙ ap (λ xs. xs ++ cost ∷ []) (had ∙ cond-true (is_costed class) (map steps_of before) [] costed)
    ∙ ap (λ x. map steps_of before ++ x ∷ []) is
    ∙ sym (map-append steps_of before (job ∷ []))
    ∙ sym (cond-true (is_costed class) (map steps_of (before ++ job ∷ [])) [] costed)

pub costs_stay : (class : Class) (before : List JobFields) (job : JobFields) (old : List Steps)
    → is_costed class ≡ false → old ≡ kept_costs class before
    → old ≡ kept_costs class (before ++ job ∷ [])
costs_stay class before job old plain had =
    had ∙ cond-false (is_costed class) (map steps_of before) [] plain
    ∙ sym (cond-false (is_costed class) (map steps_of (before ++ job ∷ [])) [] plain)

one_sound : (cost : Steps) → IsStepCost cost → All IsStepCost (cost ∷ [])
one_sound cost h zero d lt = h
one_sound cost h (suc k) d lt = absurd (omega (arith, lt))

pub sound_more : (old new : List Steps) (cost : Steps) → All IsStepCost old → IsStepCost cost
    → new ≡ old ++ cost ∷ [] → All IsStepCost new
sound_more old new cost had sound pushed =
    subst (All IsStepCost) (sym pushed)
    (All-append IsStepCost old (cost ∷ []) had (one_sound cost sound))

module _ {A : Type 0} (builder : TaskBuilder A) (kept given : List (ℕ × ℕ)) (problem : Problem)
    (argument : Option ℕ) (i : InstanceData)
    (had : HasTaken problem argument i.machines builder i.jobs)
    (arcs : kept ≡ kept_arcs builder.class given) (same : i.arcs ≡ given)
    (small : (rows : List JobData) → HasSummed builder.totals rows
    → false ≡ is_too_large builder.class rows) where
  abbrev task : SchedulingTask
  task = record {
    class = builder.class;
    machines = builder.machines;
    jobs = rows_of builder.rows;
    costs = builder.costs.items;
    arcs = kept;
  }

  -- nothing of it is refused
  none_refused : jobs_refusal builder.class i.jobs ≡ None
  none_refused =
      complete_refusal builder.class i.jobs had.complete
      ∙ ap (λ b. then_some b TotalTooLarge)
      (sym (small (map (data_of builder.class) i.jobs) had.summed))

  -- its parts are those of the task
  parts_are : task ≡ task_of builder.class builder.machines i
  parts_are =
      rw (rows_are builder.class builder.rows i.jobs had.complete had.rows, had.costs, arcs, same)
      refl

  -- so it is sound
  pub built_sound : IsInstance i → IsSound task
  built_sound instance =
      subst IsSound (sym parts_are)
      (task_of-IsSound builder.class builder.machines i instance none_refused
      (IsCountFor-machines_for builder.class problem.count argument i.machines builder.machines
      had.machines_are)
      (subst (All IsStepCost) had.costs had.sound))

  -- and it is the task that is prepared
  pub built_prepared : is_too_many builder.class builder.totals.jobs ≡ false
      → prepared i problem argument ≡ Ok task
  built_prepared few =
      let count : builder.totals.jobs ≡ length i.jobs =
      had.summed.count ∙ length-map i.jobs (data_of builder.class) in
      let enough : is_too_many builder.class (length i.jobs) ≡ false =
      ap (is_too_many builder.class) (sym count) ∙ few in
      rw (had.class_is, enough, had.machines_are, none_refused) (ap Ok (sym parts_are))

-- ---- jobs that are judged as they come

pub judged_more : {A : Type 0} (old new : TaskBuilder A) (job : JobFields) (r : Option (Unit {0}))
    → IfSome r (λ _. Takes old (job ∷ []) new) → has_negative job ≡ false → has_beyond job ≡ false
    → IfSome r (λ _. HasJudged old → HasJudged new)
judged_more old new job None takes negative beyond = tt
judged_more old new job (Some u) takes negative beyond = λ had.
    let (problem, argument, jobs, taken, all) = had in (
      problem,
      argument,
      jobs ++ job ∷ [],
      takes problem argument None jobs taken,
      within_more jobs job all negative beyond,
    )

pub judged_instance : {A : Type 0} (builder : TaskBuilder A) (arcs : List (ℕ × ℕ))
    → HasJudged builder → arcs ≡ [] → builder.totals.jobs ≢ 0 → builder.totals.jobs ≤ most_jobs
    → CanFinish builder arcs
judged_instance builder arcs had none some few =
    let (problem, argument, jobs, taken, all) = had in
    let count : builder.totals.jobs ≡ length jobs =
    taken.summed.count ∙ length-map jobs (data_of builder.class) in (
      problem,
      argument,
      record { jobs = jobs; arcs = []; machines = None },
      taken,
      sym none,
      within_instance jobs all (omega (arith, count, some)) (omega (arith, count, few)),
    )
