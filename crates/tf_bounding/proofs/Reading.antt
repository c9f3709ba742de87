-- Reading the task of a problem.
use Rattle.std.proofs.Common.{◌≡◌, ℕ, ◌⊎◌, true, List, Option, Some, Result, Ok, Err, refl, sym, ap, subst, ◌∙◌, inl, inr}
use Rattle.tf_model.specs.Outcome.{◌>>=◌}
use Rattle.tf_model.specs.declared.problem.Problem.{Problem}
use Rattle.tf_model.specs.declared.prepare.Refusal.{Refusal}
use Rattle.tf_model.specs.declared.prepare.Refusal.TheVariants as refusals
use Rattle.tf_posed.specs.ProblemData.{ProblemData}
use Rattle.tf_bound.specs.Sized.{IsSized}
use Rattle.tf_text.specs.declared.counted.Counted.{Counted}
use Rattle.tf_text.specs.Counted.{inner_of, has_failed}
use Rattle.tf_engine.specs.declared.fault.RunFault.{RunFault}
use Rattle.tf_engine.specs.FormData.{FormData}
use Rattle.tf_engine.specs.Faults.{Refused, ByTask, Stop, Refuses, Fails, Wants, stop_of}
use Rattle.tf_engine.specs.Passed.{of_refusal}
use Rattle.tf_engine.specs.Parts.{ReadsTo, StopsBy, StopsReading}
use Rattle.tf_engine.specs.Refusal.{refused_by}
use Rattle.tf_engine.specs.RequestData.{RequestData}
use Rattle.tf_engine.proofs.CaseRead.{instance_left, instance_unread}
use Rattle.tf_engine.proofs.Devices.{instance_later}
use Rattle.tf_engine.proofs.Unread.{text_for}
use Rattle.tf_prepare.specs.Preparing.{prepared_in, PreparesIn}
use Rattle.tf_prepare.specs.TimedData.{TimedData}
use Rattle.tf_bounding.specs.ShopTimes.{timed_said}
use Rattle.tf_bounding.specs.RunBounding.{problem_in, problem_task_in, problem_task_for, IsRefusedBound, ReadsProblemTask}

-- a refusal of what was wanted, or a total that is beyond the limit
abbrev IsRefusal : Result ProblemData Refused → Refused → Type 0
IsRefusal wanted refused =
    (wanted ≡ Err refused)
    ⊎ ((refused ≡ ByTask refusals.TotalTooLarge) × ((task : ProblemData) × (wanted ≡ Ok task) × (IsSized task → ⊥)))

too_large : (wanted : Result ProblemData Refusal) (k : ProblemData) → wanted ≡ Ok k
    → (IsSized k → ⊥) → IsRefusal (refused_by ByTask wanted) (ByTask refusals.TotalTooLarge)
too_large wanted k is large = inr (refl, (k, ap (refused_by ByTask) is, large))

-- why an instance is no task of the problem stops the run
exact : (A : Type 0) (wanted : Result ProblemData Refusal) (refusal : Refusal)
    → wanted ≡ Err refusal
    → StopsBy (IsRefusal (refused_by ByTask wanted)) (stop_of (of_refusal {A = A} refusal))
exact A wanted refusals.OutOfMemory h = tt
exact A wanted _ h = inl (ap (refused_by ByTask) h)

unprepared : (A : Type 0) (wanted : Result ProblemData Refusal) (refusal : Refusal)
    → PreparesIn (Err refusal) wanted
    → StopsBy (IsRefusal (refused_by ByTask wanted)) (stop_of (of_refusal {A = A} refusal))
unprepared A wanted refusal (inl h) = exact A wanted refusal h
unprepared A wanted refusal (inr (k, is, inl same)) = rw same tt
unprepared A wanted refusal (inr (k, is, inr (same, large))) = rw same (too_large wanted k is large)

module _ (A T : Type 0) (request : RequestData) (remaining : T → Option (List ℕ)) (old : Counted T)
  where
    -- the problem line was refused
    pub unread : (e : RunFault A) (refused : Refused) → stop_of e ≡ Refuses refused
        → problem_in request.problem ≡ Err refused
        → ReadsProblemTask request remaining old old (Err e)
    unread e refused same is_refused =
        let (text, is) = text_for (remaining (inner_of old)) in
        record {
          text = text;
          is_all = is;
          given = subst (StopsReading (IsRefusedBound request text) (has_failed old ≡ true))
              (sym same)
              (inl (ap (λ r. r >>= λ problem. problem_task_in request problem text) is_refused));
          reader = instance_unread (problem_in request.problem) refused remaining old
              (Some (stop_of e)) is_refused (ap Some same);
        }

    module _ (new : Counted T) (problem : Problem)
        (line : problem_in request.problem ≡ Ok problem) where
      -- what a text says of the instance
      abbrev says : List ℕ → Result TimedData Refused
      says = timed_said request.form problem.env

      -- what the text means, once the problem is known
      meant : (text : List ℕ) → problem_task_for request text ≡ problem_task_in request problem text
      meant text = ap (λ r. r >>= λ problem. problem_task_in request problem text) line

      -- no instance was read
      pub uninstanced : (e : RunFault A)
          → ReadsTo says remaining old new (Err e)
          → ReadsProblemTask request remaining old new (Err e)
      uninstanced e had = record {
        text = had.text;
        is_all = had.is_all;
        given = stopped (stop_of e) had.given;
        reader = instance_left (problem_in request.problem) problem says remaining old new
            (Err e) line had;
      }
        where
          stopped : (s : Stop)
              → StopsReading (λ refused. says had.text ≡ Err refused)
              (has_failed new ≡ true) s
              → StopsReading (IsRefusedBound request had.text) (has_failed new ≡ true) s
          stopped (Refuses refused) h =
              inl (meant had.text
              ∙ ap (λ r. r >>= λ timed. refused_by ByTask
              (prepared_in timed problem request.machines)) h)
          stopped Fails h = h
          stopped Wants h = h

      module _ (timed : TimedData)
          (had : ReadsTo {A = A} says remaining old new (Ok timed)) where
        -- what the text means, once the instance is known
        whole : problem_task_for request had.text
            ≡ refused_by ByTask (prepared_in timed problem request.machines)
        whole =
            meant had.text
            ∙ ap (λ r. r >>= λ timed. refused_by ByTask
            (prepared_in timed problem request.machines)) had.given

        -- the instance is no task
        pub untasked : (refusal : Refusal)
            → PreparesIn (Err refusal) (prepared_in timed problem request.machines)
            → ReadsProblemTask {A = A} request remaining old new (Err (of_refusal refusal))
        untasked refusal h = record {
          text = had.text;
          is_all = had.is_all;
          given = stopped (stop_of (of_refusal {A = A} refusal))
              (unprepared A (prepared_in timed problem request.machines) refusal h);
          reader = instance_later (instance_left (problem_in request.problem) problem says remaining
              old new (Ok timed) line had)
              (Some (stop_of (of_refusal {A = A} refusal)));
        }
          where
            because : (refused : Refused)
                → IsRefusal (refused_by ByTask (prepared_in timed problem request.machines)) refused
                → IsRefusedBound request had.text refused
            because refused (inl e) = inl (whole ∙ e)
            because refused (inr (same, (task, e, large))) = inr (same, (task, whole ∙ e, large))

            stopped : (s : Stop)
                → StopsBy (IsRefusal (refused_by ByTask
                (prepared_in timed problem request.machines))) s
                → StopsReading (IsRefusedBound request had.text) (has_failed new ≡ true) s
            stopped (Refuses refused) h = because refused h
            stopped Fails h = absurd h
            stopped Wants h = tt

        -- the task
        pub tasked : (k : ProblemData)
            → prepared_in timed problem request.machines ≡ Ok k
            → ReadsProblemTask {A = A} request remaining old new (Ok k)
        tasked k h = record {
          text = had.text;
          is_all = had.is_all;
          given = whole ∙ ap (refused_by ByTask) h;
          reader = instance_left (problem_in request.problem) problem says remaining old
              new (Ok timed) line had;
        }

-- ---- the same of a form and a number of machines that are the request's

module _ (A T : Type 0) (request : RequestData) (remaining : T → Option (List ℕ))
    (old new : Counted T) (problem : Problem) (line : problem_in request.problem ≡ Ok problem)
    (form : FormData) (is : form ≡ request.form) where
  same_reads : (r : Result TimedData (RunFault A))
      → ReadsTo (timed_said form problem.env) remaining old new r
      → ReadsTo (timed_said request.form problem.env) remaining old new r
  same_reads r had =
      subst (λ (f : FormData). ReadsTo (timed_said f problem.env) remaining old new r) is had

  pub uninstanced_by : (e : RunFault A)
      → ReadsTo (timed_said form problem.env) remaining old new (Err e)
      → ReadsProblemTask request remaining old new (Err e)
  uninstanced_by e had =
      uninstanced A T request remaining old new problem line e (same_reads (Err e) had)

  module _ (machines : Option ℕ) (same : machines ≡ request.machines) (timed : TimedData)
      (had : ReadsTo {A = A} (timed_said form problem.env) remaining old new (Ok timed)) where
    pub untasked_by : (refusal : Refusal)
        → PreparesIn (Err refusal) (prepared_in timed problem machines)
        → ReadsProblemTask {A = A} request remaining old new (Err (of_refusal refusal))
    untasked_by refusal h =
        untasked A T request remaining old new problem line timed (same_reads (Ok timed) had) refusal
        (subst (λ (m : Option ℕ). PreparesIn (Err refusal) (prepared_in timed problem m)) same h)

    pub tasked_by : (k : ProblemData) → prepared_in timed problem machines ≡ Ok k
        → ReadsProblemTask {A = A} request remaining old new (Ok k)
    tasked_by k h =
        tasked A T request remaining old new problem line timed (same_reads (Ok timed) had) k
        (subst (λ (m : Option ℕ). prepared_in timed problem m ≡ Ok k) same h)
